use Rattle.std.proofs.Common.{◌≡◌, ℕ, false, ◌||◌, eqb, List, [], ◌∷◌, sym, refl, ap, ap₂, ◌∙◌, inl, inr, arith}
use Rattle.std.specs.List.{list_any}
use Rattle.std.proofs.lemmas.Bool.{cond-false, cases_eq, ne_eqb}
use Rattle.causality.specs.Newest.{has}
use Rattle.summaries.proofs.members.add.Goals as goal

eqb-turned : (a b : ℕ) → eqb a b ≡ eqb b a
eqb-turned a b = elim (cases_eq a b) [ inl e ↦ rw e | inr e ↦ ne_eqb a b e ∙ sym (ne_eqb b a (λ h. e (sym h))) ]

has_any : (x : ℕ) (xs : List ℕ) → list_any (λ y. eqb y x) xs ≡ has (eqb x) xs
has_any x [] = refl
has_any x (y ∷ ys) = ap₂ (λ a b. a || b) (eqb-turned y x) (has_any x ys)

pub returns-then-not-contains : goal.returns-then-not-contains
returns-then-not-contains c =
    let items = c.args.members.now.items in
    let new : has (eqb c.args.event) items ≡ false = sym (has_any c.args.event items) ∙ ap (list_any (λ y. eqb y c.args.event)) (sym c.deref.ensures.0) ∙ sym c.contains.ensures.value ∙ c.if-not-contains.true in
    record {
      added = c.push.ensures.items ∙ sym (cond-false _ _ _ new);
      len = omega (arith, c.push.ensures.len);
    }
