-- Joined numbers, where 0 stands for no index.
use Rattle.std.proofs.Common.{◌≡◌, ℕ, suc, ◌<◌, min, max, eqb, List, [], ◌∷◌, Some, None, Option, sym, refl, ◌∙◌, ap₂, inl, inr, arith}
use Rattle.std.specs.List.{AllByRecursion}
use Rattle.std.proofs.lemmas.Bool.{cases_Bool, eqb-false, ne_eqb, cases_eq}
use Rattle.causality.specs.Relations.{joined, merged, joined_if}
use Rattle.gathering.specs.Gathering.{earliest}
use Rattle.records.specs.Summaries.{present}

pub present_suc : (k n : ℕ) → k ≡ suc n → present k ≡ Some k
present_suc k n e = rw (ne_eqb k 0 (omega arith))

merged-none : (g : ℕ → ℕ → ℕ) (o : Option ℕ) → merged g o None ≡ o
merged-none g None = refl
merged-none g (Some k) = refl

-- the least index, where there is one
pub present-earliest : (a b : ℕ) → present (earliest a b) ≡ merged min (present a) (present b)
present-earliest a b =
    elim (cases_Bool (eqb a 0)) [
      | inl s ↦ rw s
      | inr s ↦
          let some : 0 < a = omega (arith, eqb-false a 0 s) in
          elim (cases_Bool (eqb b 0)) [
            | inl t ↦ rw (s, t, s)
            | inr t ↦ let least : min a b ≡ 0 → ⊥ = λ e. omega (arith, eqb-false b 0 t) in rw (s, t, ne_eqb (min a b) 0 least)
          ]
    ]

-- the greatest index, where there is one
pub present-greatest : (a b : ℕ) → present (max a b) ≡ merged max (present a) (present b)
present-greatest a b =
    elim (cases_eq a 0) [
      | inl e ↦ let same : max a b ≡ b = omega arith in rw (same, e)
      | inr e ↦
          let top : max a b ≡ 0 → ⊥ = λ z. omega arith in
          elim (cases_eq b 0) [
            | inl z ↦ let same : max a b ≡ a = omega arith in rw (same, z, ne_eqb a 0 e)
            | inr z ↦ rw (ne_eqb a 0 e, ne_eqb b 0 z, ne_eqb (max a b) 0 top)
          ]
    ]

module _ (f g : ℕ → ℕ → ℕ) (keeps : (a b : ℕ) → present (f a b) ≡ merged g (present a) (present b)) where
  pub present-joined : (of : ℕ → ℕ) (index : ℕ → Option ℕ) (x : ℕ) (xs : List ℕ) → AllByRecursion (λ u. present (of u) ≡ index u) (x ∷ xs) → present (joined f of x xs) ≡ joined_if g index (x ∷ xs)
  present-joined of index x [] (h, _) = h ∙ sym (merged-none g (index x))
  present-joined of index x (u ∷ us) (h, hs) = keeps (of x) (joined f of u us) ∙ ap₂ (merged g) h (present-joined of index u us hs)

pub joined_like : (f : ℕ → ℕ → ℕ) (g h : ℕ → ℕ) (x : ℕ) (xs : List ℕ) → AllByRecursion (λ u. g u ≡ h u) (x ∷ xs) → joined f g x xs ≡ joined f h x xs
joined_like f g h x [] (e, _) = e
joined_like f g h x (u ∷ us) (e, es) = ap₂ f e (joined_like f g h u us es)
