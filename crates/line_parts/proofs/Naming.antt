-- Names at the front of a list: there is at most one, and it is the letters in front.
use Rattle.std.proofs.Common.{◌≡◌, ℕ, ◌<◌, ◌≤◌, Bool, true, ◌&&◌, leb, Option, MatchOption, inl, inr, List, [], ◌∷◌, ◌++◌, length, get_or, sym, refl, ◌∙◌, subst, arith}
use Rattle.std.specs.Bool.{then_some}
use Rattle.std.specs.Borrow.{Bor}
use Rattle.std.specs.List.{AllByRecursion}
use Rattle.std.proofs.lemmas.Bool.{and_parts, both_ways, cases_Bool, leb-true, le-leb}
use Rattle.std.proofs.lemmas.Bool.Decides.{nat_tests}
use Rattle.history.specs.History.{all_letters, is_letter}
use Rattle.line_parts.specs.Parts.{Letter, Name, NameAt, Run}
use Rattle.line_parts.proofs.Reading.{at_end, at_space, same_run}

letters : (bs : List ℕ) → all_letters bs ≡ true → AllByRecursion Letter bs
letters [] e = tt
letters (b ∷ bs) e = let (f, g) = and_parts (is_letter b) (all_letters bs) e in (f, letters bs g)

letters_back : (bs : List ℕ) → AllByRecursion Letter bs → all_letters bs ≡ true
letters_back [] h = refl
letters_back (b ∷ bs) h = rw h.0 (letters_back bs h.1)

-- what a name is
pub name_parts : (bs : List ℕ) → Name bs → (1 ≤ length bs) × (length bs ≤ 8) × AllByRecursion Letter bs
name_parts bs h =
    let (f, g) = and_parts (leb 1 (length bs)) (leb (length bs) 8 && all_letters bs) h in
    let (k, l) = and_parts (leb (length bs) 8) (all_letters bs) g in
    (leb-true 1 (length bs) f, leb-true (length bs) 8 k, letters bs l)

a_name : (bs : List ℕ) → 1 ≤ length bs → length bs ≤ 8 → AllByRecursion Letter bs → Name bs
a_name bs f g h = rw (le-leb 1 (length bs) f, le-leb (length bs) 8 g) (letters_back bs h)

pub no_letter : (b : ℕ) → b < 48 → Letter b → ⊥
no_letter b lt h = grind (arith, nat_tests)

-- a list begins with at most one name
pub same_name : {s n m p q : List ℕ} → NameAt s n p → NameAt s m q → (n ≡ m) × (p ≡ q)
same_name {n = n} {m = m} {p = p} {q = q} a b =
    same_run Letter n m p q (name_parts n a.sound).2 (name_parts m b.sound).2 a.stops b.stops (sym a.spelt ∙ b.spelt)

pub name_end : {s : List ℕ} (n : List ℕ) → Name n → s ≡ n → NameAt s n []
name_end = at_end (no_letter 0 (omega arith))

pub name_space : {s : List ℕ} (n rest : List ℕ) → get_or rest 0 0 ≡ 32 → Name n → s ≡ n ++ rest → NameAt s n rest
name_space = at_space (no_letter 32 (omega arith))

-- ---- the name in front is the letters in front

pub name_long : {s name rest : List ℕ} → Run Letter s name rest → (n t : List ℕ) → NameAt s n t → (1 ≤ length name) × (length name ≤ 8)
name_long {name = name} {rest = rest} h n t k =
    let f = name_parts n k.sound in
    let same = (same_run Letter name n rest t h.all f.2 h.stops k.stops (h.whole ∙ k.spelt)).0 in
    subst (λ l. (1 ≤ length l) × (length l ≤ 8)) (sym same) (f.0, f.1)

pub name_here : {s name rest : List ℕ} → Run Letter s name rest → 1 ≤ length name → length name ≤ 8 → NameAt s name rest
name_here {name = name} h some short = record { sound = a_name name some short h.all; spelt = sym h.whole; stops = h.stops }

-- what is read, by whether the letters in front are few enough
pub named : {s : List ℕ} (name rest : Bor (List ℕ)) {b : Bool} {r : Option (Bor (List ℕ) × Bor (List ℕ))} → r ≡ then_some b (name, rest) → (b ≡ true → (1 ≤ length name.now) × (length name.now ≤ 8)) → (1 ≤ length name.now → length name.now ≤ 8 → b ≡ true) → Run Letter s name.now rest.now →
    MatchOption r ((n t : List ℕ) → NameAt s n t → ⊥) (λ x. NameAt s x.0.now x.1.now)
named name rest {b} e fits few h = elim (cases_Bool b) [
  | inl is ↦ rw (e, is) (name_here h (fits is).0 (fits is).1)
  | inr is ↦ rw (e, is) (λ n t k. let long = name_long h n t k in both_ways b is (few long.0 long.1))
]
