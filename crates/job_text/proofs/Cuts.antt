-- A text is cut behind its first 0A, in one way only.
use Rattle.std.proofs.Common.{◌≡◌, ℕ, ◌+◌, ◌-◌, ◌<◌, ◌≤◌, Option, Some, None, cond, eqb, ltb, List, [], ◌∷◌, ◌++◌, length, get_or, take, drop, Decides, sym, refl, ap, ◌∙◌, inl, inr, arith, length-append, length-drop}
use Rattle.std.specs.List.{position_or_len}
use Rattle.std.proofs.lemmas.List.{drop_all, get_or-drop, take_rest}
use Rattle.std.proofs.lemmas.List.Sums.{fails_before_first, passes_at_first}
use Rattle.std.proofs.lemmas.Bool.{both_ways, cases_lt, eq-eqb, eqb-true, lt-ltb, le-ltb}
use Rattle.std.proofs.lemmas.Bool.Decides.{nat_tests}
use Rattle.job_text.specs.Lines.{Clear, Cut, FirstEnd, NoEnd}
use Rattle.line_parts.proofs.Reading.{same_run}

-- ---- where `position` finds the first 0A of what stands from i on

abbrev pub first : List ℕ → ℕ
first part = position_or_len (λ b. eqb b 10) part

module _ (t part : List ℕ) (i : ℕ) (within : i ≤ length t) (is : part ≡ take (length t - i) (drop i t)) (r : Option ℕ) (found : r ≡ cond (ltb (first part) (length part)) (Some (first part)) None) where
  rest : part ≡ drop i t
  rest = is ∙ take_rest t i

  long : i + length part ≡ length t
  long = let e = ap length rest in omega (arith, length-drop i t)

  at : (j : ℕ) → i ≤ j → get_or part (j - i) 0 ≡ get_or t j 0
  at j le = let on : i + (j - i) ≡ j = omega arith in ap (λ l. get_or l (j - i) 0) rest ∙ get_or-drop i t (j - i) 0 ∙ ap (λ n. get_or t n 0) on

  before : (j : ℕ) → i ≤ j → j - i < first part → get_or t j 0 ≡ 10 → ⊥
  before j le lt e = both_ways _ (fails_before_first (λ b. eqb b 10) part (j - i) 0 lt) (eq-eqb _ 10 (at j le ∙ e))

  pub first_end : (k : ℕ) → r ≡ Some k → FirstEnd t i (i + k)
  first_end k e = elim (cases_lt (first part) (length part)) [
    | inl lt ↦
        let one = rw (lt-ltb _ _ lt) at found in
        let same : k ≡ first part = cc in
        let total = long in
        let back : (i + k) - i ≡ first part = omega arith in
        record {
          behind = omega arith;
          inside = omega arith;
          ends = sym (at (i + k) (omega arith)) ∙ ap (λ n. get_or part n 0) back ∙ eqb-true _ 10 (passes_at_first (λ b. eqb b 10) part 0 lt);
          first = λ j le l. before j le (omega arith);
        }
    | inr le ↦ let none = rw (le-ltb _ _ le) at found in cc
  ]

  pub no_end : r ≡ None → Clear t i (length t)
  no_end e j le l = elim (cases_lt (first part) (length part)) [
    | inl lt ↦ let one = rw (lt-ltb _ _ lt) at found in cc
    | inr past ↦ let total = long in before j le (omega arith)
  ]

-- ---- cuts

pub cut_shorter : (s x t : List ℕ) → Cut s x t → length t < length s
cut_shorter s x t h = omega (arith, ap length h.is, length-append x (10 ∷ t))

-- all of a text is read at its length
pub read_all : (t : List ℕ) (i : ℕ) → i ≤ length t → Decides (eqb i (length t)) (drop i t ≡ [])
read_all t i le = (λ e. drop_all i t (grind (arith, nat_tests)), λ e. let z : length t - i ≡ 0 = sym (length-drop i t) ∙ ap length e in grind (arith, nat_tests))

-- two cuts of one list are one
pub same-cut : (x y p q : List ℕ) → NoEnd x → NoEnd y → x ++ (10 ∷ p) ≡ y ++ (10 ∷ q) → (x ≡ y) × (p ≡ q)
same-cut x y p q cx cy e =
    let r = same_run (λ b. b ≡ 10 → ⊥) x y (10 ∷ p) (10 ∷ q) cx cy (λ n. n refl) (λ n. n refl) e in
    (r.0, ap (drop 1) r.1)

-- a list with no 0A has no cut
pub no_cut : (x y q : List ℕ) → NoEnd x → x ≡ y ++ (10 ∷ q) → ⊥
no_cut [] [] q cx e = let z = ap length e in omega arith
no_cut [] (b ∷ y) q cx e = let z = ap length e in omega arith
no_cut (a ∷ x) [] q cx e = cx.0 (ap (λ l. get_or l 0 0) e)
no_cut (a ∷ x) (b ∷ y) q cx e = no_cut x y q cx.1 (ap (drop 1) e)
