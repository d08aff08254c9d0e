-- How the number of lines goes on from one line to the next.
use Rattle.std.proofs.Common.{◌≡◌, ℕ, zero, suc, ◌+◌, ◌-◌, ◌<◌, ◌≤◌, Bool, false, not, Option, None, Some, MatchOption, cond, eqb, List, [], ◌∷◌, ◌++◌, length, get_or, refl, ap, arith}
use Rattle.std.specs.Borrow.{Bor}
use Rattle.std.specs.List.{count_by}
use Rattle.std.proofs.lemmas.List.Recursion.{is_sum_by}
use Rattle.std.proofs.lemmas.Bool.Decides.{nat_tests}
use Rattle.job_text.specs.Lines.{Cut, NoEnd}
use Rattle.job_text.specs.Texts.{ends, line_count, tail}

ends-cut : (x t : List ℕ) → NoEnd x → ends (x ++ (10 ∷ t)) ≡ 1 + ends t
ends-cut [] t c = refl
ends-cut (b ∷ x) t c = let r = ends-cut x t c.1 in let n = c.0 in grind (arith, nat_tests)

tail-cut : (x t : List ℕ) → tail (x ++ (10 ∷ t)) ≡ tail t
tail-cut [] [] = refl
tail-cut [] (c ∷ t) = refl
tail-cut (b ∷ []) t = tail-cut [] t
tail-cut (b ∷ c ∷ x) t = tail-cut (c ∷ x) t

-- a line with its 0A counts one
pub count-line : {s x t : List ℕ} (n : ℕ) {m : ℕ} → Cut s x t → n + line_count s ≡ m → n + 1 + line_count t ≡ m
count-line {x = x} {t = t} n h e = omega (arith, ends-cut x t h.clear, tail-cut x t, ap line_count h.is)

-- a text of no line is empty
pub no_lines : (x : List ℕ) → line_count x ≡ 0 → x ≡ []
no_lines [] e = refl
no_lines (b ∷ []) e = absurd (grind (arith, nat_tests))
no_lines (b ∷ d ∷ x) e = let none = no_lines (d ∷ x) (omega arith) in absurd (let z = ap length none in omega arith)

-- no more lines than bytes
pub count_le : (x : List ℕ) → line_count x ≤ length x
count_le [] = omega arith
count_le (b ∷ []) = grind (arith, nat_tests)
count_le (b ∷ d ∷ x) = let r = count_le (d ∷ x) in grind (arith, nat_tests)

-- ---- the number of lines by the last byte

pub ends-count : (x : List ℕ) → ends x ≡ count_by (λ b. eqb b 10) x
ends-count x = is_sum_by ends (λ b. cond (eqb b 10) 1 0) refl (λ _ _. refl) x

pub tail-last : (x : List ℕ) (k : ℕ) → length x ≡ k + 1 → tail x ≡ cond (eqb (get_or x k 0) 10) 0 1
tail-last [] k long = absurd (omega arith)
tail-last (b ∷ []) zero long = refl
tail-last (b ∷ []) (suc k) long = absurd (omega arith)
tail-last (b ∷ c ∷ x) zero long = absurd (omega arith)
tail-last (b ∷ c ∷ x) (suc k) long = tail-last (c ∷ x) k (omega arith)

-- a last byte that is no 0A counts one
pub last_counts : {P : Bor ℕ → Type 0} (x : List ℕ) (o : Option (Bor ℕ)) (r : Bool) → MatchOption o (length x ≡ 0) (λ l. (0 < length x) × (l.now ≡ get_or x (length x - 1) 0)) → MatchOption o (r ≡ false) P → ((l : Bor ℕ) → P l → r ≡ not (eqb l.now 10)) → cond r 1 0 ≡ tail x
last_counts [] None r e h k = rw h refl
last_counts (b ∷ x) None r e h k = absurd (omega arith)
last_counts x (Some l) r e h k = let t = tail-last x (length x - 1) (let s = e.0 in omega arith) in let is = k l h in grind (arith, nat_tests)
