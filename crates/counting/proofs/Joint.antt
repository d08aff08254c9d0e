-- Rows joined number by number, at one node.
use Rattle.std.proofs.Common.{◌≡◌, ℕ, suc, ◌<◌, List, [], ◌∷◌, map, length, get_or, fold, Option, refl, ap, ◌∙◌, arith}
use Rattle.causality.specs.Relations.{joined}
use Rattle.clock.specs.Meaning.{Meaning, counted}
use Rattle.gathering.specs.declared.Row.{Row}
use Rattle.gathering.specs.Gathering.{joined_all}
use Rattle.gathering.proofs.Folds.{folded_out}
use Rattle.gathering.specs.Zips.{zipped_assoc, length-zipped, get_or-zipped}
use Rattle.counting.specs.Counting.{or_zero, or_zeros, count_row, zipped_rows, Joint, JointRow}
use Rattle.counting.proofs.Rows.{length-row, get_or-row}

module _ (f : ℕ → ℕ → ℕ) (associative : (x y z : ℕ) → f (f x y) z ≡ f x (f y z)) where
  abbrev pub op : Row → Row → Row
  op = zipped_rows f

  op-associative : (x y z : Row) → op (op x y) z ≡ op x (op y z)
  op-associative x y z = ap (λ (l : List ℕ). record { counts = l }) (zipped_assoc f associative x.counts y.counts z.counts)

  module _ (of : ℕ → Row) (long : (u : ℕ) → length (of u).counts ≡ 16) where
    long-joined : (x : ℕ) (xs : List ℕ) → length (fold op (of x) (map of xs)).counts ≡ 16
    long-joined x [] = long x
    long-joined x (u ∷ us) =
        ap (λ (r : Row). length r.counts) (folded_out op op-associative (of x) (of u) (map of us))
        ∙ length-zipped f (of x).counts (fold op (of u) (map of us)).counts ∙ omega (arith, long x, long-joined u us)

    at_place : (x : ℕ) (xs : List ℕ) (i : ℕ) → i < 16 → get_or (fold op (of x) (map of xs)).counts i 0 ≡ joined f (λ u. get_or (of u).counts i 0) x xs
    at_place x [] i l = refl
    at_place x (u ∷ us) i l =
        ap (λ (r : Row). get_or r.counts i 0) (folded_out op op-associative (of x) (of u) (map of us))
        ∙ get_or-zipped f (of x).counts (fold op (of u) (map of us)).counts i 0 (omega (arith, long x)) (omega (arith, long-joined u us))
        ∙ ap (f (get_or (of x).counts i 0)) (at_place u us i l)

    pub joint_rows : (es : List ℕ) (r : Row) → r ≡ or_zeros (joined_all op (map of es)) → JointRow f of es r
    joint_rows [] r e = tt
    joint_rows (x ∷ xs) r e = λ i l. ap (λ (q : Row). get_or q.counts i 0) e ∙ at_place x xs i l

  joined_like : (g h : ℕ → ℕ) → ((u : ℕ) → g u ≡ h u) → (x : ℕ) (xs : List ℕ) → joined f g x xs ≡ joined f h x xs
  joined_like g h e x [] = e x
  joined_like g h e x (u ∷ us) = rw (e x, joined_like g h e u us)

  pub joint : (μ : Meaning) (es : List ℕ) (r : Option Row) → r ≡ joined_all op (map (count_row μ) es) → Joint f μ es r
  joint μ [] r e = e
  joint μ (x ∷ xs) r e = (
    fold op (count_row μ x) (map (count_row μ) xs),
    e,
    λ i l.
        at_place (count_row μ) (λ u. length-row (λ j. or_zero (counted μ u j)) 16) x xs i l
        ∙ joined_like (λ u. get_or (count_row μ u).counts i 0) (λ u. or_zero (counted μ u (suc i))) (λ u. get_or-row (λ j. or_zero (counted μ u j)) 16 i l) x xs,
  )
