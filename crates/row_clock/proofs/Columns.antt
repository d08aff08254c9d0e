-- Reading a column, and columns with one more entry.
use Rattle.std.proofs.Common.{◌≡◌, ℕ, zero, suc, ◌-◌, ◌++◌, ap, ap₂, add-one, length-append, ◌<◌, ◌≤◌, true, false, set, eqb, length-set, ◌≢◌, cond, ltb, List, [], ◌∷◌, length, get_or, slice_get, Some, None, Option, Bor, sym, ◌∙◌, inl, inr, arith}
use Rattle.std.specs.Option.{option_copied}
use Rattle.std.specs.Slice.{IsItemAt}
use Rattle.std.proofs.lemmas.Bool.{cases_eq, cases_lt, cases_Bool, eq-eqb, eqb-true, eqb-false, ne_eqb}
use Rattle.std.proofs.lemmas.Option.{slice_get-get_or, slice_get_past}
use Rattle.std.proofs.lemmas.Bool.Decides.{nat_tests}
use Rattle.causality.specs.Newest.{entry, kth}
use mathlib.Core.Bool.{or-false}
use Rattle.causality.specs.Entries.{at_either}
use Rattle.clock.specs.Arrays.{listed}
use Rattle.clock.proofs.Arrays.{length-listed, listed_like}
use Rattle.causality.specs.Limits.{max_nodes, is_node}
use Rattle.clock.proofs.Arrays.{node_bounds}
use Rattle.row_clock.specs.Rows.{no_column, line, line_of}
use Rattle.std.proofs.Math.Seq.{get_or-append_seam}
use Rattle.std.proofs.lemmas.List.{get_or_append_left, get_or-set_same, get_or-set_other}

module _ (f : ℕ → ℕ) where
  entry_listed : (h n : ℕ) → entry (listed f h) n ≡ cond (ltb n h) (Some (f n)) None
  entry_listed zero n = grind (arith, nat_tests)
  entry_listed (suc h) n =
      let rec = entry_listed h n in
      elim (cases_eq n h) [ inl q ↦ rw (length-listed f h, q) (grind (arith, nat_tests)) | inr q ↦ rw (length-listed f h) (grind (arith, nat_tests, rec)) ]

  pub kth-listed : (h k : ℕ) → 1 ≤ k → k ≤ h → Some (f (k - 1)) ≡ kth (listed f h) k
  kth-listed h k l r = let it = entry_listed h (k - 1) in grind (arith, nat_tests, it)

  pub kth-past : (h k : ℕ) → (1 ≤ k → h < k) → None ≡ kth (listed f h) k
  kth-past h k out = let it = entry_listed h (k - 1) in grind (arith, nat_tests, it)

-- what stands in place k, in a list that is read from its end
pub kth_is : (xs : List ℕ) (k : ℕ) → 1 ≤ k → slice_get xs (k - 1) ≡ kth (listed (λ k. get_or xs k 0) (length xs)) k
kth_is xs k l =
    elim (cases_lt (k - 1) (length xs)) [
      | inl h ↦ slice_get-get_or xs (k - 1) 0 h ∙ kth-listed (λ k. get_or xs k 0) (length xs) k l (omega arith)
      | inr h ↦ slice_get_past xs (k - 1) h ∙ kth-past (λ k. get_or xs k 0) (length xs) k (λ _. omega arith)
    ]

-- a copy of what `get` gives
pub copied_is : (xs : List ℕ) (i : ℕ) (r : Option (Bor ℕ)) → IsItemAt xs i r → option_copied r ≡ slice_get xs i
copied_is xs i None h = sym (slice_get_past xs i h.3)
copied_is xs i (Some x) h = let (l, here) = h.3 in ap Some (here 0) ∙ sym (slice_get-get_or xs i 0 l)

-- one more entry of a column
pub line-push : (c d : List ℕ) (e : ℕ) → d ≡ c ++ (e ∷ []) → line d ≡ e ∷ line c
line-push c d e is =
    ap (λ (xs : List ℕ). listed (λ k. get_or xs k 0) (length xs)) is
    ∙ rw (length-append c (e ∷ []), add-one) (ap₂ (λ (x : ℕ) (xs : List ℕ). x ∷ xs) (get_or-append_seam c e [] 0) (listed_like _ _ (length c) (λ k l. get_or_append_left c (e ∷ []) 0 k l)))

-- ---- columns with one more entry

filed_at : (columns : List (List ℕ)) (x : List ℕ) (a e : ℕ) → is_node max_nodes a ≡ true → length columns ≡ max_nodes → line x ≡ e ∷ line_of columns a →
    (i : ℕ) → is_node max_nodes i ≡ true → line_of (set columns (a - 1) x) i ≡ cond (eqb a i) (e ∷ line_of columns i) (line_of columns i)
filed_at columns x a e node long grown i h =
    let (low, high) = node_bounds max_nodes a node in
    let (p, q) = node_bounds max_nodes i h in
    elim (cases_eq a i) [
      | inl same ↦ rw (eq-eqb a i same, ← same) (ap line (get_or-set_same columns (a - 1) x no_column (omega arith)) ∙ grown)
      | inr apart ↦ let ne : i - 1 ≢ a - 1 = omega arith in rw (ne_eqb a i apart) (ap line (get_or-set_other columns (a - 1) (i - 1) x no_column ne))
    ]

module _ (columns : List (List ℕ)) (x : List ℕ) (a e : ℕ) (node : is_node max_nodes a ≡ true) (long : length columns ≡ max_nodes) (grown : line x ≡ e ∷ line_of columns a) where
  pub filed_alone : (b : Option ℕ) → b ≡ None → (i : ℕ) → is_node max_nodes i ≡ true → line_of (set columns (a - 1) x) i ≡ cond (at_either a b i) (e ∷ line_of columns i) (line_of columns i)
  filed_alone b none i h = rw (none, or-false (eqb a i)) (filed_at columns x a e node long grown i h)

  pub filed_two : (y : List ℕ) (b : ℕ) (o : Option ℕ) → o ≡ Some b → is_node max_nodes b ≡ true → eqb b a ≡ false → line y ≡ e ∷ line_of (set columns (a - 1) x) b →
      (i : ℕ) → is_node max_nodes i ≡ true → line_of (set (set columns (a - 1) x) (b - 1) y) i ≡ cond (at_either a o i) (e ∷ line_of columns i) (line_of columns i)
  filed_two y b o some there apart grown_b i h =
      let other = filed_one' i h in
      let one = filed_at columns x a e node long grown i h in
      rw some (elim (cases_Bool (eqb b i)) [
        | inl s ↦
            let away : eqb a i ≡ false = ne_eqb a i (λ f. eqb-false b a apart (eqb-true b i s ∙ sym f)) in
            rw (s, away) (rw s at other ∙ ap (λ (xs : List ℕ). e ∷ xs) (rw away at one))
        | inr s ↦ rw (s, or-false (eqb a i)) (rw s at other ∙ one)
      ])
    where
      filed_one' : (i : ℕ) → is_node max_nodes i ≡ true → line_of (set (set columns (a - 1) x) (b - 1) y) i ≡ cond (eqb b i) (e ∷ line_of (set columns (a - 1) x) i) (line_of (set columns (a - 1) x) i)
      filed_one' i h = filed_at (set columns (a - 1) x) y b e there (length-set columns (a - 1) x ∙ long) grown_b i h
