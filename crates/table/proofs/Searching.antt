-- What a binary search finds in a table, by the laws of the order of keys.
use Rattle.std.proofs.Common.{◌≡◌, ℕ, zero, suc, ◌<◌, List, length, get_or, MatchResult, Ok, Err, Result, ap, ◌∙◌, inl, inr, add-one, arith}
use Rattle.std.specs.Cmp.{IsTotalOrder}
use Rattle.std.specs.declared.cmp.Ordering.{Ordering}
use Rattle.std.specs.List.Sorted.{IsBinarySearchResult, IsSearchInRange, IsSortedBy}
use Rattle.std.specs.Ordering.{is_lt, ordering_reverse}
use Rattle.std.proofs.lemmas.Bool.{cases_eq}
use Rattle.std.proofs.lemmas.List.Sorted.{searchable_from_sorted}
use Rattle.table.specs.Tables.{Rising, Found, Gap}

module _ {X K : Type 0} (cmp : K → K → Ordering) (total : IsTotalOrder cmp) (key : X → K) where
  -- what is before comes after, seen from the other side
  pub turned : (x y : K) (o : Ordering) → cmp x y ≡ o → cmp y x ≡ ordering_reverse o
  turned x y o e = total.antisymm y x ∙ ap ordering_reverse e

  pub far : (xs : List X) → Rising cmp key xs → (i j : ℕ) (d : X) → i < j → j < length xs → cmp (key (get_or xs i d)) (key (get_or xs j d)) ≡ Ordering.Less
  far xs up i zero d h w = absurd (omega arith)
  far xs up i (suc j) d h w =
      let next : cmp (key (get_or xs j d)) (key (get_or xs (suc j) d)) ≡ Ordering.Less = rw add-one at (up j d (omega arith)) in
      elim (cases_eq i j) [ inl e ↦ rw e next | inr ne ↦ total.trans _ (key (get_or xs j d)) _ (far xs up i j d (omega arith) (omega arith)) next ]

  sorted : (xs : List X) → Rising cmp key xs → IsSortedBy (λ a b. is_lt (cmp (key a) (key b))) xs
  sorted xs up k d low h = ap is_lt (turned _ _ Ordering.Less (up k d h))

  module _ (exact : (x y : K) → cmp x y ≡ Ordering.Equal → x ≡ y) (k : K) (xs : List X) (up : Rising cmp key xs) where
    pub searched : (r : Result ℕ ℕ) → IsSearchInRange r (length xs) → IsBinarySearchResult (λ x. cmp (key x) k) xs r → MatchResult r (Found key k xs) (Gap cmp key k xs)
    searched (Ok i) low equal = (low, λ d. exact _ _ (equal d))
    searched (Err i) low parted =
        let parts = parted (searchable_from_sorted total key xs k (sorted xs up)) in
        (low, (λ j d h. parts.0 j d (omega arith) h), λ j d h w. parts.1 j d h w)
    -- no record has the key of a gap
