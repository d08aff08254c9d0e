-- An insertion: the record is put into the free place at the end, and slid down to its own.
use Rattle.std.proofs.Common.{◌≡◌, ℕ, zero, suc, ◌+◌, ◌-◌, ◌<◌, ◌≤◌, cond, ◌⊎◌, List, [], ◌∷◌, ◌++◌, length, get_or, take, drop, set, MatchResult, IsErr, Ok, Err, Result, sym, refl, ap, ◌∙◌, subst, ap₂, inl, inr, append-nil, arith, length-append, length-drop}
use borrow.Rule.Slice.PartMut.{mid_of, put_mid}
use Rattle.std.specs.Cmp.{IsTotalOrder}
use Rattle.std.specs.declared.cmp.Ordering.{Ordering}
use Rattle.std.specs.List.{insert}
use Rattle.std.specs.Ordering.{is_lt}
use Rattle.std.proofs.lemmas.Bool.{cases_order}
use Rattle.std.proofs.lemmas.List.{take_more_set, take_all, drop_all, take-append-le, drop-append-le, length-take-le, length-set}
use Rattle.std.proofs.lemmas.List.Edits.{length-insert, get_or-insert_below, get_or-insert_at, get_or-insert_above}
use Rattle.std.proofs.Math.Seq.{drop-append_seam, take-append_seam}
use Rattle.table.specs.Tables.{Rising, Lacks, Found, Gap, placed}
use Rattle.table.proofs.Searching.{turned, far}

turned_one : {X : Type 0} (ds : List X) (x : X) → drop (length (ds ++ x ∷ []) - 1) (ds ++ x ∷ []) ++ take (length (ds ++ x ∷ []) - 1) (ds ++ x ∷ []) ≡ x ∷ ds
turned_one ds x =
    let n : length (ds ++ x ∷ []) - 1 ≡ length ds = omega (arith, length-append ds (x ∷ [])) in
    rw n (ap₂ (λ xs ys. xs ++ ys) (drop-append_seam ds (x ∷ [])) (take-append_seam ds (x ∷ [])))

-- a list t with x in its last place, of which the part from `at` on is turned by one
module _ {X : Type 0} (t : List X) (x : X) where
  abbrev pub filled : List X
  filled = set t (length t - 1) x

  abbrev pub part : ℕ → List X
  part at = mid_of at (length filled - at) filled

module _ {X : Type 0} (t : List X) (x : X) (room : 0 < length t) (at : ℕ) (low : at ≤ length t - 1) where
  abbrev front : List X
  front = take (length t - 1) t

  filled-is : (filled t x) ≡ front ++ x ∷ []
  filled-is =
      sym (take_all (length t - 1 + 1) (filled t x) (omega (arith, length-set t (length t - 1) x))) ∙ take_more_set t (length t - 1) x (omega arith)

  pub slid : (turned-part : List X) → turned-part ≡ drop (length (part t x at) - 1) (part t x at) ++ take (length (part t x at) - 1) (part t x at) → put_mid at (length (filled t x) - at) (filled t x) turned-part ≡ insert front at x
  slid ys e =
      let within : at ≤ length front = omega (arith, length-take-le (length t - 1) t (omega arith)) in
      let all = length-drop at (filled t x) in
      let part-is : (part t x at) ≡ drop at front ++ x ∷ [] = take_all (length (filled t x) - at) (drop at (filled t x)) (omega arith) ∙ ap (drop at) filled-is ∙ drop-append-le at front (x ∷ []) within in
      let ys-is : ys ≡ x ∷ drop at front = e ∙ ap (λ (l : List X). drop (length l - 1) l ++ take (length l - 1) l) part-is ∙ turned_one (drop at front) x in
      let none : drop (length (filled t x) - at) (drop at (filled t x)) ≡ [] = drop_all (length (filled t x) - at) (drop at (filled t x)) (omega arith) in
      let head : take at (filled t x) ≡ take at front = ap (take at) filled-is ∙ take-append-le at front (x ∷ []) within in
      ap₂ (λ (xs zs : List X). xs ++ zs) head (ap₂ (λ (xs zs : List X). xs ++ zs) ys-is none ∙ append-nil (x ∷ drop at front))

module _ {X K : Type 0} (cmp : K → K → Ordering) (total : IsTotalOrder cmp) (key : X → K) where
  -- x's key is before the keys from its gap on
  above : (x : X) (xs : List X) (i j : ℕ) (d : X) → Gap cmp key (key x) xs i → i ≤ j → j < length xs → cmp (key x) (key (get_or xs j d)) ≡ Ordering.Less
  above x xs i j d gap low h = turned cmp total key _ _ Ordering.Greater (gap.2 j d low h)

  pub placed-is : (x : X) (xs : List X) (i : ℕ) → Gap cmp key (key x) xs i → insert xs i x ≡ placed cmp key x xs
  placed-is x [] zero gap = refl
  placed-is x [] (suc i) gap = absurd (omega (arith, gap.0))
  placed-is x (y ∷ ys) zero gap = sym (ap (λ (o : Ordering). cond (is_lt o) (x ∷ y ∷ ys) (y ∷ placed cmp key x ys)) (above x (y ∷ ys) 0 0 x gap (omega arith) (omega arith)))
  placed-is x (y ∷ ys) (suc i) gap =
      ap (λ l. y ∷ l) (placed-is x ys i (omega (arith, gap.0), λ j d w. gap.1 (suc j) d (omega arith), λ j d w v. gap.2 (suc j) d (omega arith) (omega arith)))
      ∙ sym (ap (λ (o : Ordering). cond (is_lt o) (x ∷ y ∷ ys) (y ∷ placed cmp key x ys)) (turned cmp total key _ _ Ordering.Less (gap.1 0 x (omega arith))))

  pub rises_inserted : (x : X) (xs : List X) (i : ℕ) → Rising cmp key xs → Gap cmp key (key x) xs i → Rising cmp key (insert xs i x)
  rises_inserted x xs i up gap a d bl =
      let b : ℕ = a + 1 in
      let le : i ≤ length xs = gap.0 in
      let long : length (insert xs i x) ≡ length xs + 1 = length-insert xs i x le in
      let at : (j : ℕ) → j < length xs + 1 → (j < i) ⊎ ((j ≡ i) ⊎ (i < j)) = λ j w. elim (cases_order j i) [ inl e ↦ inr (inl e) | inr v ↦ elim v [ inl l ↦ inl l | inr r ↦ inr (inr r) ] ] in
      let low : (j : ℕ) → j < i → get_or (insert xs i x) j d ≡ get_or xs j d = λ j w. get_or-insert_below xs i x d j w le in
      let mid : get_or (insert xs i x) i d ≡ x = get_or-insert_at xs i x d le in
      let high : (j : ℕ) → i < j → get_or (insert xs i x) j d ≡ get_or xs (j - 1) d = λ j w.
      let back : j ≡ (j - 1) + 1 = omega arith in
      ap (λ z. get_or (insert xs i x) z d) back ∙ get_or-insert_above xs i x d (j - 1) (omega arith) le in
      let away : (y z : ℕ) → y < z → z < length xs → cmp (key (get_or xs y d)) (key (get_or xs z d)) ≡ Ordering.Less = λ y z yz zl. far cmp total key xs up y z d yz zl in
      elim (at a (omega arith)) [
        | inl al ↦ elim (at b (omega arith)) [
          | inl bl' ↦ rw (low a al, low b bl') (away a b (omega arith) (omega arith))
          | inr bw ↦ elim bw [
            | inl be ↦ rw (low a al, be, mid) (gap.1 a d al)
            | inr bg ↦ absurd (omega arith)
          ]
        ]
        | inr aw ↦ elim aw [
          | inl ae ↦ let bg : i < b = omega arith in rw (high b bg, ae, mid) (above x xs i (i + 1 - 1) d gap (omega arith) (omega arith))
          | inr ag ↦ let bg : i < b = omega arith in rw (high a ag, high b bg) (away (a - 1) (b - 1) (omega arith) (omega arith))
        ]
      ]

  -- a search for the key of a record that is new finds its gap
  pub not_found : (x : X) (xs : List X) → Lacks key (key x) xs → (k : K) → k ≡ key x → (r : Result ℕ ℕ) → MatchResult r (Found key k xs) (Gap cmp key k xs) → IsErr r
  not_found x xs fresh k is (Ok i) found = absurd (fresh i x found.0 (found.1 x ∙ is))
  not_found x xs fresh k is (Err i) gap = refl

  pub gap_at : (x : X) (xs : List X) (k : K) → k ≡ key x → (r : Result ℕ ℕ) → MatchResult r (Found key k xs) (Gap cmp key k xs) → (at : ℕ) → r ≡ Err at → Gap cmp key (key x) xs at
  gap_at x xs k is r found at e =
      let gap : Gap cmp key k xs at = subst (λ (s : Result ℕ ℕ). MatchResult s (Found key k xs) (Gap cmp key k xs)) e found in
      subst (λ (l : K). Gap cmp key l xs at) is gap

  -- the whole: x slid down from the free place at the end of t to its gap
  module _ (t : List X) (x : X) (room : 0 < length t) (up : Rising cmp key (take (length t - 1) t)) (at : ℕ) (gap : Gap cmp key (key x) (take (length t - 1) t) at) (ys : List X) (e : ys ≡ drop (length (part t x at) - 1) (part t x at) ++ take (length (part t x at) - 1) (part t x at)) where
    slid-down : put_mid at (length (filled t x) - at) (filled t x) ys ≡ insert (take (length t - 1) t) at x
    slid-down = slid t x room at (omega (arith, gap.0, length-take-le (length t - 1) t (omega arith))) ys e

    pub inserted : put_mid at (length (filled t x) - at) (filled t x) ys ≡ placed cmp key x (take (length t - 1) t)
    inserted = slid-down ∙ placed-is x (take (length t - 1) t) at gap

    pub inserted_rises : Rising cmp key (put_mid at (length (filled t x) - at) (filled t x) ys)
    inserted_rises = subst (Rising cmp key) (sym slid-down) (rises_inserted x (take (length t - 1) t) at up gap)
