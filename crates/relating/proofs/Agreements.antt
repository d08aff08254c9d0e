-- Sets of the same places in traces with equal columns have the same indexes and cuts, and so the same answers.
use Rattle.std.proofs.Common.{◌≡◌, ℕ, zero, suc, ◌-◌, ◌<◌, ◌≤◌, Bool, cond, leb, List, [], ◌∷◌, length, Some, None, Option, sym, refl, ap, ◌∙◌, inl, inr, arith}
use Rattle.std.proofs.lemmas.Bool.{eq-eqb, or_left}
use Rattle.std.proofs.lemmas.Bool.Decides.{nat_tests}
use Rattle.causality.specs.declared.Event.{Event}
use Rattle.causality.specs.Newest.{entry, picked, Mem}
use Rattle.causality.specs.Traces.{node_of, stands, events_at, Orderly}
use Rattle.causality.specs.Relations.{position, index, first_at, last_at, fore, aft, joint_past, whole_past, first_reach, joint_reach}
use Rattle.causality.specs.Columns.{recorded, PlaceOf, EqualColumns}
use Rattle.causality.proofs.Newest.{nothing, entry_cases, entry-some, all-entry, mem-entry, kth-entry, entry-kth, length-picked, numbers_in, numbers_descend, Descending}
use Rattle.causality.proofs.Relations.{indexed_nodes}
use Rattle.causality.proofs.Columns.{columns_decide}
use Rattle.relating.specs.Walks.{at_index, comparisons, every_walk, some_walk, compared, is_every, InRange}
use Rattle.relating.specs.Agreements.{Covered, SamePlaces, WalksAgree}
use Rattle.relating.proofs.Choices.{min_chooses, max_chooses, Found, same-joined_if, same-joined}

-- ---- places and indexes

entry-position : (c : List ℕ) → Descending c → (n x : ℕ) → entry c n ≡ Some x → position c x ≡ Some (suc n)
entry-position [] d n x e = absurd (nothing e)
entry-position (z ∷ zs) (top, d) n x e =
    elim (entry_cases z zs n x e) [
      | inl (h, same) ↦ grind (arith, nat_tests)
      | inr (_, f) ↦ let low = all-entry (λ w. w < z) zs n x top f in let rec = entry-position zs d n x f in grind (arith, nat_tests)
    ]

module _ (vs : List Event) where
  place-index : (i k u : ℕ) → PlaceOf vs i k u → index vs i u ≡ Some k
  place-index i k u p =
      let (l, e) = kth-entry (events_at vs i) k u p in
      let n : suc (k - 1) ≡ k = omega arith in
      entry-position (events_at vs i) (numbers_descend (λ v. stands v i) vs) (k - 1) u e ∙ ap Some n

  index-place : (i k u : ℕ) → index vs i u ≡ Some k → PlaceOf vs i k u
  index-place i k u e =
      let (w, m, l) = indexed_nodes vs (u ∷ []) i k (inl (rw e refl)) in
      let same : w ≡ u = elim m [ inl h ↦ sym h | inr z ↦ absurd z ] in
      let (n, f) = mem-entry (events_at vs i) u (rw same at l) in
      let p = entry-kth (events_at vs i) n ∙ f in
      let k-is : k ≡ suc n = cc (place-index i (suc n) u p) in
      rw k-is p

  own-place : (u : ℕ) → u < length vs → (i : ℕ) × (k : ℕ) × PlaceOf vs i k u
  own-place u l =
      let (v, e) = entry-some vs u l in
      let i = node_of v in
      let (n, f) = mem-entry (events_at vs i) u (numbers_in (λ w. stands w i) vs u v e (or_left _ _ (eq-eqb i i refl))) in
      (i, suc n, entry-kth (events_at vs i) n ∙ f)

-- ---- indexes and cuts agree

module _ (vs ws : List Event) where
  indexes_found : (xs xs' : List ℕ) → Covered vs xs ws xs' → (i : ℕ) → Found (index vs i) xs (index ws i) xs'
  indexes_found xs xs' covered i u k m e =
      let (u', m', p) = covered i k u m (index-place vs i k u e) in
      (u', m', place-index ws i k u' p)

  module _ (orderly : Orderly vs) (orderly' : Orderly ws) (same : EqualColumns vs ws) (xs xs' : List ℕ) (range : InRange vs xs) (covered : Covered vs xs ws xs') where
    twin : (u : ℕ) → Mem u xs → (u' : ℕ) × Mem u' xs' × ((i : ℕ) → fore vs u i ≡ fore ws u' i) × ((i : ℕ) → aft vs u i ≡ aft ws u' i)
    twin u m =
        let (n, e) = mem-entry xs u m in
        let (i, k, p) = own-place vs u (all-entry (λ w. w < length vs) xs n u range e) in
        let (u', m', p') = covered i k u m p in
        let agrees = columns_decide vs ws orderly orderly' same i k u u' i k u u' p p' p p' in
        (u', m', agrees.stamps, agrees.reverse_stamps)

    stamps-found : (i : ℕ) → Found (λ u. Some (fore vs u i)) xs (λ u. Some (fore ws u i)) xs'
    stamps-found i u k m e = let (u', m', s, _) = twin u m in (u', m', ap Some (sym (s i)) ∙ e)

    reverse_stamps-found : (i : ℕ) → Found (λ u. Some (aft vs u i)) xs (λ u. Some (aft ws u i)) xs'
    reverse_stamps-found i u k m e = let (u', m', _, s) = twin u m in (u', m', ap Some (sym (s i)) ∙ e)

pub column_heights : (vs ws : List Event) → EqualColumns vs ws → (i : ℕ) → length (events_at vs i) ≡ length (events_at ws i)
column_heights vs ws same i =
    let height : (us : List Event) → length (events_at us i) ≡ length (picked (recorded i) (λ v. stands v i) us) = λ us.
    length-picked (λ _ os. length os) (λ v. stands v i) us ∙ sym (length-picked (recorded i) (λ v. stands v i) us) in
    height vs ∙ ap length (same i) ∙ sym (height ws)

-- ---- comparisons agree

at_index_agrees : (o : Option ℕ) (test test' : ℕ → Bool) → ((k : ℕ) → test k ≡ test' k) → at_index o test ≡ at_index o test'
at_index_agrees None test test' same = refl
at_index_agrees (Some k) test test' same = rw (same k)

-- comparisons are alike where the indexes and tests at the nodes 1 to n are
pub comparisons_agree : (o o' : ℕ → Option ℕ) (test test' : ℕ → ℕ → Bool) (n : ℕ) →
    ((i : ℕ) → 1 ≤ i → i ≤ n → (o i ≡ o' i) × ((k : ℕ) → test i k ≡ test' i k)) → comparisons o test n ≡ comparisons o' test' n
comparisons_agree o o' test test' zero same = refl
comparisons_agree o o' test test' (suc n) same =
    let (index, tests) = same (suc n) (omega arith) (omega arith) in
    rw (comparisons_agree o o' test test' n (λ i l m. same i l (omega arith)), index, at_index_agrees (o' (suc n)) (test (suc n)) (test' (suc n)) tests)

-- ---- answers agree

-- what the walks read of a set is the same in both traces
pub record Alike (vs ws : List Event) (x : ℕ) (xs : List ℕ) (x' : ℕ) (xs' : List ℕ) : Type 0 where
  pub firsts : (i : ℕ) → first_at vs (x ∷ xs) i ≡ first_at ws (x' ∷ xs') i
  pub lasts : (i : ℕ) → last_at vs (x ∷ xs) i ≡ last_at ws (x' ∷ xs') i
  pub joint_pasts : (i : ℕ) → joint_past vs x xs i ≡ joint_past ws x' xs' i
  pub whole_pasts : (i : ℕ) → whole_past vs x xs i ≡ whole_past ws x' xs' i
  pub first_reaches : (i : ℕ) → first_reach vs x xs i ≡ first_reach ws x' xs' i
  pub joint_reaches : (i : ℕ) → joint_reach vs x xs i ≡ joint_reach ws x' xs' i

module _ (vs ws : List Event) (orderly : Orderly vs) (orderly' : Orderly ws) (same : EqualColumns vs ws) where
  pub sets_alike : (x : ℕ) (xs : List ℕ) (x' : ℕ) (xs' : List ℕ) → InRange vs (x ∷ xs) → InRange ws (x' ∷ xs') → SamePlaces vs (x ∷ xs) ws (x' ∷ xs') → Alike vs ws x xs x' xs'
  sets_alike x xs x' xs' range range' (there, back) =
      let heights = column_heights vs ws same in
      let there-at = indexes_found vs ws (x ∷ xs) (x' ∷ xs') there in
      let back_at = indexes_found ws vs (x' ∷ xs') (x ∷ xs) back in
      let there-fore = stamps-found vs ws orderly orderly' same (x ∷ xs) (x' ∷ xs') range there in
      let back-fore = stamps-found ws vs orderly' orderly (λ i. sym (same i)) (x' ∷ xs') (x ∷ xs) range' back in
      let there-aft = reverse_stamps-found vs ws orderly orderly' same (x ∷ xs) (x' ∷ xs') range there in
      let back-aft = reverse_stamps-found ws vs orderly' orderly (λ i. sym (same i)) (x' ∷ xs') (x ∷ xs) range' back in
      record {
        firsts = λ i. same-joined_if _ _ min_chooses _ _ (x ∷ xs) (x' ∷ xs') (there-at i) (back_at i);
        lasts = λ i. same-joined_if _ _ max_chooses _ _ (x ∷ xs) (x' ∷ xs') (there-at i) (back_at i);
        joint_pasts = λ i. same-joined _ _ min_chooses _ _ x xs x' xs' (there-fore i) (back-fore i);
        whole_pasts = λ i. same-joined _ _ max_chooses _ _ x xs x' xs' (there-fore i) (back-fore i);
        first_reaches = λ i. rw (heights i, same-joined _ _ max_chooses (λ u. aft vs u i) (λ u. aft ws u i) x xs x' xs' (there-aft i) (back-aft i));
        joint_reaches = λ i. rw (heights i, same-joined _ _ min_chooses (λ u. aft vs u i) (λ u. aft ws u i) x xs x' xs' (there-aft i) (back-aft i));
      }

compared_agree : (vs ws : List Event) (x : ℕ) (xs : List ℕ) (x' : ℕ) (xs' : List ℕ) (y : ℕ) (ys : List ℕ) (y' : ℕ) (ys' : List ℕ) → Alike vs ws x xs x' xs' → Alike vs ws y ys y' ys' →
    (n r : ℕ) → compared r vs n x xs y ys ≡ compared r ws n x' xs' y' ys'
compared_agree vs ws x xs x' xs' y ys y' ys' a b n r =
    rw (
      comparisons_agree (last_at vs (x ∷ xs)) _ (λ i k. leb k (joint_past vs y ys i)) _ n (λ i _ _. (a.lasts i, λ k. ap (leb k) (b.joint_pasts i))),
      comparisons_agree (last_at vs (x ∷ xs)) _ (λ i k. leb k (whole_past vs y ys i)) _ n (λ i _ _. (a.lasts i, λ k. ap (leb k) (b.whole_pasts i))),
      comparisons_agree (last_at vs (y ∷ ys)) _ (λ i k. leb (joint_reach vs x xs i) k) _ n (λ i _ _. (b.lasts i, λ k. ap (λ c. leb c k) (a.joint_reaches i))),
      comparisons_agree (first_at vs (x ∷ xs)) _ (λ i k. leb k (joint_past vs y ys i)) _ n (λ i _ _. (a.firsts i, λ k. ap (leb k) (b.joint_pasts i))),
      comparisons_agree (first_at vs (y ∷ ys)) _ (λ i k. leb (first_reach vs x xs i) k) _ n (λ i _ _. (b.firsts i, λ k. ap (λ c. leb c k) (a.first_reaches i))),
      comparisons_agree (first_at vs (x ∷ xs)) _ (λ i k. leb k (whole_past vs y ys i)) _ n (λ i _ _. (a.firsts i, λ k. ap (leb k) (b.whole_pasts i))),
    )

pub walks_agree : WalksAgree
walks_agree vs ws orderly orderly' same x xs x' xs' rx rx' px y ys y' ys' ry ry' py n r =
    let a = sets_alike vs ws orderly orderly' same x xs x' xs' rx rx' px in
    let b = sets_alike vs ws orderly orderly' same y ys y' ys' ry ry' py in
    ap (λ bs. cond (is_every r) (every_walk bs) (some_walk bs)) (compared_agree vs ws x xs x' xs' y ys y' ys' a b n r)
