-- Equal columns decide what happened before what.
--
-- Events of two traces are twins if they have a place in common. Twins have all places in common, and links lead from twins to
-- twins; so chains do.
use Rattle.std.proofs.Common.{◌≡◌, ℕ, suc, ◌-◌, ◌<◌, Bool, true, false, ◌||◌, eqb, List, [], ◌∷◌, ◌++◌, reverse, length, Some, None, Option, sym, refl, ap, ◌∙◌, subst, inl, inr, arith}
use mathlib.Core.List.{reverse-reverse}
use Rattle.std.proofs.lemmas.List.{length-reverse}
use Rattle.std.proofs.lemmas.Bool.{cases_eq, eqb-true, eq-eqb, or_cases, or_left, false≢true}
use Rattle.std.proofs.lemmas.Bool.Decides.{same_from_decides, Decides-like, nat_tests}
use Rattle.causality.specs.declared.Event.{Event}
use Rattle.causality.specs.Newest.{entry, kth, picked, tally}
use Rattle.causality.specs.Entries.{past, Chain, Chain.one, Chain.more}
use Rattle.causality.specs.Traces.{node_of, sends, receives, both, from, into, stands, events_at, Link, Orderly, forward, backward, mirror}
use Rattle.causality.specs.Relations.{To, fore, aft}
use Rattle.causality.specs.Columns.{Record, other, next_index, recorded, column, PlaceOf, EqualColumns, ColumnsDecide}
use Rattle.causality.proofs.Newest.{entry_head, entry-low, entry_up, entry-some, entry-mem, kth-entry, entry-kth, entry_split, entry_middle, entry-once, length-picked, picked_split, numbers_out, numbers-low, numbers_descend, numbers_turned, tally-reverse}
use Rattle.causality.proofs.Traces.{timeline-events, mirrored, past_is_before}

abbrev at-node : ℕ → Event → Bool
at-node i v = stands v i

-- ---- an event among the others

-- event x is v, and us are the events before it
abbrev Around : List Event → ℕ → Event → List Event → Type 0
Around vs x v us = (newer : List Event) × (vs ≡ newer ++ (v ∷ us)) × (length us ≡ x)

module _ (vs : List Event) where
  around_entry : (x : ℕ) (v : Event) (us : List Event) → Around vs x v us → entry vs x ≡ Some v
  around_entry x v us (newer, split, number) = rw (split, ← number) (entry_middle newer us v)

  -- what is made of event x stands in its column at the event's index
  around_picked : {Y : Type 0} (f : Event → List Event → Y) (i x : ℕ) (v : Event) (us : List Event) → Around vs x v us → stands v i ≡ true → kth (picked f (at-node i) vs) (next_index us i) ≡ Some (f v us)
  around_picked f i x v us (newer, split, number) s = rw split (entry-kth _ (tally (at-node i) us) ∙ picked_split f (at-node i) newer us v s)

  around_place : (i x : ℕ) (v : Event) (us : List Event) → Around vs x v us → stands v i ≡ true → PlaceOf vs i (next_index us i) x
  around_place i x v us a s = around_picked (λ _ us. length us) i x v us a s ∙ ap Some a.2

  place-once : (i k l x : ℕ) → PlaceOf vs i k x → PlaceOf vs i l x → k ≡ l
  place-once i k l x p q =
      let (a, e) = kth-entry (events_at vs i) k x p in
      let (b, f) = kth-entry (events_at vs i) l x q in
      omega (arith, entry-once (events_at vs i) (numbers_descend (at-node i) vs) (k - 1) (l - 1) x e f)

  place_event : (i k x : ℕ) → PlaceOf vs i k x → (v : Event) × (entry vs x ≡ Some v) × (stands v i ≡ true)
  place_event i k x p = numbers_out (at-node i) vs x (entry-mem (events_at vs i) (k - 1) x (kth-entry (events_at vs i) k x p).1)

  pub place-low : (i k x : ℕ) → PlaceOf vs i k x → x < length vs
  place-low i k x p = let (v, e, _) = place_event i k x p in entry-low vs x v e

  place_around : (i k x : ℕ) → PlaceOf vs i k x → (v : Event) × (us : List Event) × Around vs x v us × (stands v i ≡ true) × (k ≡ next_index us i)
  place_around i k x p =
      let (v, e, s) = place_event i k x p in
      let (newer, us, split, number) = entry_split vs x v e in
      (v, us, (newer, split, number), s, place-once i k (next_index us i) x p (around_place i x v us (newer, split, number) s))

  own-place : (x : ℕ) (v : Event) → entry vs x ≡ Some v → (k : ℕ) × PlaceOf vs (node_of v) k x
  own-place x v e =
      let (newer, us, split, number) = entry_split vs x v e in
      (next_index us (node_of v), around_place (node_of v) x v us (newer, split, number) (or_left _ _ (eq-eqb (node_of v) (node_of v) refl)))

-- ---- what a node records of an event

alone : (a i j : ℕ) → (eqb a i || false) ≡ true → (eqb a j || false) ≡ true → i ≡ j
alone a i j s t = elim (or_cases (eqb a i) false s) [
  | inl h ↦ elim (or_cases (eqb a j) false t) [ inl k ↦ sym (eqb-true a i h) ∙ eqb-true a j k | inr k ↦ absurd (false≢true k) ]
  | inr h ↦ absurd (false≢true h)
]

-- at two nodes there is a meet, and each records its place at the other
recorded-met : (v : Event) (us : List Event) (i j : ℕ) → stands v i ≡ true → stands v j ≡ true → (i ≡ j → ⊥) → recorded i v us ≡ Record.met j (next_index us j)
recorded-met (Event.Local a) us i j s t apart = absurd (apart (alone a i j s t))
recorded-met (Event.Send a m) us i j s t apart = absurd (apart (alone a i j s t))
recorded-met (Event.Receive a m) us i j s t apart = absurd (apart (alone a i j s t))
recorded-met (Event.Meet a b) us i j s t apart = let is-j : other i a b ≡ j = grind (arith, nat_tests) in rw is-j

met-stands : (v : Event) (us : List Event) (i j l : ℕ) → recorded i v us ≡ Record.met j l → (stands v j ≡ true) × (l ≡ next_index us j)
met-stands (Event.Local a) us i j l e = let z : ◌≡◌ {A = ℕ} 0 1 = cc in absurd (omega arith)
met-stands (Event.Send a m) us i j l e = let z : ◌≡◌ {A = ℕ} 0 1 = cc in absurd (omega arith)
met-stands (Event.Receive a m) us i j l e = let z : ◌≡◌ {A = ℕ} 0 1 = cc in absurd (omega arith)
met-stands (Event.Meet a b) us i j l e =
    let is-j : other i a b ≡ j = cc in
    let is-l : l ≡ next_index us (other i a b) = cc in
    (grind (arith, nat_tests), is-l ∙ ap (next_index us) is-j)

abbrev sent_in : Record → Option ℕ
sent_in Record.local = None
sent_in (Record.sent m) = Some m
sent_in (Record.received m) = None
sent_in (Record.met j l) = None

abbrev received_in : Record → Option ℕ
received_in Record.local = None
received_in (Record.sent m) = None
received_in (Record.received m) = Some m
received_in (Record.met j l) = None

recorded_message : (i : ℕ) (v : Event) (us : List Event) → (sent_in (recorded i v us) ≡ sends v) × (received_in (recorded i v us) ≡ receives v)
recorded_message i (Event.Local a) us = (refl, refl)
recorded_message i (Event.Send a m) us = (refl, refl)
recorded_message i (Event.Receive a m) us = (refl, refl)
recorded_message i (Event.Meet a b) us = (refl, refl)

-- ---- two traces with equal columns

column_height : (vs : List Event) (i : ℕ) → length (column vs i) ≡ length (events_at vs i)
column_height vs i = length-picked (recorded i) (at-node i) vs ∙ sym (length-picked (λ _ us. length us) (at-node i) vs)

module _ (vs ws : List Event) (same : EqualColumns vs ws) where
  -- what a place's node records of it is the same
  record_twin : (i k x x' : ℕ) (v v' : Event) (us us' : List Event) → Around vs x v us → Around ws x' v' us' → stands v i ≡ true → stands v' i ≡ true →
      k ≡ next_index us i → k ≡ next_index us' i → recorded i v us ≡ recorded i v' us'
  record_twin i k x x' v v' us us' a a' s s' n n' =
      let p = ap (kth (column vs i)) n ∙ around_picked vs (recorded i) i x v us a s in
      let q = ap (kth (column ws i)) n' ∙ around_picked ws (recorded i) i x' v' us' a' s' in
      cc (p, q, same i)

  twin : (i k j l x x' : ℕ) → PlaceOf vs i k x → PlaceOf ws i k x' → PlaceOf vs j l x → PlaceOf ws j l x'
  twin i k j l x x' p q r =
      elim (cases_eq i j) [
        | inl h ↦ let n = place-once vs j k l x (subst (λ m. PlaceOf vs m k x) h p) r in subst (λ m. PlaceOf ws j m x') n (subst (λ m. PlaceOf ws m k x') h q)
        | inr h ↦
            let (v, us, a, s, n) = place_around vs i k x p in
            let (v', us', a', s', n') = place_around ws i k x' q in
            let (w, f, t) = place_event vs j l x r in
            let v-is : w ≡ v = cc (around_entry vs x v us a) in
            let t' : stands v j ≡ true = subst (λ u. stands u j ≡ true) v-is t in
            let l-is = place-once vs j l (next_index us j) x r (around_place vs j x v us a t') in
            let met = sym (record_twin i k x x' v v' us us' a a' s s' n n') ∙ recorded-met v us i j s t' h in
            let (t'', l-is') = met-stands v' us' i j (next_index us j) met in
            subst (λ m. PlaceOf ws j m x') (sym (l-is ∙ l-is')) (around_place ws j x' v' us' a' t'')
      ]

  found : (i k x : ℕ) → PlaceOf vs i k x → (x' : ℕ) × PlaceOf ws i k x'
  found i k x p =
      let (pos, e) = kth-entry (events_at vs i) k x p in
      let (x', f) = entry-some (events_at ws i) (k - 1) (omega (arith, entry-low (events_at vs i) (k - 1) x e, column_height vs i, column_height ws i, ap length (same i))) in
      let n : suc (k - 1) ≡ k = omega arith in
      (x', ap (kth (events_at ws i)) (sym n) ∙ entry-kth (events_at ws i) (k - 1) ∙ f)

  abbrev Twins : ℕ → ℕ → Type 0
  Twins x x' = (i : ℕ) × (k : ℕ) × PlaceOf vs i k x × PlaceOf ws i k x'

  message_twin : (i k x x' : ℕ) (v : Event) → PlaceOf vs i k x → PlaceOf ws i k x' → entry vs x ≡ Some v → (v' : Event) × (entry ws x' ≡ Some v') × (sends v ≡ sends v') × (receives v ≡ receives v')
  message_twin i k x x' w p q f =
      let (v, us, a, s, n) = place_around vs i k x p in
      let (v', us', a', s', n') = place_around ws i k x' q in
      let w-is : w ≡ v = cc (around_entry vs x v us a) in
      let r = record_twin i k x x' v v' us us' a a' s s' n n' in
      let (sv, rv) = recorded_message i v us in
      let (sv', rv') = recorded_message i v' us' in
      (v', around_entry ws x' v' us' a', ap sends w-is ∙ sym sv ∙ ap sent_in r ∙ sv', ap receives w-is ∙ sym rv ∙ ap received_in r ∙ rv')

  link_twin : (x y x' : ℕ) → Link vs x y → Twins x x' → (y' : ℕ) × Twins y y' × Link ws x' y'
  link_twin x y x' (inl (n, (m, e, f))) (i, k, p, q) =
      let (y', f') = found n (suc m) y f in
      (y', (n, suc m, f, f'), inl (n, (m, twin i k n m x x' p q e, f')))
  link_twin x y x' (inr (v, w, e, f, h)) (i, k, p, q) =
      let (l, r) = own-place vs y w f in
      let (y', r') = found (node_of w) l y r in
      let (v', e', s, _) = message_twin i k x x' v p q e in
      let (w', f', _, g) = message_twin (node_of w) l y y' w r r' f in
      (y', (node_of w, l, r, r'), inr (v', w', e', f', subst (λ o. both o (sends v') ≡ true) g (subst (λ o. both (receives w) o ≡ true) s h)))

  chain_twin : {x y : ℕ} → Chain (Link vs) x y → (x' : ℕ) → Twins x x' → (y' : ℕ) × Twins y y' × Chain (Link ws) x' y'
  chain_twin (one {x} {y} l) x' r = let (y', s, f) = link_twin x y x' l r in (y', s, one f)
  chain_twin (more {x} {p} {y} c l) x' r =
      let (p', s, d) = chain_twin c x' r in
      let (y', t, f) = link_twin p y p' l s in
      (y', t, more d f)

  place_twin : (j l y y' z : ℕ) → PlaceOf vs j l y → PlaceOf ws j l y' → Twins y z → z ≡ y'
  place_twin j l y y' z p p' (m, n, a, b) = let q = twin m n j l y z a b p in cc

  to_twin : (i k x x' j l y y' : ℕ) → PlaceOf vs i k x → PlaceOf ws i k x' → PlaceOf vs j l y → PlaceOf ws j l y' → To vs x y → To ws x' y'
  to_twin i k x x' j l y y' px px' py py' (inl e) = inl (place_twin j l y y' x' py py' (i, k, subst (PlaceOf vs i k) e px, px'))
  to_twin i k x x' j l y y' px px' py py' (inr c) =
      let (z, t, d) = chain_twin c x' (i, k, px, px') in
      inr (subst (Chain (Link ws) x') (place_twin j l y y' z py py' t) d)

-- ---- counts of tests that agree place by place

tally_twin : (p q : ℕ → Bool) (c d : List ℕ) → length c ≡ length d → ((n x y : ℕ) → entry c n ≡ Some x → entry d n ≡ Some y → p x ≡ q y) → tally p c ≡ tally q d
tally_twin p q [] [] l h = refl
tally_twin p q [] (y ∷ ys) l h = absurd (omega arith)
tally_twin p q (x ∷ xs) [] l h = absurd (omega arith)
tally_twin p q (x ∷ xs) (y ∷ ys) l h =
    let n : length xs ≡ length ys = omega arith in
    let top = h (length xs) x y (entry_head x xs) (rw n (entry_head y ys)) in
    rw (top, tally_twin p q xs ys n (λ m u w e f. h m u w (entry_up x xs m u e) (entry_up y ys m w f)))

-- an event of the trace turned round
turned_place : (vs : List Event) (i n z : ℕ) → entry (events_at (reverse vs) i) n ≡ Some z → (x : ℕ) × (z ≡ mirror vs x) × PlaceOf vs i (suc (length (events_at vs i) - 1 - n)) x
turned_place vs i n z e =
    let low = numbers-low (at-node i) (reverse vs) z (entry-mem _ n z e) in
    let back = subst (λ us. entry (events_at us i) (tally (at-node i) (reverse vs) - 1 - n) ≡ Some (length (reverse vs) - 1 - z)) (reverse-reverse vs) (numbers_turned (at-node i) (reverse vs) n z e) in
    let k : tally (at-node i) (reverse vs) - 1 - n ≡ length (events_at vs i) - 1 - n = omega (arith, tally-reverse (at-node i) vs, length-picked (λ _ us. length us) (at-node i) vs) in
    (length (reverse vs) - 1 - z, omega (arith, length-reverse vs), entry-kth (events_at vs i) _ ∙ subst (λ m. entry (events_at vs i) m ≡ Some (length (reverse vs) - 1 - z)) k back)

module _ (vs ws : List Event) (orderly : Orderly vs) (orderly' : Orderly ws) (same : EqualColumns vs ws) where
  pasts_agree : (i k x x' j l y y' : ℕ) → PlaceOf vs i k x → PlaceOf ws i k x' → PlaceOf vs j l y → PlaceOf ws j l y' → past (forward vs) y x ≡ past (forward ws) y' x'
  pasts_agree i k x x' j l y y' px px' py py' =
      same_from_decides {P = To vs x y} _ _
      (past_is_before vs orderly x y (place-low vs i k x px) (place-low vs j l y py))
      (Decides-like {P = To ws x' y'} _ (to_twin ws vs (λ n. sym (same n)) i k x' x j l y' y px' px py' py) (to_twin vs ws same i k x x' j l y y' px px' py py')
      (past_is_before ws orderly' x' y' (place-low ws i k x' px') (place-low ws j l y' py')))

  futures_agree : (i k x x' j l y y' : ℕ) → PlaceOf vs i k x → PlaceOf ws i k x' → PlaceOf vs j l y → PlaceOf ws j l y' →
      past (backward vs) (mirror vs x) (mirror vs y) ≡ past (backward ws) (mirror ws x') (mirror ws y')
  futures_agree i k x x' j l y y' px px' py py' =
      mirrored vs x y (place-low vs i k x px) (place-low vs j l y py)
      ∙ pasts_agree i k x x' j l y y' px px' py py'
      ∙ sym (mirrored ws x' y' (place-low ws i k x' px') (place-low ws j l y' py'))

  height_agrees : (i : ℕ) → length (events_at vs i) ≡ length (events_at ws i)
  height_agrees i = sym (column_height vs i) ∙ ap length (same i) ∙ column_height ws i

  stamps_agree : (j l y y' : ℕ) → PlaceOf vs j l y → PlaceOf ws j l y' → (i : ℕ) → fore vs y i ≡ fore ws y' i
  stamps_agree j l y y' py py' i =
      rw (timeline-events from vs i, timeline-events from ws i)
      (tally_twin _ _ (events_at vs i) (events_at ws i) (height_agrees i)
      (λ n x x' e e'. pasts_agree i (suc n) x x' j l y y' (entry-kth _ n ∙ e) (entry-kth _ n ∙ e') py py'))

  reverse_stamps_agree : (j l y y' : ℕ) → PlaceOf vs j l y → PlaceOf ws j l y' → (i : ℕ) → aft vs y i ≡ aft ws y' i
  reverse_stamps_agree j l y y' py py' i =
      let long : (us : List Event) → length (events_at (reverse us) i) ≡ length (events_at us i) = λ us.
      length-picked (λ _ os. length os) (at-node i) (reverse us) ∙ tally-reverse (at-node i) us ∙ sym (length-picked (λ _ os. length os) (at-node i) us) in
      rw (timeline-events into (reverse vs) i, timeline-events into (reverse ws) i)
      (tally_twin _ _ (events_at (reverse vs) i) (events_at (reverse ws) i) (long vs ∙ height_agrees i ∙ sym (long ws))
      (λ n z z' e e'.
      let (x, mx, px) = turned_place vs i n z e in
      let (x', mx', px') = turned_place ws i n z' e' in
      ap (past (backward vs) (mirror vs y)) mx
      ∙ futures_agree j l y y' i (suc (length (events_at vs i) - 1 - n)) x x' py py' px (rw (height_agrees i) px')
      ∙ ap (past (backward ws) (mirror ws y')) (sym mx')))

pub columns_decide : ColumnsDecide
columns_decide vs ws orderly orderly' same i k x x' j l y y' px px' py py' = record {
  pasts = pasts_agree vs ws orderly orderly' same i k x x' j l y y' px px' py py';
  futures = futures_agree vs ws orderly orderly' same i k x x' j l y y' px px' py py';
  stamps = stamps_agree vs ws orderly orderly' same j l y y' py py';
  reverse_stamps = reverse_stamps_agree vs ws orderly orderly' same j l y y' py py';
}
