-- The six relations by their cuts.
use Rattle.std.proofs.Common.{◌≡◌, ℕ, suc, ◌+◌, ◌-◌, ◌<◌, ◌≤◌, min, max, Bool, eqb, ◌⊎◌, List, [], ◌∷◌, reverse, length, Some, None, Option, refl, ◌∙◌, inl, inr, arith}
use Rattle.std.specs.List.{AllByRecursion}
use Rattle.std.proofs.ByRecursion.{All-weaker}
use Rattle.std.proofs.lemmas.Bool.{cases_Bool, cases_lt, eq-eqb, eqb-false, or_left}
use Rattle.std.proofs.lemmas.Bool.Decides.{nat_tests}
use Rattle.causality.specs.declared.Event.{Event}
use Rattle.causality.specs.Newest.{entry, Mem}
use Rattle.causality.specs.Entries.{at}
use Rattle.causality.specs.Traces.{node_of, from, into, stands, events_at, Orderly, entries, forward, backward, mirror}
use Rattle.causality.specs.Relations.{To, merged, joined_if, position, index, fore, aft, from_end, CutsTell, RelationsByCuts, IndexedNodes}
use Rattle.causality.proofs.Newest.{nothing, entry-some, entry-low, entry-mem, entry_up, entry-kth, numbers_in, numbers-low, numbers_turned, length-picked}
use Rattle.causality.proofs.Counts.{stamps_tell}
use Rattle.causality.proofs.Traces.{timeline-events, past_is_before, future_is_after}
use Rattle.causality.proofs.Sets.{Meets, Joins, Measures, every_node, some-node, to_all, to_any}

-- ---- places

-- the place of x in a column is 1 more than how many are older there
pub position-entry : (c : List ℕ) (x k : ℕ) → position c x ≡ Some k → (n : ℕ) × (k ≡ suc n) × (entry c n ≡ Some x)
position-entry [] x k e = absurd (nothing e)
position-entry (z ∷ zs) x k e =
    elim (cases_Bool (eqb z x)) [
      | inl h ↦ (length zs, cc (rw h at e), grind (arith, nat_tests))
      | inr h ↦ let (n, l, f) = position-entry zs x k (rw h at e) in (n, l, entry_up z zs n x f)
    ]

pub mem-position : (c : List ℕ) (x : ℕ) → Mem x c → (k : ℕ) × (position c x ≡ Some k)
mem-position [] x m = absurd m
mem-position (z ∷ zs) x m =
    elim (cases_Bool (eqb z x)) [
      | inl h ↦ rw h (suc (length zs), refl)
      | inr h ↦ rw h (elim m [ inl e ↦ absurd (eqb-false z x h e) | inr n ↦ mem-position zs x n ])
    ]

all_member : {X : Type 0} (P : X → Type 0) (xs : List X) → AllByRecursion P xs → (x : X) → Mem x xs → P x
all_member P [] all x m = absurd m
all_member P (y ∷ ys) (h, all) x (inl e) = rw (← e) h
all_member P (y ∷ ys) (h, all) x (inr m) = all_member P ys all x m

pub at_entry : (goes : Event → Event → Bool) (vs : List Event) (i n x : ℕ) → entry (events_at vs i) n ≡ Some x → at (entries goes vs) i (suc n) ≡ Some x
at_entry goes vs i n x e = rw (timeline-events goes vs i) (entry-kth (events_at vs i) n ∙ e)

module _ (vs : List Event) (orderly : Orderly vs) where
  placed : (x : ℕ) → x < length vs → (i : ℕ) × (k : ℕ) × (index vs i x ≡ Some k)
  placed x l =
      let (v, e) = entry-some vs x l in
      let i = node_of v in
      let (k, f) = mem-position (events_at vs i) x (numbers_in (λ w. stands w i) vs x v e (or_left _ _ (eq-eqb i i refl))) in
      (i, k, f)

  -- a forward timestamp tells what comes to y
  fore_measures : (y : ℕ) → y < length vs → Measures (index vs) (λ i k c. k ≤ c) (λ x. To vs x y) (fore vs y)
  fore_measures y ly x i k e =
      let (n, l, f) = position-entry (events_at vs i) x k e in
      let is-to = past_is_before vs orderly x y (numbers-low _ vs x (entry-mem _ n x f)) ly in
      let tell = stamps_tell (forward vs) y i (suc n) x (at_entry from vs i n x f) in
      ((λ h. omega (arith, tell.0 (is-to.1 h))), λ h. is-to.0 (tell.1 (omega arith)))

  -- a reverse timestamp tells what x comes to
  aft_measures : (x : ℕ) → x < length vs → Measures (index vs) (λ i k c. from_end vs i c ≤ k) (λ y. To vs x y) (aft vs x)
  aft_measures x lx y i k e =
      let c = events_at vs i in
      let (n, l, f) = position-entry c y k e in
      let low = entry-low c n y f in
      let size = length-picked (λ _ us. length us) (λ v. stands v i) vs in
      let is-to = future_is_after vs orderly x y lx (numbers-low _ vs y (entry-mem c n y f)) in
      let tell = stamps_tell (backward vs) (mirror vs x) i _ (mirror vs y) (at_entry into (reverse vs) i _ (mirror vs y) (numbers_turned (λ v. stands v i) vs n y f)) in
      ((λ h. omega (arith, tell.0 (is-to.1 h))), λ h. is-to.0 (tell.1 (omega arith)))

-- ---- comparisons

max_meets : (d : ℕ) → Meets (λ k. k ≤ d) max
max_meets d a b = omega arith

min_meets : (k : ℕ) → Meets (λ d. k ≤ d) min
min_meets k a b = omega arith

min_joins : (d : ℕ) → Joins (λ k. k ≤ d) min
min_joins d a b = ((λ h. elim (cases_lt d a) [ inl l ↦ inr (omega arith) | inr l ↦ inl l ]), λ h. omega arith)

max_joins : (k : ℕ) → Joins (λ d. k ≤ d) max
max_joins k a b = ((λ h. elim (cases_lt a k) [ inl l ↦ inr (omega arith) | inr l ↦ inl l ]), λ h. omega arith)

-- less a smaller number is more
min_meets_less : (m k : ℕ) → Meets (λ d. m - d ≤ k) min
min_meets_less m k a b = omega arith

max_joins_less : (m k : ℕ) → Joins (λ d. m - d ≤ k) max
max_joins_less m k a b = ((λ h. elim (cases_lt k (m - a)) [ inl l ↦ inr (omega arith) | inr l ↦ inl l ]), λ h. omega arith)

-- ---- the four cuts and the six relations

pub cuts_tell : CutsTell
cuts_tell vs orderly x xs lx z i k e =
    let to-x : (u : ℕ) → Mem u (x ∷ xs) → Measures (index vs) (λ i k c. k ≤ c) (λ w. To vs w u) (fore vs u) = λ u m. fore_measures vs orderly u (all_member _ (x ∷ xs) lx u m) in
    let from-x : (u : ℕ) → Mem u (x ∷ xs) → Measures (index vs) (λ i k c. from_end vs i c ≤ k) (λ w. To vs u w) (aft vs u) = λ u m. aft_measures vs orderly u (all_member _ (x ∷ xs) lx u m) in
    record {
      to_every = to_all (index vs) (λ i k c. k ≤ c) (λ u w. To vs w u) (fore vs) x xs to-x min (λ i k. min_meets k) z i k e;
      to_some = to_any (index vs) (λ i k c. k ≤ c) (λ u w. To vs w u) (fore vs) x xs to-x max (λ i k. max_joins k) z i k e;
      from_some = to_any (index vs) (λ i k c. from_end vs i c ≤ k) (To vs) (aft vs) x xs from-x max (λ i k. max_joins_less (length (events_at vs i) + 1) k) z i k e;
      from_every = to_all (index vs) (λ i k c. from_end vs i c ≤ k) (To vs) (aft vs) x xs from-x min (λ i k. min_meets_less (length (events_at vs i) + 1) k) z i k e;
    }

pub relations_by_cuts : RelationsByCuts
relations_by_cuts vs orderly x xs y ys lx ly =
    let px = All-weaker _ (λ u. (i : ℕ) × (k : ℕ) × (index vs i u ≡ Some k)) (placed vs orderly) (x ∷ xs) lx in
    let py = All-weaker _ (λ u. (i : ℕ) × (k : ℕ) × (index vs i u ≡ Some k)) (placed vs orderly) (y ∷ ys) ly in
    let cut-x = cuts_tell vs orderly x xs lx in
    let cut-y = cuts_tell vs orderly y ys ly in
    record {
      r1 = every_node (index vs) (λ i k c. k ≤ c) _ _ (λ z i k e. (cut-y z i k e).to_every) max (λ i d. max_meets d) (x ∷ xs) px;
      r2 = every_node (index vs) (λ i k c. k ≤ c) _ _ (λ z i k e. (cut-y z i k e).to_some) max (λ i d. max_meets d) (x ∷ xs) px;
      r2p = some-node (index vs) (λ i k c. c ≤ k) _ _ (λ z i k e. (cut-x z i k e).from_every) max (λ i d. max_joins d) (y ∷ ys) py;
      r3 = some-node (index vs) (λ i k c. k ≤ c) _ _ (λ z i k e. (cut-y z i k e).to_every) min (λ i d. min_joins d) (x ∷ xs) px;
      r3p = every_node (index vs) (λ i k c. c ≤ k) _ _ (λ z i k e. (cut-x z i k e).from_some) min (λ i d. min_meets d) (y ∷ ys) py;
      r4 = some-node (index vs) (λ i k c. k ≤ c) _ _ (λ z i k e. (cut-y z i k e).to_some) min (λ i d. min_joins d) (x ∷ xs) px;
    }

-- ---- the nodes of a set

module _ (f : ℕ → ℕ → ℕ) (of : ℕ → Option ℕ) where
  merged_some : (o p : Option ℕ) (k : ℕ) → merged f o p ≡ Some k → ((j : ℕ) × (o ≡ Some j)) ⊎ ((j : ℕ) × (p ≡ Some j))
  merged_some None p k e = inr (k, e)
  merged_some (Some j) p k e = inl (j, refl)

  joined_member : (xs : List ℕ) (k : ℕ) → joined_if f of xs ≡ Some k → (x : ℕ) × (j : ℕ) × Mem x xs × (of x ≡ Some j)
  joined_member [] k e = absurd (nothing e)
  joined_member (x ∷ xs) k e =
      elim (merged_some (of x) (joined_if f of xs) k e) [
        | inl (j, h) ↦ (x, j, inl refl, h)
        | inr (j, h) ↦ let (u, n, m, g) = joined_member xs j h in (u, n, inr m, g)
      ]

pub indexed_nodes : IndexedNodes
indexed_nodes vs xs i k e =
    let (x, j, m, f) : (x : ℕ) × (j : ℕ) × Mem x xs × (index vs i x ≡ Some j) =
    elim e [ inl h ↦ joined_member min (index vs i) xs k h | inr h ↦ joined_member max (index vs i) xs k h ] in
    let (n, _, g) = position-entry (events_at vs i) x j f in
    (x, m, entry-mem (events_at vs i) n x g)
