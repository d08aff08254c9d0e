-- The cuts of a set of events, and the six relations between two sets, each tested by a comparison at each node.
--
-- "x to y" means that x is y or happened before y. Sets are non-empty lists of event numbers; repeats do not matter.
-- The cuts are those of Kshemkalyani: what all members have in their past, what some member has, and where the first
-- event that some member, or all, happened before stands. `Six` says of each relation that the quantifiers over all pairs of
-- members and the comparison of the first or last indexes of one set with a cut of the other are the same.
--
--   index vs i x         the place of event x in the column of node i, from 1
--   first_at, last_at    the smallest and the greatest index of a member at node i, if one stands there
--   fore vs y i          the forward timestamp of y: how many events of node i are y or happened before y
--   aft vs x i           the reverse timestamp of x: how many events of node i are x or happened after x
--   joint_past .. joint_reach   the four cuts, at node i
use Rattle.std.specs.Prelude.{◌≡◌, ℕ, suc, ◌+◌, ◌-◌, ◌<◌, ◌≤◌, min, max, cond, ◌⊎◌, ◌↔◌, List, [], ◌∷◌, length, Some, None, Option, ◌==◌}
use Rattle.std.specs.List.{AllByRecursion}
use Rattle.causality.specs.declared.Event.{Event}
use Rattle.causality.specs.Newest.{entry, Any, Mem}
use Rattle.causality.specs.Entries.{stamp}
use Rattle.causality.specs.Traces.{stands, events_at, Before, Orderly, forward, backward, mirror}

abbrev pub To : List Event → ℕ → ℕ → Type 0
To vs x y = (x ≡ y) ⊎ Before vs x y

-- ---- the least and the greatest

-- f joins what `of` gives of x and of each of xs: their greatest where f is max, their least where f is min
abbrev pub joined : (ℕ → ℕ → ℕ) → (ℕ → ℕ) → ℕ → List ℕ → ℕ
joined f of x [] = of x
joined f of x (u ∷ us) = f (of x) (joined f of u us)

abbrev pub merged : {X : Type 0} → (X → X → X) → Option X → Option X → Option X
merged f None o = o
merged f (Some k) None = Some k
merged f (Some k) (Some j) = Some (f k j)

-- f joins the numbers that `of` gives of xs, where it gives any
abbrev pub joined_if : (ℕ → ℕ → ℕ) → (ℕ → Option ℕ) → List ℕ → Option ℕ
joined_if f of [] = None
joined_if f of (x ∷ xs) = merged f (of x) (joined_if f of xs)

-- ---- indexes and cuts

abbrev pub position : List ℕ → ℕ → Option ℕ
position [] x = None
position (z ∷ zs) x = cond (z == x) (Some (suc (length zs))) (position zs x)

abbrev pub index : List Event → ℕ → ℕ → Option ℕ
index vs i x = position (events_at vs i) x

abbrev pub first_at : List Event → List ℕ → ℕ → Option ℕ
first_at vs xs i = joined_if min (index vs i) xs

abbrev pub last_at : List Event → List ℕ → ℕ → Option ℕ
last_at vs xs i = joined_if max (index vs i) xs

abbrev pub fore : List Event → ℕ → ℕ → ℕ
fore vs y i = stamp (forward vs) y i

abbrev pub aft : List Event → ℕ → ℕ → ℕ
aft vs x i = stamp (backward vs) (mirror vs x) i

-- 1 more than the length of the column of node i, less c
abbrev pub from_end : List Event → ℕ → ℕ → ℕ
from_end vs i c = length (events_at vs i) + 1 - c

abbrev pub joint_past : List Event → ℕ → List ℕ → ℕ → ℕ
joint_past vs y ys i = joined min (λ u. fore vs u i) y ys

abbrev pub whole_past : List Event → ℕ → List ℕ → ℕ → ℕ
whole_past vs y ys i = joined max (λ u. fore vs u i) y ys

abbrev pub first_reach : List Event → ℕ → List ℕ → ℕ → ℕ
first_reach vs x xs i = from_end vs i (joined max (λ u. aft vs u i) x xs)

abbrev pub joint_reach : List Event → ℕ → List ℕ → ℕ → ℕ
joint_reach vs x xs i = from_end vs i (joined min (λ u. aft vs u i) x xs)

-- what the four cuts of a set tell of the k-th event of a node: z has index k at node i
pub record CutsOf (vs : List Event) (x : ℕ) (xs : List ℕ) (z i k : ℕ) : Type 0 where
  pub to_every : AllByRecursion (λ u. To vs z u) (x ∷ xs) ↔ (k ≤ joint_past vs x xs i)
  pub to_some : Any (λ u. To vs z u) (x ∷ xs) ↔ (k ≤ whole_past vs x xs i)
  pub from_some : Any (λ u. To vs u z) (x ∷ xs) ↔ (first_reach vs x xs i ≤ k)
  pub from_every : AllByRecursion (λ u. To vs u z) (x ∷ xs) ↔ (joint_reach vs x xs i ≤ k)

abbrev pub CutsTell : Type 0
CutsTell =
    (vs : List Event) → Orderly vs → (x : ℕ) (xs : List ℕ) → AllByRecursion (λ u. u < length vs) (x ∷ xs) →
    (z i k : ℕ) → index vs i z ≡ Some k → CutsOf vs x xs z i k

-- ---- the six relations

-- at every node, or at some node, that has a number, the comparison holds
abbrev pub AtEvery : (ℕ → Option ℕ) → (ℕ → ℕ → Type 0) → Type 0
AtEvery o P = (i k : ℕ) → o i ≡ Some k → P i k

abbrev pub AtSome : (ℕ → Option ℕ) → (ℕ → ℕ → Type 0) → Type 0
AtSome o P = (i : ℕ) × (k : ℕ) × (o i ≡ Some k) × P i k

pub record Six (vs : List Event) (x : ℕ) (xs : List ℕ) (y : ℕ) (ys : List ℕ) : Type 0 where
  -- every x to every y
  pub r1 : AllByRecursion (λ u. AllByRecursion (λ v. To vs u v) (y ∷ ys)) (x ∷ xs) ↔ AtEvery (last_at vs (x ∷ xs)) (λ i k. k ≤ joint_past vs y ys i)
  -- every x to some y
  pub r2 : AllByRecursion (λ u. Any (λ v. To vs u v) (y ∷ ys)) (x ∷ xs) ↔ AtEvery (last_at vs (x ∷ xs)) (λ i k. k ≤ whole_past vs y ys i)
  -- some one y has every x to it
  pub r2p : Any (λ v. AllByRecursion (λ u. To vs u v) (x ∷ xs)) (y ∷ ys) ↔ AtSome (last_at vs (y ∷ ys)) (λ i k. joint_reach vs x xs i ≤ k)
  -- some one x goes to every y
  pub r3 : Any (λ u. AllByRecursion (λ v. To vs u v) (y ∷ ys)) (x ∷ xs) ↔ AtSome (first_at vs (x ∷ xs)) (λ i k. k ≤ joint_past vs y ys i)
  -- every y has some x to it
  pub r3p : AllByRecursion (λ v. Any (λ u. To vs u v) (x ∷ xs)) (y ∷ ys) ↔ AtEvery (first_at vs (y ∷ ys)) (λ i k. first_reach vs x xs i ≤ k)
  -- some x to some y
  pub r4 : Any (λ u. Any (λ v. To vs u v) (y ∷ ys)) (x ∷ xs) ↔ AtSome (first_at vs (x ∷ xs)) (λ i k. k ≤ whole_past vs y ys i)

abbrev pub RelationsByCuts : Type 0
RelationsByCuts =
    (vs : List Event) → Orderly vs → (x : ℕ) (xs : List ℕ) (y : ℕ) (ys : List ℕ) →
    AllByRecursion (λ u. u < length vs) (x ∷ xs) → AllByRecursion (λ v. v < length vs) (y ∷ ys) → Six vs x xs y ys

-- where a set has a first or a last index, one of its members stands there: the nodes of the set are all that a test visits
abbrev pub IndexedNodes : Type 0
IndexedNodes =
    (vs : List Event) (xs : List ℕ) (i k : ℕ) → (first_at vs xs i ≡ Some k) ⊎ (last_at vs xs i ≡ Some k) →
    (x : ℕ) × Mem x xs × Mem x (events_at vs i)

-- an event's index at a node where it stands is its own timestamp there, so that indexes too are got from a clock
abbrev pub IndexIsStamp : Type 0
IndexIsStamp = (vs : List Event) (x i : ℕ) (v : Event) → entry vs x ≡ Some v → index vs i x ≡ cond (stands v i) (Some (fore vs x i)) None
