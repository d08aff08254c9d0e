-- The six relations between two sets of events, each answered by a walk over nodes that stops as soon as it is decided.
--
-- The sets are X = x ∷ xs and Y = y ∷ ys, by event numbers. "a to b" means that a is b or happened before b.
-- Each relation is tested by one comparison at each node where the side that its row names has an event:
--
--   1 every x to every y            every  last of X   ≤ joint past of Y    at X's nodes
--   2 every x to some y             every  last of X   ≤ whole past of Y    at X's nodes
--   3 some one y has every x to it  some   last of Y   ≥ joint reach of X   at Y's nodes
--   4 some one x goes to every y    some   first of X  ≤ joint past of Y    at X's nodes
--   5 every y has some x to it      every  first of Y  ≥ first reach of X   at Y's nodes
--   6 some x to some y              some   first of X  ≤ whole past of Y    at X's nodes
--
-- The nodes are visited from 1 to n. An "every" test stops at the first comparison that fails, a "some" test at the first
-- that succeeds. The answer is the verdict and the steps, which is how many comparisons were made.
-- Any number of a relation but 1 to 5 is read as 6.
--
--   comparisons o test n    what the test says at each node from 1 to n that has an index, in that order:
--                           test i k at node i, if o i gives the index k there
--   every_walk, some_walk   the verdict and the steps of a walk over such comparisons
--   compared r vs n ..      the comparisons of relation r, one for each node of its side
--   is_every r              the test of relation r is an "every" test
--   walk r vs n x xs y ys   the answer of relation r
--   Holds r vs x xs y ys    relation r, said of all pairs of members
--   Related r vs n .. a     a is an answer of relation r: its verdict is the relation, its steps the rank of what decided it
use Rattle.std.specs.Prelude.{◌≡◌, ℕ, zero, suc, ◌<◌, ◌≤◌, Bool, true, false, cond, not, ◌||◌, List, [], ◌∷◌, ◌++◌, length, Some, None, Decides, MatchBool, Option, ◌==◌, nat_le}
use Rattle.std.specs.List.{AllByRecursion}
use Rattle.causality.specs.declared.Event.{Event}
use Rattle.causality.specs.Newest.{Any, Mem}
use Rattle.causality.specs.Traces.{events_at, Orderly}
use Rattle.causality.specs.Relations.{To, first_at, last_at, joint_past, whole_past, first_reach, joint_reach}

-- ---- walks

-- one comparison at an index, and none where there is no index
abbrev pub at_index : Option ℕ → (ℕ → Bool) → List Bool
at_index None test = []
at_index (Some k) test = test k ∷ []

abbrev pub comparisons : (ℕ → Option ℕ) → (ℕ → ℕ → Bool) → ℕ → List Bool
comparisons o test zero = []
comparisons o test (suc n) = comparisons o test n ++ at_index (o (suc n)) (test (suc n))

abbrev pub one_more : Bool × ℕ → Bool × ℕ
one_more (verdict, steps) = (verdict, suc steps)

abbrev pub every_walk : List Bool → Bool × ℕ
every_walk [] = (true, 0)
every_walk (true ∷ bs) = one_more (every_walk bs)
every_walk (false ∷ bs) = (false, 1)

abbrev pub some_walk : List Bool → Bool × ℕ
some_walk [] = (false, 0)
some_walk (true ∷ bs) = (true, 1)
some_walk (false ∷ bs) = one_more (some_walk bs)

-- ---- the six relations

abbrev pub compared : ℕ → List Event → ℕ → ℕ → List ℕ → ℕ → List ℕ → List Bool
compared r vs n x xs y ys =
    cond (r == 1) (comparisons (last_at vs (x ∷ xs)) (λ i k. nat_le k (joint_past vs y ys i)) n)
    (cond (r == 2) (comparisons (last_at vs (x ∷ xs)) (λ i k. nat_le k (whole_past vs y ys i)) n)
    (cond (r == 3) (comparisons (last_at vs (y ∷ ys)) (λ i k. nat_le (joint_reach vs x xs i) k) n)
    (cond (r == 4) (comparisons (first_at vs (x ∷ xs)) (λ i k. nat_le k (joint_past vs y ys i)) n)
    (cond (r == 5) (comparisons (first_at vs (y ∷ ys)) (λ i k. nat_le (first_reach vs x xs i) k) n)
    (comparisons (first_at vs (x ∷ xs)) (λ i k. nat_le k (whole_past vs y ys i)) n)))))

abbrev pub is_every : ℕ → Bool
is_every r = r == 1 || (r == 2 || r == 5)

abbrev pub walk : ℕ → List Event → ℕ → ℕ → List ℕ → ℕ → List ℕ → Bool × ℕ
walk r vs n x xs y ys = cond (is_every r) (every_walk (compared r vs n x xs y ys)) (some_walk (compared r vs n x xs y ys))

abbrev pub Holds : ℕ → List Event → ℕ → List ℕ → ℕ → List ℕ → Type 0
Holds r vs x xs y ys =
    MatchBool (r == 1) (AllByRecursion (λ u. AllByRecursion (λ v. To vs u v) (y ∷ ys)) (x ∷ xs))
    (MatchBool (r == 2) (AllByRecursion (λ u. Any (λ v. To vs u v) (y ∷ ys)) (x ∷ xs))
    (MatchBool (r == 3) (Any (λ v. AllByRecursion (λ u. To vs u v) (x ∷ xs)) (y ∷ ys))
    (MatchBool (r == 4) (Any (λ u. AllByRecursion (λ v. To vs u v) (y ∷ ys)) (x ∷ xs))
    (MatchBool (r == 5) (AllByRecursion (λ v. Any (λ u. To vs u v) (x ∷ xs)) (y ∷ ys))
    (Any (λ u. Any (λ v. To vs u v) (y ∷ ys)) (x ∷ xs))))))

-- ---- what the walks tell

-- the members are numbers of events of the trace
abbrev pub InRange : List Event → List ℕ → Type 0
InRange vs xs = AllByRecursion (λ u. u < length vs) xs

-- the verdict of a walk over all nodes of the trace is the relation
abbrev pub WalksDecide : Type 0
WalksDecide =
    (vs : List Event) → Orderly vs → (n : ℕ) → ((i x : ℕ) → Mem x (events_at vs i) → (1 ≤ i) × (i ≤ n)) →
    (x : ℕ) (xs : List ℕ) (y : ℕ) (ys : List ℕ) → InRange vs (x ∷ xs) → InRange vs (y ∷ ys) →
    (r : ℕ) → 1 ≤ r → r ≤ 6 → Decides (walk r vs n x xs y ys).0 (Holds r vs x xs y ys)

-- the steps of a walk over bs that stops at the first comparison which comes out as `stop`
pub record Ranked (stop : Bool) (bs : List Bool) (answer : Bool × ℕ) : Type 0 where
  -- no more steps than comparisons, and at least one if there are any
  pub at_most : answer.1 ≤ length bs
  pub at_least : 1 ≤ length bs → 1 ≤ answer.1
  -- if none came out so, all were made
  pub unstopped : answer.0 ≡ not stop → AllByRecursion (λ b. b ≡ not stop) bs × (answer.1 ≡ length bs)
  -- else the steps are the rank, from 1, of the first that did
  pub stopped : answer.0 ≡ stop → (before : List Bool) × (after : List Bool) × (bs ≡ before ++ (stop ∷ after)) × AllByRecursion (λ b. b ≡ not stop) before × (answer.1 ≡ suc (length before))

-- an "every" test stops at the first comparison that is false, a "some" test at the first that is true
abbrev pub StepsRanked : Type 0
StepsRanked =
    (r : ℕ) (vs : List Event) (n x : ℕ) (xs : List ℕ) (y : ℕ) (ys : List ℕ) →
    Ranked (not (is_every r)) (compared r vs n x xs y ys) (walk r vs n x xs y ys)

-- what is answered of relation r between X and Y, in the trace vs of n nodes
pub record Related (r : ℕ) (vs : List Event) (n x : ℕ) (xs : List ℕ) (y : ℕ) (ys : List ℕ) (answer : Bool × ℕ) : Type 0 where
  -- yes exactly if the relation holds over all pairs of members
  pub verdict : Decides answer.0 (Holds r vs x xs y ys)
  -- the rank of the comparison that decided it, or the number of all comparisons if none did
  pub steps : Ranked (not (is_every r)) (compared r vs n x xs y ys) answer

-- a walk over all nodes of the trace gives such an answer
abbrev pub WalksRelated : Type 0
WalksRelated =
    (vs : List Event) → Orderly vs → (n : ℕ) → ((i x : ℕ) → Mem x (events_at vs i) → (1 ≤ i) × (i ≤ n)) →
    (x : ℕ) (xs : List ℕ) (y : ℕ) (ys : List ℕ) → InRange vs (x ∷ xs) → InRange vs (y ∷ ys) →
    (r : ℕ) → 1 ≤ r → r ≤ 6 → Related r vs n x xs y ys (walk r vs n x xs y ys)

-- there is at most one such answer
abbrev pub OneAnswer : Type 0
OneAnswer =
    (r : ℕ) (vs : List Event) (n x : ℕ) (xs : List ℕ) (y : ℕ) (ys : List ℕ) (a b : Bool × ℕ) →
    Related r vs n x xs y ys a → Related r vs n x xs y ys b → a ≡ b
