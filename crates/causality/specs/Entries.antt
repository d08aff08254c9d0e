-- Entries as a clock takes them, newest first, and the causal past of each.
--
-- An entry stands at one node, or at two if it is a meet, and may follow further earlier entries, by messages.
-- Its causal past is itself and the pasts of its immediate predecessors: the latest entry before it at each of its nodes,
-- and those that it follows. That is how a clock computes it. `PastIsReach` says what it means: x lies in the past of e
-- exactly if x is e or a chain of edges leads from x to e (Lamport's happened-before).
--
--   timeline ts i   the numbers of the entries that stand at node i
--   past ts e x     entry x lies in the past of entry e
--   Edge ts x y     x is earlier than y, and they share a node or y follows x by a message
--   Chain L x y     one or more steps of L lead from x to y
--   stamp ts e i    the vector timestamp of e at node i: how many entries of node i lie in its past
--   Cut ts within   of each node, the set `within` holds the earliest entries and no others
use Rattle.std.specs.Prelude.{◌≡◌, ℕ, suc, ◌<◌, ◌≤◌, max, Bool, true, false, cond, ◌||◌, ◌⊎◌, List, [], ◌∷◌, ◌++◌, length, Some, None, Decides, Option, ◌==◌}
use Rattle.std.specs.Option.{option_to_list}
use Rattle.causality.specs.Newest.{entry, kth, numbers, tally, Mem}

-- one entry: its node, the second node of a meet, and the earlier entries that it follows by a message
pub record Entry : Type 0 where
  pub node : ℕ
  pub partner : Option ℕ
  pub priors : List ℕ

abbrev pub is : Option ℕ → ℕ → Bool
is None i = false
is (Some j) i = j == i

-- what stands at node a, and at b if that is given, stands at node i
abbrev pub at_either : ℕ → Option ℕ → ℕ → Bool
at_either a b i = a == i || is b i

abbrev pub timeline : List Entry → ℕ → List ℕ
timeline ts i = numbers (λ t. at_either t.node t.partner i) ts

-- ---- causal pasts

abbrev pub newest : List ℕ → Option ℕ
newest [] = None
newest (x ∷ xs) = Some x

abbrev pub latest : List Entry → Option ℕ → Option ℕ
latest ts None = None
latest ts (Some i) = newest (timeline ts i)

-- the immediate predecessors of an entry that is taken after ts
abbrev pub predecessors : Entry → List Entry → List ℕ
predecessors t ts = option_to_list (latest ts (Some t.node)) ++ (option_to_list (latest ts t.partner) ++ t.priors)

-- x lies in the past of one of es
abbrev pub in_some : (ℕ → ℕ → Bool) → List ℕ → ℕ → Bool
in_some past_of [] x = false
in_some past_of (e ∷ es) x = past_of e x || in_some past_of es x

abbrev pub past : List Entry → ℕ → ℕ → Bool
past [] e x = false
past (t ∷ ts) e x = cond (e == length ts) (x == e || in_some (past ts) (predecessors t ts) x) (past ts e x)

-- ---- edges and chains

-- x and y stand at one node
abbrev pub Together : List Entry → ℕ → ℕ → Type 0
Together ts x y = (i : ℕ) × Mem x (timeline ts i) × Mem y (timeline ts i)

abbrev pub Follows : List Entry → ℕ → ℕ → Type 0
Follows ts x y = (t : Entry) × (entry ts y ≡ Some t) × Mem x t.priors

abbrev pub Edge : List Entry → ℕ → ℕ → Type 0
Edge ts x y = (x < y) × (Together ts x y ⊎ Follows ts x y)

pub data Chain (L : ℕ → ℕ → Type 0) : ℕ → ℕ → Type 0 where
  one : {x y : ℕ} → L x y → Chain L x y
  more : {x p y : ℕ} → Chain L x p → L p y → Chain L x y

-- x is e, or a chain leads from x to e
abbrev pub Reach : List Entry → ℕ → ℕ → Type 0
Reach ts x e = ((x ≡ e) × (e < length ts)) ⊎ Chain (Edge ts) x e

abbrev pub PastIsReach : Type 0
PastIsReach = (ts : List Entry) (e x : ℕ) → Decides (past ts e x) (Reach ts x e)

-- ---- the four laws

pub record PastLaws (ts : List Entry) (within : ℕ → ℕ → Bool) : Type 0 where
  -- an entry lies in its own past
  pub own : (e : ℕ) → e < length ts → within e e ≡ true
  -- the past of anything in a past is part of that past
  pub through : (e y x : ℕ) → within e y ≡ true → within y x ≡ true → within e x ≡ true
  -- the entries of one node in a past are that node's earliest
  pub earliest : (e x y i : ℕ) → within e x ≡ true → Mem x (timeline ts i) → Mem y (timeline ts i) → y < x → within e y ≡ true
  -- no past holds a higher number than its own entry
  pub no_higher : (e x : ℕ) → within e x ≡ true → (x ≤ e) × (e < length ts)

abbrev pub PastsLawful : Type 0
PastsLawful = (ts : List Entry) → PastLaws ts (past ts)

-- ---- counts

-- the k-th entry at node i, from 1
abbrev pub at : List Entry → ℕ → ℕ → Option ℕ
at ts i k = kth (timeline ts i) k

-- how many of the entries at node i a set of entries holds
abbrev pub count : List Entry → (ℕ → Bool) → ℕ → ℕ
count ts within i = tally within (timeline ts i)

abbrev pub Cut : List Entry → (ℕ → Bool) → Type 0
Cut ts within = (x y i : ℕ) → within x ≡ true → Mem x (timeline ts i) → Mem y (timeline ts i) → y < x → within y ≡ true

-- the k-th entry of a node is in a cut exactly if k is at most the cut's count there
abbrev pub CountsTell : Type 0
CountsTell =
    (ts : List Entry) (within : ℕ → Bool) → Cut ts within → (i k x : ℕ) → at ts i k ≡ Some x → Decides (within x) (k ≤ count ts within i)

abbrev pub stamp : List Entry → ℕ → ℕ → ℕ
stamp ts e i = count ts (past ts e) i

-- a past is a cut, so the k-th entry of a node is in it exactly if k is at most the timestamp there
abbrev pub StampsTell : Type 0
StampsTell = (ts : List Entry) (e i k x : ℕ) → at ts i k ≡ Some x → Decides (past ts e x) (k ≤ stamp ts e i)

abbrev pub greatest : (ℕ → ℕ) → List ℕ → ℕ
greatest f [] = 0
greatest f (e ∷ es) = max (f e) (greatest f es)

-- the timestamp of a new entry: at its own nodes all entries there and itself, elsewhere the greatest of its predecessors'
abbrev pub next_stamp : List Entry → Entry → ℕ → ℕ
next_stamp ts t i =
    cond (at_either t.node t.partner i) (suc (length (timeline ts i))) (greatest (λ e. stamp ts e i) (predecessors t ts))

-- that is its timestamp, and no earlier timestamp changes
abbrev pub StampsGrow : Type 0
StampsGrow =
    (t : Entry) (ts : List Entry) (i : ℕ) →
    (stamp (t ∷ ts) (length ts) i ≡ next_stamp ts t i) × ((e : ℕ) → e < length ts → stamp (t ∷ ts) e i ≡ stamp ts e i)
