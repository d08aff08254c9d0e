-- What a clock holds, what each of its calls does and answers, and the four laws of its pasts.
--
-- A clock holds a number of nodes, counted from 1, and entries, counted from 0 and kept newest first: an entry's number is
-- how many are older than it. Each call is a computed test and a value, so that each contract is one equation; a call that is
-- refused leaves everything as it was. The past of a new entry is built as the causal theory builds it, from the pasts of
-- its immediate predecessors.
--
--   Held           an entry that a clock holds: its node, the second node of a meet, and its past, a set of entry numbers
--   held_at vs i   the numbers of the entries at node i
--   within vs e x  entry x lies in the past of entry e
--   asked a b m    the entry that a take asks for: at node a, and at b if given, and following entry m if given
--   taken, number  what a take leaves, and what it answers; begun and begins likewise
use Rattle.std.specs.Prelude.{◌≡◌, ℕ, ◌<◌, ◌≤◌, Bool, true, false, cond, not, ◌&&◌, ◌||◌, List, [], ◌∷◌, ◌++◌, length, Some, None, Option, ◌==◌, nat_lt}
use Rattle.std.specs.Option.{option_to_list}
use Rattle.causality.specs.Limits.{max_nodes, max_events, is_node}
use Rattle.causality.specs.Newest.{numbers, kth, tally, Mem}
use Rattle.causality.specs.Entries.{Entry, is, at_either, newest, in_some}

-- a clock holds as many entries as a trace has events
abbrev pub max_entries : ℕ
max_entries = max_events

pub record Held : Type 0 where
  pub node : ℕ
  pub partner : Option ℕ
  pub past : ℕ → Bool

pub record Meaning : Type 0 where
  pub nodes : ℕ
  pub entries : List Held

-- n nodes and no entries
abbrev pub blank : ℕ → Meaning
blank n = record { nodes = n; entries = [] }

-- ---- entries and their pasts

abbrev pub held_at : List Held → ℕ → List ℕ
held_at vs i = numbers (λ v. at_either v.node v.partner i) vs

abbrev pub within : List Held → ℕ → ℕ → Bool
within [] e x = false
within (v ∷ vs) e x = cond (e == length vs) (v.past x) (within vs e x)

abbrev pub latest_held : List Held → Option ℕ → Option ℕ
latest_held vs None = None
latest_held vs (Some i) = newest (held_at vs i)

-- the immediate predecessors of an entry that is taken after vs: the latest at each of its nodes, and those that it follows
abbrev pub held_before : Entry → List Held → List ℕ
held_before t vs = option_to_list (latest_held vs (Some t.node)) ++ (option_to_list (latest_held vs t.partner) ++ t.priors)

-- the past of an entry that is taken after vs: itself, and the pasts of its immediate predecessors
abbrev pub next_past : Entry → List Held → ℕ → Bool
next_past t vs x = x == length vs || in_some (within vs) (held_before t vs) x

abbrev pub appended : Entry → List Held → List Held
appended t vs = record { node = t.node; partner = t.partner; past = next_past t vs } ∷ vs

abbrev pub asked : ℕ → Option ℕ → Option ℕ → Entry
asked a b m = record { node = a; partner = b; priors = option_to_list m }

-- ---- what a clock accepts

abbrev pub begins : ℕ → Bool
begins = is_node max_nodes

-- what is given, if anything, passes
abbrev pub if_given : (ℕ → Bool) → Option ℕ → Bool
if_given p None = true
if_given p (Some i) = p i

-- n nodes and len entries accept an entry at a and b that follows m
abbrev pub admits : ℕ → ℕ → ℕ → Option ℕ → Option ℕ → Bool
admits n len a b m = nat_lt len max_entries && (is_node n a && (if_given (is_node n) b && (not (is b a) && if_given (λ e. nat_lt e len) m)))

abbrev pub accepts : Meaning → ℕ → Option ℕ → Option ℕ → Bool
accepts s a b m = admits s.nodes (length s.entries) a b m

-- ---- what a clock does and answers

abbrev pub begun : Meaning → ℕ → Meaning
begun s n = cond (begins n) (blank n) s

abbrev pub with_entry : Meaning → Entry → Meaning
with_entry s t = record { nodes = s.nodes; entries = appended t s.entries }

abbrev pub taken : Meaning → ℕ → Option ℕ → Option ℕ → Meaning
taken s a b m = cond (accepts s a b m) (with_entry s (asked a b m)) s

abbrev pub number : Meaning → ℕ → Option ℕ → Option ℕ → Option ℕ
number s a b m = cond (accepts s a b m) (Some (length s.entries)) None

-- how many entries at node i lie in the past of e
abbrev pub counted : Meaning → ℕ → ℕ → Option ℕ
counted s e i =
    cond (nat_lt e (length s.entries) && is_node s.nodes i) (Some (tally (within s.entries e) (held_at s.entries i))) None

-- the k-th entry at node i, from 1
abbrev pub found : Meaning → ℕ → ℕ → Option ℕ
found s i k = cond (is_node s.nodes i) (kth (held_at s.entries i) k) None

-- ---- the four laws

-- an entry lies in its own past
abbrev pub Own : Meaning → Type 0
Own s = (e : ℕ) → e < length s.entries → within s.entries e e ≡ true

-- the past of anything in a past is part of that past
abbrev pub Through : Meaning → Type 0
Through s = (e y x : ℕ) → within s.entries e y ≡ true → within s.entries y x ≡ true → within s.entries e x ≡ true

-- the entries of one node in a past are that node's earliest
abbrev pub Earliest : Meaning → Type 0
Earliest s =
    (e x y i : ℕ) → within s.entries e x ≡ true → Mem x (held_at s.entries i) → Mem y (held_at s.entries i) → y < x →
    within s.entries e y ≡ true

-- no past holds a higher number than its own entry's
abbrev pub NoHigher : Meaning → Type 0
NoHigher s = (e x : ℕ) → within s.entries e x ≡ true → x ≤ e

pub record Laws (s : Meaning) : Type 0 where
  pub own : Own s
  pub through : Through s
  pub earliest : Earliest s
  pub no_higher : NoHigher s
