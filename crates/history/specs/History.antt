-- The state that the calls leave: idle, open or closed; the number of nodes; the events in the order accepted, newest first;
-- how many operations there are, and the member events of each by its name.
--
-- An event goes by its number, from 0 and the oldest. A place i.k names the k-th event of node i, if there is one.
use Rattle.std.specs.Prelude.{ℕ, suc, Bool, true, false, cond, ◌&&◌, ◌||◌, List, [], ◌∷◌, length, Some, None, Option, ◌==◌, nat_le}
use Rattle.causality.specs.declared.Event.{Event}
use Rattle.causality.specs.declared.Place.{Place}
use Rattle.causality.specs.Limits.{max_events, is_node}
use Rattle.causality.specs.Newest.{kth, has}
use Rattle.causality.specs.Entries.{is}
use Rattle.causality.specs.Traces.{node_of, sends, receives, events_at}
use Rattle.history.specs.declared.Stage.{Stage}

pub record Operations : Type 0 where
  pub count : ℕ
  pub members : List ℕ → Option (List ℕ)

pub record History : Type 0 where
  pub stage : Stage
  pub nodes : ℕ
  pub events : List Event
  pub operations : Operations

abbrev pub no_operations : Operations
no_operations = record { count = 0; members = λ name. None }

-- a correlator just made
abbrev pub idle : History
idle = record { stage = Stage.Idle; nodes = 1; events = []; operations = no_operations }

abbrev pub is_idle : Stage → Bool
is_idle Stage.Idle = true
is_idle Stage.Open = false
is_idle Stage.Closed = false

abbrev pub is_open : Stage → Bool
is_open Stage.Idle = false
is_open Stage.Open = true
is_open Stage.Closed = false

abbrev pub is_closed : Stage → Bool
is_closed Stage.Idle = false
is_closed Stage.Open = false
is_closed Stage.Closed = true

abbrev pub is_none : {X : Type 0} → Option X → Bool
is_none None = true
is_none (Some x) = false

-- ---- events

abbrev pub was_received : List Event → ℕ → Bool
was_received vs m = has (λ v. is (receives v) m) vs

abbrev pub was_sent_by : List Event → ℕ → ℕ → Bool
was_sent_by vs a m = has (λ v. is (sends v) m && node_of v == a) vs

abbrev pub is_full : List Event → Bool
is_full vs = nat_le max_events (length vs)

-- the event that a place names
abbrev pub named : History → Place → Option ℕ
named h p = cond (is_node h.nodes p.node) (kth (events_at h.events p.node) p.index) None

-- ---- operations

abbrev pub same_name : List ℕ → List ℕ → Bool
same_name [] [] = true
same_name [] (y ∷ ys) = false
same_name (x ∷ xs) [] = false
same_name (x ∷ xs) (y ∷ ys) = x == y && same_name xs ys

-- one more operation
abbrev pub with_operation : Operations → List ℕ → List ℕ → Operations
with_operation os name members =
    record { count = suc os.count; members = λ other. cond (same_name name other) (Some members) (os.members other) }

abbrev pub members_of : History → List ℕ → Option (List ℕ)
members_of h name = h.operations.members name

abbrev pub is_letter : ℕ → Bool
is_letter b = (nat_le 65 b && nat_le b 90) || (nat_le 48 b && nat_le b 57)

abbrev pub all_letters : List ℕ → Bool
all_letters [] = true
all_letters (b ∷ bs) = is_letter b && all_letters bs

-- 1 to 8 bytes of A to Z or 0 to 9
abbrev pub is_name : List ℕ → Bool
is_name bs = nat_le 1 (length bs) && (nat_le (length bs) 8 && all_letters bs)

-- the events that places name, where each names one
abbrev pub push_named : Option ℕ → List ℕ → List ℕ
push_named None xs = xs
push_named (Some x) xs = x ∷ xs

abbrev pub all_named : History → List Place → List ℕ
all_named h [] = []
all_named h (p ∷ ps) = push_named (named h p) (all_named h ps)

-- some of the places names nothing
abbrev pub some_unfound : (Place → Option ℕ) → List Place → Bool
some_unfound names [] = false
some_unfound names (p ∷ ps) = is_none (names p) || some_unfound names ps

abbrev pub some_unnamed : History → List Place → Bool
some_unnamed h = some_unfound (named h)
