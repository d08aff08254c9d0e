-- The calls, when each is refused and why, and the history that an accepted call leaves.
--
-- `refusals` lists, for each call, the refusals in the order in which they are tried, each with its test; the first that holds
-- is the call's refusal. A refused call leaves the history as it was. A row that is lent to a call counts by its length.
use Rattle.std.specs.Prelude.{ℕ, Bool, cond, not, ◌&&◌, ◌||◌, List, [], ◌∷◌, length, Some, None, Option, ◌==◌, nat_le, nat_lt}
use Rattle.causality.specs.declared.Event.{Event}
use Rattle.causality.specs.declared.Place.{Place}
use Rattle.causality.specs.Limits.{max_nodes, is_node}
use Rattle.causality.specs.Traces.{was_sent}
use Rattle.history.specs.declared.Stage.{Stage}
use Rattle.history.specs.declared.refusal.Refusal.{Refusal}
use Rattle.history.specs.History.{History, no_operations, with_operation, is_idle, is_open, is_closed, is_none, was_received, was_sent_by, is_full, named, members_of, is_name, all_named, some_unnamed}

pub data Call : Type 0 where
  -- a number of nodes
  start : ℕ → Call
  -- a node
  local : ℕ → Call
  -- a node and a message number
  send receive : ℕ → ℕ → Call
  -- two nodes
  meet : ℕ → ℕ → Call
  close : Call
  -- a name and places
  gather : List ℕ → List Place → Call
  order : Place → Place → Call
  -- a place, a direction (1 forward, 2 reverse) and the length of the row
  stamp : Place → ℕ → ℕ → Call
  -- a name, a cut (1 to 4) and the length of the row
  cut : List ℕ → ℕ → ℕ → Call
  -- a relation (1 to 6) and two names
  relate : ℕ → List ℕ → List ℕ → Call

-- the refusals of an event call at nodes that `nodes_fit` tests, before its own
abbrev pub in_trace : History → Bool → List (Bool × Refusal) → List (Bool × Refusal)
in_trace h nodes_fit own = (is_idle h.stage, Refusal.Idle) ∷ (is_closed h.stage, Refusal.Closed) ∷ (not nodes_fit, Refusal.NoNode) ∷ own

-- the refusals of a call that waits for close, before its own
abbrev pub when_closed : History → List (Bool × Refusal) → List (Bool × Refusal)
when_closed h own = (is_idle h.stage, Refusal.Idle) ∷ (is_open h.stage, Refusal.Open) ∷ own

abbrev pub refusals : History → Call → List (Bool × Refusal)
refusals h (Call.start n) = (not (is_node max_nodes n), Refusal.NodeCount) ∷ []
refusals h (Call.local a) = in_trace h (is_node h.nodes a) ((is_full h.events, Refusal.Full) ∷ [])
refusals h (Call.send a m) =
    in_trace h (is_node h.nodes a)
    ((m == 0, Refusal.NoMessage) ∷ (was_sent h.events m, Refusal.SentBefore) ∷ (is_full h.events, Refusal.Full) ∷ [])
refusals h (Call.receive a m) =
    in_trace h (is_node h.nodes a)
    ((m == 0, Refusal.NoMessage) ∷ (not (was_sent h.events m), Refusal.NotSent) ∷ (was_received h.events m, Refusal.ReceivedBefore)
    ∷ (was_sent_by h.events a m, Refusal.SameNode) ∷ (is_full h.events, Refusal.Full) ∷ [])
refusals h (Call.meet a b) =
    in_trace h (is_node h.nodes a && is_node h.nodes b) ((a == b, Refusal.SameNode) ∷ (is_full h.events, Refusal.Full) ∷ [])
refusals h Call.close = (is_idle h.stage, Refusal.Idle) ∷ (is_closed h.stage, Refusal.Closed) ∷ []
refusals h (Call.gather name places) =
    when_closed h
    ((not (is_name name), Refusal.BadName) ∷ (not (is_none (members_of h name)), Refusal.NameTaken)
    ∷ (nat_le 32 h.operations.count, Refusal.OperationsFull) ∷ (not (nat_le 1 (length places) && nat_le (length places) 512), Refusal.PlaceCount)
    ∷ (some_unnamed h places, Refusal.NoEvent) ∷ [])
refusals h (Call.order p q) = (is_idle h.stage, Refusal.Idle) ∷ (is_none (named h p) || is_none (named h q), Refusal.NoEvent) ∷ []
refusals h (Call.stamp p d len) =
    (is_idle h.stage, Refusal.Idle) ∷ (not (d == 1 || d == 2), Refusal.BadSelector) ∷ (d == 2 && is_open h.stage, Refusal.Open)
    ∷ (is_none (named h p), Refusal.NoEvent) ∷ (nat_lt len h.nodes, Refusal.ShortRow) ∷ []
refusals h (Call.cut x w len) =
    when_closed h
    ((is_none (members_of h x), Refusal.NoOperation) ∷ (not (nat_le 1 w && nat_le w 4), Refusal.BadSelector) ∷ (nat_lt len h.nodes, Refusal.ShortRow) ∷ [])
refusals h (Call.relate r x y) =
    when_closed h
    ((not (nat_le 1 r && nat_le r 6), Refusal.BadSelector)
    ∷ (is_none (members_of h x) || is_none (members_of h y), Refusal.NoOperation) ∷ [])

-- the first refusal whose test holds
abbrev pub first_that : List (Bool × Refusal) → Option Refusal
first_that [] = None
first_that ((b, e) ∷ rest) = cond b (Some e) (first_that rest)

abbrev pub refusal : History → Call → Option Refusal
refusal h c = first_that (refusals h c)

-- ---- what an accepted call leaves

abbrev pub with_event : History → Event → History
with_event h v = record { stage = h.stage; nodes = h.nodes; events = v ∷ h.events; operations = h.operations }

abbrev pub after : History → Call → History
after h (Call.start n) = record { stage = Stage.Open; nodes = n; events = []; operations = no_operations }
after h (Call.local a) = with_event h (Event.Local a)
after h (Call.send a m) = with_event h (Event.Send a m)
after h (Call.receive a m) = with_event h (Event.Receive a m)
after h (Call.meet a b) = with_event h (Event.Meet a b)
after h Call.close = record { stage = Stage.Closed; nodes = h.nodes; events = h.events; operations = h.operations }
after h (Call.gather name places) =
    record { stage = h.stage; nodes = h.nodes; events = h.events; operations = with_operation h.operations name (all_named h places) }
after h (Call.order p q) = h
after h (Call.stamp p d len) = h
after h (Call.cut x w len) = h
after h (Call.relate r x y) = h

-- the history after a call, refused or not
abbrev pub next_history : History → Call → History
next_history h c = cond (is_none (refusal h c)) (after h c) h

-- the history after calls made one after another, refused or not
abbrev pub history_after : History → List Call → History
history_after h [] = h
history_after h (c ∷ cs) = history_after (next_history h c) cs
