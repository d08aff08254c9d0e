-- What the table of messages holds, told by the events alone, and what a clock means that is fed a trace from last to first.
--
--   noted v n held          what a table that held some messages holds once it noted what v, the event of number n, sends or receives
--   posted vs m             the record of message m: its sender, the event that sent it, and the event that received it, if any
--   follower held len v     the entry of the receive of what v sends, where `held` is the table and the last of len events is entry 0
--   fed_through μ follows vs   what a clock means that meant μ and took some events, the first of them last, each with the entry that `follows` gives
use Rattle.std.specs.Prelude.{ℕ, ◌-◌, Bool, true, false, cond, List, [], ◌∷◌, length, Some, None, Option, ◌==◌}
use Rattle.causality.specs.declared.Event.{Event}
use Rattle.causality.specs.Entries.{is}
use Rattle.causality.specs.Traces.{node_of, partner_of, sends, receives}
use Rattle.clock.specs.Meaning.{Meaning, taken}
use Rattle.history.specs.History.{is_none}
use Rattle.records.specs.declared.messages.Sent.{Sent}
use Rattle.records.specs.Messages.{received}

abbrev pub noted : Event → ℕ → (ℕ → Option Sent) → ℕ → Option Sent
noted v n held m =
    cond
    (is (sends v) m)
    (Some (record { message = m; node = node_of v; event = n; receipt = None }))
    (cond (is (receives v) m) (received n (held m)) (held m))

abbrev pub posted : List Event → ℕ → Option Sent
posted [] m = None
posted (v ∷ vs) m = noted v (length vs) (posted vs) m

abbrev pub is_received : Option Sent → Bool
is_received None = false
is_received (Some s) = cond (is_none s.receipt) false true

abbrev pub is_by : ℕ → Option Sent → Bool
is_by a None = false
is_by a (Some s) = s.node == a

abbrev pub event_of : Option Sent → Option ℕ
event_of None = None
event_of (Some s) = Some s.event

abbrev pub receipt_of : Option Sent → Option ℕ
receipt_of None = None
receipt_of (Some s) = s.receipt

-- the entry, counted from the last of len events, of the event that received what v sends
abbrev pub from_last : ℕ → Option ℕ → Option ℕ
from_last len None = None
from_last len (Some j) = Some (len - 1 - j)

abbrev pub receipt_if : (ℕ → Option Sent) → Option ℕ → Option ℕ
receipt_if held None = None
receipt_if held (Some m) = receipt_of (held m)

abbrev pub follower : (ℕ → Option Sent) → ℕ → Event → Option ℕ
follower held len v = from_last len (receipt_if held (sends v))

abbrev pub fed_through : Meaning → (Event → Option ℕ) → List Event → Meaning
fed_through μ follows [] = μ
fed_through μ follows (v ∷ vs) = taken (fed_through μ follows vs) (node_of v) (partner_of v) (follows v)
