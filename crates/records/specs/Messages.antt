-- What the table of messages, seen as the list of its records, holds of each message number.
--
--   sent_of t m       the record of message m, if it was sent
--   received e o      a record, if there is one, with e as the event that received the message
use Rattle.std.specs.Prelude.{ℕ, List, Some, None, Option}
use Rattle.table.specs.Lookups.{lookup}
use Rattle.records.specs.declared.messages.Sent.{Sent}

abbrev pub sent_of : List Sent → ℕ → Option Sent
sent_of t m = lookup (λ (s : Sent). s.message) t m

abbrev pub with_receipt : ℕ → Sent → Sent
with_receipt e s = record { message = s.message; node = s.node; event = s.event; receipt = Some e }

abbrev pub received : ℕ → Option Sent → Option Sent
received e None = None
received e (Some s) = Some (with_receipt e s)
