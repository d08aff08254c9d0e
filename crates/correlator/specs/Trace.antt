-- What the fields of a trace tell, and the refusals of the event calls as it sees them.
--
--   told t      what the fields of a trace tell: its events lie oldest first
--   traced t    the history that this is
use Rattle.std.specs.Prelude.{ℕ, Bool, not, ◌&&◌, List, [], ◌∷◌, length, reverse, ◌==◌, nat_le}
use Rattle.causality.specs.Limits.{max_events, is_node}
use Rattle.history.specs.declared.refusal.Refusal.{Refusal}
use Rattle.history.specs.History.{History, is_idle, is_closed, is_none}
use Rattle.history.specs.Calls.{in_trace}
use Rattle.records.specs.Messages.{sent_of}
use Rattle.feeding.specs.Posted.{is_received, is_by}
use Rattle.correlator.specs.declared.trace.Trace.{Trace}
use Rattle.correlator.specs.Told.{Told, history}

abbrev pub told : Trace → Told
told t = record { stage = t.stage; nodes = t.nodes; events = reverse t.events }

abbrev pub traced : Trace → History
traced t = history (told t)

-- ---- refusals

-- those of a call that needs an open trace
abbrev pub open_tests : History → List (Bool × Refusal)
open_tests h = (is_idle h.stage, Refusal.Idle) ∷ (is_closed h.stage, Refusal.Closed) ∷ []

abbrev pub local_tests : Trace → ℕ → List (Bool × Refusal)
local_tests t a = in_trace (traced t) (is_node t.nodes a) ((nat_le max_events (length t.events), Refusal.Full) ∷ [])

abbrev pub meet_tests : Trace → ℕ → ℕ → List (Bool × Refusal)
meet_tests t a b =
    in_trace (traced t) (is_node t.nodes a && is_node t.nodes b) ((a == b, Refusal.SameNode) ∷ (nat_le max_events (length t.events), Refusal.Full) ∷ [])

abbrev pub send_tests : Trace → ℕ → ℕ → List (Bool × Refusal)
send_tests t a m =
    in_trace (traced t) (is_node t.nodes a)
    ((m == 0, Refusal.NoMessage) ∷ (not (is_none (sent_of t.sent m)), Refusal.SentBefore) ∷ (nat_le max_events (length t.events), Refusal.Full) ∷ [])

abbrev pub receive_tests : Trace → ℕ → ℕ → List (Bool × Refusal)
receive_tests t a m =
    in_trace (traced t) (is_node t.nodes a)
    ((m == 0, Refusal.NoMessage) ∷ (is_none (sent_of t.sent m), Refusal.NotSent) ∷ (is_received (sent_of t.sent m), Refusal.ReceivedBefore)
    ∷ (is_by a (sent_of t.sent m), Refusal.SameNode) ∷ (nat_le max_events (length t.events), Refusal.Full) ∷ [])
