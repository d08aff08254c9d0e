-- The refusals of the event calls, as a trace sees them and by its history.
use Rattle.std.proofs.Common.{◌≡◌, ℕ, leb, List, length, Some, Option, ap, ◌∙◌, sym, inl, inr}
use Rattle.std.proofs.lemmas.Bool.{cases_Bool}
use Rattle.std.proofs.lemmas.List.{length-reverse}
use Rattle.causality.specs.declared.Event.{Event}
use Rattle.history.specs.History.{is_full, is_none}
use Rattle.history.specs.Calls.{Call, first_that, refusal}
use Rattle.history.specs.Lawful.{Lawful}
use Rattle.records.specs.Messages.{sent_of}
use Rattle.feeding.specs.Posted.{posted, event_of}
use Rattle.feeding.proofs.Posts.{posted-sent, posted-received, posted_by, posted_event}
use Rattle.correlator.specs.declared.trace.Trace.{Trace}
use Rattle.std.specs.Option.{option_to_list}
use Rattle.causality.specs.Newest.{numbers}
use Rattle.causality.specs.Traces.{from}
use Rattle.history.specs.declared.refusal.Refusal.{Refusal}
use Rattle.correlator.specs.Told.{Told, history}
use Rattle.correlator.specs.Trace.{told, traced, local_tests, send_tests, receive_tests, meet_tests}

pub told-length : (t : Trace) → length (told t).events ≡ length t.events
told-length t = length-reverse t.events

pub full_is : (t : Trace) → is_full (told t).events ≡ leb 512 (length t.events)
full_is t = ap (leb 512) (told-length t)

-- the trace t was told `seen`
module _ (t : Trace) (seen : Told) (is : told t ≡ seen) where
  -- a refusal of its history is one of what it was told
  turned : (k : Call) (o : Option Refusal) → o ≡ refusal (traced t) k → o ≡ refusal (history seen) k
  turned k o e = e ∙ ap (λ (x : Told). refusal (history x) k) is

  pub local-refusal : (a : ℕ) → first_that (local_tests t a) ≡ refusal (history seen) (Call.local a)
  local-refusal a = turned (Call.local a) _ (rw (full_is t))

  pub meet-refusal : (a b : ℕ) → first_that (meet_tests t a b) ≡ refusal (history seen) (Call.meet a b)
  meet-refusal a b = turned (Call.meet a b) _ (rw (full_is t))

  module _ (posts : (m : ℕ) → sent_of t.sent m ≡ posted (told t).events m) where
    pub send-refusal : (a m : ℕ) → first_that (send_tests t a m) ≡ refusal (history seen) (Call.send a m)
    send-refusal a m = turned (Call.send a m) _ (rw (posts m, posted-sent (told t).events m, full_is t))

    pub receive-refusal : Lawful (traced t) → (a m : ℕ) → first_that (receive_tests t a m) ≡ refusal (history seen) (Call.receive a m)
    receive-refusal lawful a m =
        let vs : List Event = (told t).events in
        let was = posted-sent vs m in
        let ok = lawful.accepted in
        turned (Call.receive a m) _ (
        elim (cases_Bool (is_none (posted vs m))) [
          | inl s ↦ rw (posts m, ← was, s)
          | inr s ↦ rw (posts m, ← was, ← posted-received vs m ok s, ← posted_by vs a m ok s, s, full_is t)
        ])

    -- the event that sent a message
    pub sender : Lawful (traced t) → (a m e : ℕ) → event_of (sent_of t.sent m) ≡ Some e → option_to_list (Some e) ≡ numbers (from (Event.Receive a m)) (history seen).events
    sender lawful a m e is-e =
        ap option_to_list (sym is-e ∙ ap event_of (posts m)) ∙ posted_event (told t).events m lawful.accepted
        ∙ ap (λ (x : Told). numbers (from (Event.Receive a m)) x.events) is
