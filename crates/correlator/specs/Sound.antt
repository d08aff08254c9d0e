-- What ties a correlator's clocks to the trace that it was told.
--
--   fed h              what a clock means that took all events of h in order, a receive with its send
--   fed_back h         what a clock means that took them, once the trace is closed, from last to first, a send with its receive
--   Sound ahead back t   clocks that mean `ahead` and `back`, and the table of messages, follow the trace t, whose history is lawful
--   Next h v m         h accepts event v, which follows event m by a message, if any
use Rattle.std.specs.Prelude.{◌≡◌, ℕ, false, cond, [], Option}
use Rattle.std.specs.Option.{option_to_list}
use Rattle.causality.specs.declared.Event.{Event}
use Rattle.causality.specs.Newest.{numbers}
use Rattle.causality.specs.Traces.{from, forward, backward}
use Rattle.clock.specs.Meaning.{Meaning}
use Rattle.clock.specs.Takes.{meaning}
use Rattle.feeding.specs.Posted.{posted}
use Rattle.history.specs.History.{History, is_closed}
use Rattle.history.specs.Lawful.{Lawful, May}
use Rattle.records.specs.Messages.{sent_of}
use Rattle.correlator.specs.declared.trace.Trace.{Trace}
use Rattle.correlator.specs.Trace.{told, traced}

abbrev pub fed : History → Meaning
fed h = meaning h.nodes (forward h.events)

abbrev pub fed_back : History → Meaning
fed_back h = meaning h.nodes (cond (is_closed h.stage) (backward h.events) [])

pub record Sound (ahead back : Meaning) (t : Trace) : Type 0 where
  pub follows : ahead ≡ fed (traced t)
  pub returns : back ≡ fed_back (traced t)
  pub lawful : Lawful (traced t)
  pub posts : (m : ℕ) → sent_of t.sent m ≡ posted (told t).events m

pub record Next (h : History) (v : Event) (m : Option ℕ) : Type 0 where
  pub may : May h v
  pub unclosed : is_closed h.stage ≡ false
  pub follows : option_to_list m ≡ numbers (from v) h.events
