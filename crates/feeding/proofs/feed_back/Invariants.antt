-- What is not yet taken, and what the clock means by then.
use Rattle.std.proofs.Common.{◌≡◌, List, ◌++◌}
use Rattle.std.specs.Iterator.Adapters.{rev_source}
use Rattle.std.specs.Slice.Iter.{iter_rest}
use Rattle.causality.specs.declared.Event.{Event}
use Rattle.records.specs.Messages.{sent_of}
use Rattle.feeding.specs.Posted.{follower, fed_through}
use Rattle.feeding.proofs.feed_back.Given as goal

abbrev pub invariant-loop-event : goal.invariant-loop-event
invariant-loop-event g l =
    (taken : List Event) × (iter_rest (rev_source l.event-iterator) ++ taken ≡ l.events)
    × (g.C.Clock.means l.clock ≡ fed_through (g.C.Clock.means l.initial.clock) (follower (sent_of l.sent) l.len) taken)
