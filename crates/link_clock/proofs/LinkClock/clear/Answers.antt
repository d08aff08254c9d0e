-- A cleared clock keeps no entries.
use Rattle.std.proofs.Common.{rules}
use Rattle.link_clock.proofs.Links.{kept-none}
use Rattle.link_clock.proofs.LinkClock.clear.Goals as goal

pub invariant_of-self : goal.invariant_of-self
invariant_of-self c = record { long = search rules; within = search rules; kept = kept-none _ c.clear.ensures }
