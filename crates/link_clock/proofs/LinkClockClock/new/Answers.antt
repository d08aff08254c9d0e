-- A new clock keeps no entries.
use Rattle.std.proofs.Common.{rules}
use Rattle.link_clock.proofs.Links.{kept-none}
use Rattle.link_clock.proofs.LinkClockClock.new.Goals as goal

pub invariant_of-result : goal.invariant_of-result
invariant_of-result c = record { long = search rules; within = search rules; kept = kept-none _ c.new.ensures }
