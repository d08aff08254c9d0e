-- What a walk has met, and what it has left.
use Rattle.std.proofs.Common.{◌+◌}
use Rattle.link_clock.specs.Links.{Walked}
use Rattle.link_clock.proofs.LinkClock.walk.Given as goal

abbrev pub invariant-loop-x : goal.invariant-loop-x
invariant-loop-x l = Walked l.self.links l.e l.i l.marks (l.x + 1) l.count
