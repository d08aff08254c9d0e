-- What has been joined so far.
use Rattle.std.proofs.Common.{◌≡◌, List, take}
use Rattle.std.specs.List.{AllZip}
use Rattle.gathering.specs.Gathering.{joined_all}
use Rattle.gathering.proofs.gather_by.Given as goal

abbrev pub invariant-loop-x : goal.invariant-loop-x
invariant-loop-x g l = (made : List _) × AllZip (goal.F-post g l.make) (take l.x-index l.items) made × (l.all ≡ joined_all g.J.Joining.op made)
