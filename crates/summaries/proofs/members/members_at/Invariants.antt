use Rattle.std.proofs.Common.{◌≡◌, ◌≤◌, [], drop}
use Rattle.summaries.specs.Places.{found_at}
use Rattle.history.specs.History.{some_unfound}
use Rattle.summaries.specs.Places.{gathered}
use Rattle.arrayvec.specs.ArrayVec.{array_vec_len}
use Rattle.summaries.proofs.members.members_at.Given as goal

abbrev pub invariant-loop-p : goal.invariant-loop-p
invariant-loop-p g l =
    (array_vec_len l.members ≤ l.p-index)
    × (some_unfound (found_at (g.C.Clock.means l.clock)) (drop l.p-index l.places) ≡ some_unfound (found_at (g.C.Clock.means l.clock)) l.places)
    × (gathered (found_at (g.C.Clock.means l.clock)) l.members.items (drop l.p-index l.places) ≡ gathered (found_at (g.C.Clock.means l.clock)) [] l.places)
