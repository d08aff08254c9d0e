use Rattle.std.proofs.Common.{ap, ◌∙◌, rules}
use Rattle.gathering.specs.Gathering.{joined_all}
use Rattle.gathering.proofs.Made.{made_map}
use Rattle.counting.specs.Counting.{count_row, zipped_rows}
use Rattle.counting.proofs.Joint.{joint}
use Rattle.counting.proofs.joint_counts.Goals as goal

pub returns : goal.returns
returns g c =
    let f = g.J.Joining.op in
    let μ = g.C.Clock.means c.args.clock.now in
    let (made, each, joined) = c.gather_by.ensures in
    let rows = joined ∙ ap (joined_all (zipped_rows f)) (made_map _ (count_row μ) c.args.entries.now made each (λ x y h. search rules)) in
    record { rows = rows; counts = joint f g.met.J.Joining.associative μ c.args.entries.now c.gather_by.result rows }
