use Rattle.std.proofs.Common.{◌≡◌, length, rules}
use Rattle.std.specs.Option.{IfSome}
use Rattle.gathering.proofs.Extremes.{gathered_extreme}
use Rattle.gathering.proofs.extreme_row.Goals as goal

pub returns : goal.returns
returns g c =
    let long : IfSome c.gather.result (λ x. length x.counts ≡ 16) = search rules in
    gathered_extreme g.met.J.Choosing.chooses c.args.rows.now c.gather.result c.gather.ensures long
