use Rattle.std.proofs.Common.{ℕ, List, ap, rules}
use Rattle.counting.proofs.Rows.{row_is}
use Rattle.gathering.specs.declared.Row.{Row}
use Rattle.summaries.specs.Rows.{own_count}
use Rattle.summaries.proofs.rows.own_row.Goals as goal

pub returns : goal.returns
returns g c =
    let row : List ℕ → Row = λ xs. record { counts = xs } in
    let f : ℕ → ℕ = own_count (g.C.Clock.means c.args.clock.now) c.args.event c.args.e in
    ap row (row_is f 16 c.at_nodes.result.counts (search rules) (λ i l. let p = c.at_nodes.ensures i l in search rules))
