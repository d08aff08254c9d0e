use Rattle.std.proofs.Common.{ℕ, min, List, length, ap, rules}
use Rattle.counting.proofs.Rows.{row_is}
use Rattle.gathering.specs.declared.Row.{Row}
use Rattle.summaries.specs.Rows.{column_length}
use Rattle.summaries.proofs.trace.Trace.lengths.Goals as goal

pub returns : goal.returns
returns g c =
    let row : List ℕ → Row = λ xs. record { counts = xs } in
    let f : ℕ → ℕ = column_length (g.F.Clock.means c.args.self.now.forward.now) (g.R.Clock.means c.args.self.now.reverse.now) (min (length c.args.self.now.events.now) 65535) in
    ap row (row_is f 16 c.at_nodes.result.counts (search rules) (λ i l. let p = c.at_nodes.ensures i l in search rules))
