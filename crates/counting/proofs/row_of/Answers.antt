use Rattle.std.proofs.Common.{ℕ, List, ap, rules}
use Rattle.gathering.specs.declared.Row.{Row}
use Rattle.clock.specs.Meaning.{counted}
use Rattle.counting.specs.Counting.{or_zero}
use Rattle.counting.proofs.Rows.{row_is}
use Rattle.counting.proofs.row_of.Goals as goal

pub returns : goal.returns
returns g c =
    let row : List ℕ → Row = λ xs. record { counts = xs } in
    let f : ℕ → ℕ = λ i. or_zero (counted (g.C.Clock.means c.args.clock.now) c.args.e i) in
    ap row (row_is f 16 c.at_nodes.result.counts (search rules) (λ i l. let p = c.at_nodes.ensures i l in search rules))
