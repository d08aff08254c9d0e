-- A count is a cell of a row.
use Rattle.std.proofs.Common.{◌≡◌, length, ◌∙◌, rules}
use Rattle.std.specs.Option.{IfSome}
use Rattle.clock.proofs.Arrays.{length-listed}
use Rattle.clock.proofs.Takes.{count_is}
use Rattle.row_clock.specs.Rows.{cell, held_row, rows_mean}
use Rattle.row_clock.proofs.Rows.{cell-tally}
use Rattle.row_clock.proofs.RowClockClock.count.Goals as goal

pub returns : goal.returns
returns c =
    let s = c.args.self.now in
    let e = c.args.e in
    let i = c.args.i in
    let rows = s.rows in
    let len = length rows in
    let same : IfSome c.then.result (λ n. n ≡ cell rows e i) = search rules in
    count_is (rows_mean s.nodes rows) len (length-listed (held_row rows) len) e i (cell rows e i) c.then.result
    (c.then.ensures.variant ∙ rw c.len.ensures at c.knows.ensures) same (cell-tally s.nodes rows s.columns s.within.1 s.kept e i)
