-- A new clock keeps no entries.
use Rattle.std.proofs.Common.{rules}
use Rattle.row_clock.specs.Rows.{no_column}
use Rattle.row_clock.proofs.Rows.{kept-none}
use Rattle.row_clock.proofs.RowClockClock.new.Goals as goal

pub invariant_of-result : goal.invariant_of-result
invariant_of-result c =
    let made = c.from_fn.ensures.items in
    record { long = search rules; within = search rules; kept = kept-none _ _ c.new.ensures (λ i l. let (p, q, called) = made.at i no_column l in search rules) }
