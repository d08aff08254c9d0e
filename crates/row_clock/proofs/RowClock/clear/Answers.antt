-- A cleared clock keeps no entries.
use Rattle.std.proofs.Common.{rules}
use Rattle.row_clock.specs.Rows.{no_column}
use Rattle.row_clock.proofs.Rows.{kept-none}
use Rattle.row_clock.proofs.RowClock.clear.Goals as goal

pub invariant_of-self : goal.invariant_of-self
invariant_of-self c =
    let made = c.from_fn-self.ensures.items in
    record { long = search rules; within = search rules; kept = kept-none _ _ c.clear.ensures (λ i l. let (p, q, called) = made.at i no_column l in search rules) }
