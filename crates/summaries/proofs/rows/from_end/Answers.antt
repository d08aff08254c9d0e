use Rattle.std.proofs.Common.{slice_index, rules}
use Rattle.gathering.proofs.Made.{made_at}
use Rattle.summaries.specs.Rows.{from_column_end}
use Rattle.summaries.proofs.rows.from_end.Goals as goal

pub returns : goal.returns
returns c i l = made_at _ _ c.from_fn.result (λ k. from_column_end (slice_index c.args.lengths.now.counts k) (slice_index c.args.counts.now.counts k)) 16 (λ k y q l called. search rules) c.from_fn.ensures.items i 0 l
