use Rattle.causality.proofs.theorems.counts_tell.Goals as goal
use Rattle.causality.proofs.Counts.{counts_tell}

pub returns : goal.returns
returns c = counts_tell
