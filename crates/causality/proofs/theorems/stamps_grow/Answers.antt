use Rattle.causality.proofs.theorems.stamps_grow.Goals as goal
use Rattle.causality.proofs.Counts.{stamps_grow}

pub returns : goal.returns
returns c = stamps_grow
