use Rattle.causality.proofs.theorems.stamps_tell.Goals as goal
use Rattle.causality.proofs.Counts.{stamps_tell}

pub returns : goal.returns
returns c = stamps_tell
