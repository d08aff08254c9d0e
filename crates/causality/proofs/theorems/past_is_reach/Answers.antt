use Rattle.causality.proofs.theorems.past_is_reach.Goals as goal
use Rattle.causality.proofs.Pasts.{past_is_reach}

pub returns : goal.returns
returns c = past_is_reach
