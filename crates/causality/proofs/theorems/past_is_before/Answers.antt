use Rattle.causality.proofs.theorems.past_is_before.Goals as goal
use Rattle.causality.proofs.Traces.{past_is_before}

pub returns : goal.returns
returns c = past_is_before
