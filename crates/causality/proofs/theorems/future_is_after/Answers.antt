use Rattle.causality.proofs.theorems.future_is_after.Goals as goal
use Rattle.causality.proofs.Traces.{future_is_after}

pub returns : goal.returns
returns c = future_is_after
