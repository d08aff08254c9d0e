use Rattle.causality.proofs.theorems.worked_trace.Goals as goal
use Rattle.causality.proofs.Worked.{worked_trace}

pub returns : goal.returns
returns c = worked_trace
