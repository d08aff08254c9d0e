use Rattle.causality.proofs.theorems.accepted_is_orderly.Goals as goal
use Rattle.causality.proofs.Traces.{accepted_is_orderly}

pub returns : goal.returns
returns c = accepted_is_orderly
