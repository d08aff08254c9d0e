use Rattle.causality.proofs.theorems.mirrored.Goals as goal
use Rattle.causality.proofs.Traces.{mirrored}

pub returns : goal.returns
returns c = mirrored
