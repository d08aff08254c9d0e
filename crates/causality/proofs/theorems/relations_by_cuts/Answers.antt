use Rattle.causality.proofs.theorems.relations_by_cuts.Goals as goal
use Rattle.causality.proofs.Relations.{relations_by_cuts}

pub returns : goal.returns
returns c = relations_by_cuts
