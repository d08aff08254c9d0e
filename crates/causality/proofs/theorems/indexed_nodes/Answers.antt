use Rattle.causality.proofs.theorems.indexed_nodes.Goals as goal
use Rattle.causality.proofs.Relations.{indexed_nodes}

pub returns : goal.returns
returns c = indexed_nodes
