use Rattle.causality.proofs.theorems.columns_decide.Goals as goal
use Rattle.causality.proofs.Columns.{columns_decide}

pub returns : goal.returns
returns c = columns_decide
