use Rattle.relating.proofs.walks_decide.Goals as goal
use Rattle.relating.proofs.Walks.{walks_decide}

pub returns : goal.returns
returns c = walks_decide
