use Rattle.relating.proofs.walks_related.Goals as goal
use Rattle.relating.proofs.Related.{walks_related}

pub returns : goal.returns
returns c = walks_related
