use Rattle.relating.proofs.walks_agree.Goals as goal
use Rattle.relating.proofs.Agreements.{walks_agree}

pub returns : goal.returns
returns c = walks_agree
