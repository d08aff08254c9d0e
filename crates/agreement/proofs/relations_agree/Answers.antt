use Rattle.agreement.proofs.relations_agree.Goals as goal
use Rattle.agreement.proofs.Relating.{relations_agree}

pub returns : goal.returns
returns c = relations_agree
