use Rattle.agreement.proofs.stamps_agree.Goals as goal
use Rattle.agreement.proofs.Rows.{stamps_agree}

pub returns : goal.returns
returns c = stamps_agree
