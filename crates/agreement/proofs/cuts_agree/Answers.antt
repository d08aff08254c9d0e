use Rattle.agreement.proofs.cuts_agree.Goals as goal
use Rattle.agreement.proofs.Rows.{cuts_agree}

pub returns : goal.returns
returns c = cuts_agree
