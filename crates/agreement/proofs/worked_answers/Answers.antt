use Rattle.agreement.proofs.worked_answers.Goals as goal
use Rattle.agreement.proofs.Worked.{worked-answers}

pub returns : goal.returns
returns c = worked-answers
