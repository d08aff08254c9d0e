use Rattle.relating.proofs.one_answer.Goals as goal
use Rattle.relating.proofs.Related.{one_answer}

pub returns : goal.returns
returns c = one_answer
