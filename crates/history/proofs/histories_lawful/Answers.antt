use Rattle.history.proofs.histories_lawful.Goals as goal
use Rattle.history.proofs.Lawful.{histories_lawful}

pub returns : goal.returns
returns c = histories_lawful
