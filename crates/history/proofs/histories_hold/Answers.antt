use Rattle.history.proofs.histories_hold.Goals as goal
use Rattle.history.proofs.Members.{histories_hold}

pub returns : goal.returns
returns c = histories_hold
