use Rattle.relating.proofs.steps_ranked.Goals as goal
use Rattle.relating.proofs.Steps.{steps_ranked}

pub returns : goal.returns
returns c = steps_ranked
