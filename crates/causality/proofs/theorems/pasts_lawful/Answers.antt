use Rattle.causality.proofs.theorems.pasts_lawful.Goals as goal
use Rattle.causality.proofs.Pasts.{pasts-lawful}

pub returns : goal.returns
returns c = pasts-lawful
