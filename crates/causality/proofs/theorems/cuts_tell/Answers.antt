use Rattle.causality.proofs.theorems.cuts_tell.Goals as goal
use Rattle.causality.proofs.Relations.{cuts_tell}

pub returns : goal.returns
returns c = cuts_tell
