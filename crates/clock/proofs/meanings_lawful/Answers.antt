-- The four laws hold of every list of takes.
use Rattle.clock.proofs.Takes.{meanings_lawful}
use Rattle.clock.proofs.meanings_lawful.Goals as goal

pub returns : goal.returns
returns c = meanings_lawful
