-- An accepted take is one more entry.
use Rattle.clock.proofs.Takes.{meanings_grow}
use Rattle.clock.proofs.meanings_grow.Goals as goal

pub returns : goal.returns
returns c = meanings_grow
