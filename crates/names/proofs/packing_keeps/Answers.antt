use Rattle.names.proofs.Order.{keeps}
use Rattle.names.proofs.packing_keeps.Goals as goal

pub returns : goal.returns
returns c = keeps
