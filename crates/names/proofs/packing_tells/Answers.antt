use Rattle.names.proofs.Order.{tells_same}
use Rattle.names.proofs.packing_tells.Goals as goal

pub returns : goal.returns
returns c = tells_same
