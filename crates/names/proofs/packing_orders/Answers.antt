use Rattle.names.proofs.Order.{orders}
use Rattle.names.proofs.packing_orders.Goals as goal

pub returns : goal.returns
returns c = orders
