use Rattle.agreement.proofs.orders_agree.Goals as goal
use Rattle.agreement.proofs.Orders.{orders-agree}

pub returns : goal.returns
returns c = orders-agree
