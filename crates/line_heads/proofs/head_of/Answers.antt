use Rattle.std.proofs.Common.{rules}
use Rattle.line_heads.specs.declared.Key.TheVariants.{Nodes, Local, Send, Receive, Meet, Close, Op, Order, Ask}
use Rattle.line_heads.proofs.head_of.Goals as goal

pub returns-in_default : goal.returns-in_default
returns-in_default c k =
    elim k [
      | Nodes ↦ search rules
      | Local ↦ search rules
      | Send ↦ search rules
      | Receive ↦ search rules
      | Meet ↦ search rules
      | Close ↦ search rules
      | Op ↦ search rules
      | Order ↦ search rules
      | Ask ↦ search rules
    ]
