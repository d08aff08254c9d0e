use Rattle.std.proofs.Common.{refl, rules}
use Rattle.history.specs.History.{is_letter}
use Rattle.line_parts.proofs.Naming.{named}
use Rattle.line_parts.proofs.read_name.Goals as goal

pub returns : goal.returns
returns c =
    let run = c.split_while.ensures is_letter (λ b r k. search rules) refl in
    named c.split_while.result.0 c.split_while.result.1 c.then_some.ensures (search rules) (search rules) run
