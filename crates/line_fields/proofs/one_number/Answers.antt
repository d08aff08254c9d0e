use Rattle.std.proofs.Common.{rules}
use Rattle.line_parts.proofs.Reading.{number_end, same_number, whole}
use Rattle.line_fields.proofs.Ends.{only_at_end}
use Rattle.line_fields.proofs.one_number.Goals as goal

pub returns-in_err-n : goal.returns-in_err-n
returns-in_err-n c = rw c.from_residual.ensures (λ n small e. c.in_err-n.ensures n _ (number_end n small e))

pub returns : goal.returns
returns c = only_at_end _ c.in_ok-n.rest.now c.then_some.ensures c.is_empty.ensures
    (λ e. (c.in_ok-n.ensures.sound, whole c.in_ok-n.ensures e))
    (λ some n small e. let same = same_number c.in_ok-n.ensures (number_end n small e) in search (rules, same))
