use Rattle.std.proofs.Common.{decimal, sym, ◌∙◌}
use Rattle.std.proofs.lemmas.List.{append_cancel_left}
use Rattle.line_parts.proofs.Reading.{same_number, keyed, number_space}
use Rattle.line_fields.proofs.two_numbers.Goals as goal

pub returns-in_err-rest : goal.returns-in_err-rest
returns-in_err-rest c = rw c.from_residual-in_err-rest.ensures (λ n m sn sm e.
    c.in_err-rest.ensures (decimal m) (same_number c.in_ok-n.ensures (number_space n _ (keyed c.args.key.now (decimal m) c.requires) sn e)).1)

pub returns-in_err-m : goal.returns-in_err-m
returns-in_err-m c = rw c.from_residual-in_err-m.ensures (λ n m sn sm e.
    c.in_err-m.ensures m sm (append_cancel_left c.args.key.now _ _ (sym c.in_ok-rest.ensures ∙ (same_number c.in_ok-n.ensures (number_space n _ (keyed c.args.key.now (decimal m) c.requires) sn e)).1)))
