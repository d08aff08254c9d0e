use Rattle.std.proofs.Common.{◌∙◌}
use Rattle.line_forms.proofs.Keys.{key_of}
use Rattle.line_forms.proofs.forms.read_line.Goals as goal

pub returns-in_err-key : goal.returns-in_err-key
returns-in_err-key c = rw c.from_residual.ensures (λ l sound e. let (k, rest, spelt) = key_of l in c.in_err-key.ensures k rest (e ∙ spelt))
