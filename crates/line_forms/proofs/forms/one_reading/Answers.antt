use Rattle.line_forms.proofs.Unique.{unique}
use Rattle.line_forms.proofs.forms.one_reading.Goals as goal

pub returns : goal.returns
returns c = unique
