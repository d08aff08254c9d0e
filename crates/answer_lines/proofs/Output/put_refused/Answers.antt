use Rattle.answer_lines.proofs.Writes.{writes_then}
use Rattle.answer_lines.proofs.Output.put_refused.Goals as goal

pub returns-clause-writes : goal.returns-clause-writes
returns-clause-writes c = writes_then _ _ c.put_field.ensures.writes (writes_then _ _ (rw c.from.ensures at c.put_field-2.ensures.writes) c.put.ensures)
