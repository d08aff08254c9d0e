use Rattle.answer_lines.proofs.Writes.{writes_then}
use Rattle.answer_lines.proofs.Output.put_order.Goals as goal

pub returns-clause-writes : goal.returns-clause-writes
returns-clause-writes c = writes_then _ _ c.put_field.ensures.writes (writes_then _ _ c.put.ensures (writes_then _ _ (rw c.word_of.ensures.is at c.put-2.ensures) c.put-3.ensures))
