use Rattle.std.proofs.Common.{rules}
use Rattle.std.proofs.lemmas.Fmt.{length-decimal-le}
use Rattle.answer_lines.proofs.Writes.{writes_then}
use Rattle.answer_lines.proofs.Output.put_verdict.Goals as goal

pub put_number-requires : goal.put_number-requires
put_number-requires c = search (rules, length-decimal-le 3)

pub put-requires-4 : goal.put-requires-4
put-requires-4 c = search (rules, length-decimal-le 3)

pub returns-clause-writes : goal.returns-clause-writes
returns-clause-writes c = writes_then _ _ c.put_field.ensures.writes (writes_then _ _ c.put.ensures (writes_then _ _ (rw c.yes_or_no.ensures.is at c.put-2.ensures) (writes_then _ _ c.put-3.ensures (writes_then _ _ c.put_number.ensures c.put-4.ensures))))

pub returns-clause-room : goal.returns-clause-room
returns-clause-room c = search (rules, length-decimal-le 3)
