use Rattle.std.proofs.Common.{rules}
use Rattle.std.proofs.lemmas.Fmt.{length-decimal-le}
use Rattle.answer_lines.proofs.Writes.{writes_then}
use Rattle.answer_lines.proofs.Output.put_field.Goals as goal

pub put_number-requires : goal.put_number-requires
put_number-requires c = search (rules, length-decimal-le 5)

pub returns-clause-writes : goal.returns-clause-writes
returns-clause-writes c = writes_then _ _ c.put.ensures c.put_number.ensures

pub returns-clause-room : goal.returns-clause-room
returns-clause-room c = search (rules, length-decimal-le 5)
