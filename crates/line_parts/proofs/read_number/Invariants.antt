use Rattle.line_parts.proofs.Reading.{Sofar}
use Rattle.line_parts.proofs.read_number.Given as goal

abbrev pub invariant-loop : goal.invariant-loop
invariant-loop l = Sofar l.s l.rest l.counter l.n
