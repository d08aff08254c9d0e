use Rattle.correlator.specs.Told.{history}
use Rattle.play.proofs.Playing.{Playing}
use Rattle.play.proofs.text.play.Given as goal

abbrev pub invariant-loop-k : goal.invariant-loop-k
invariant-loop-k g l = Playing l.text l.lines l.k l.reader (history l.initial.c) l.initial.output l.output (history l.c)
