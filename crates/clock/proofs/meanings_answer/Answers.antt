-- Answers are the timestamps and places of the takes.
use Rattle.clock.proofs.Takes.{meanings_answer}
use Rattle.clock.proofs.meanings_answer.Goals as goal

pub returns : goal.returns
returns c = meanings_answer
