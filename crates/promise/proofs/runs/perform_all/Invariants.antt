use Rattle.std.proofs.Common.{◌≡◌, take, drop}
use Rattle.correlator.specs.Told.{history}
use Rattle.history.specs.History.{idle}
use Rattle.promise.specs.Runs.{found, Ran}
use Rattle.promise.proofs.runs.perform_all.Given as goal

abbrev pub invariant-loop-k : goal.invariant-loop-k
invariant-loop-k g l =
    (history l.c ≡ found l.requests l.k)
    × Ran idle (take l.k l.requests) (take l.k l.answers) × (drop l.k l.answers ≡ drop l.k l.initial.answers)
