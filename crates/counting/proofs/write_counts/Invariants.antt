use Rattle.std.proofs.Common.{◌≡◌, ℕ}
use Rattle.clock.specs.Meaning.{counted}
use Rattle.history.specs.Answers.{with_row}
use Rattle.counting.specs.Counting.{or_zero}
use Rattle.counting.proofs.write_counts.Given as goal

abbrev pub invariant-loop-i : goal.invariant-loop-i
invariant-loop-i g l = l.count-items ≡ with_row l.i (λ (i : ℕ). or_zero (counted (g.C.Clock.means l.clock) l.e i)) l.initial.count-items
