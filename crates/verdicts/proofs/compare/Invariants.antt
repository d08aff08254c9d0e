use Rattle.std.proofs.Common.{◌≡◌, ℕ, ◌≤◌, Bool, not}
use Rattle.verdicts.specs.Verdicts.{Tests, row_comparisons, walk_until}
use Rattle.verdicts.proofs.compare.Given as goal

-- the walk over the nodes so far was not stopped, and made `steps` comparisons
abbrev pub invariant-loop-i : goal.invariant-loop-i
invariant-loop-i g l =
    ((test : ℕ → ℕ → Bool) → Tests (λ k b r. goal.F-post g l.holds k b r) test → walk_until l.stop (row_comparisons l.indexes test l.bounds l.i) ≡ (not l.stop, l.steps))
    × (l.steps ≤ l.i)
