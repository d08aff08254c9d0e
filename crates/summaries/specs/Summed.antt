-- When the record of an operation is right: where both clocks took the trace, its rows are those of the theory.
--
--   Traced vs n μ ρ es         the forward clock took the trace vs of n nodes, the reverse clock took it from last to first, and
--                              the slice es has its events, oldest first
--   Summed μ ρ es members o    in any trace that the clocks took, of which the members are events, o is the record of the members
use Rattle.std.specs.Prelude.{◌≡◌, ℕ, ◌<◌, ◌≤◌, List, ◌∷◌, reverse, length}
use Rattle.std.specs.List.{AllByRecursion}
use Rattle.causality.specs.declared.Event.{Event}
use Rattle.causality.specs.Traces.{forward, backward}
use Rattle.clock.specs.Meaning.{Meaning}
use Rattle.clock.specs.Takes.{meaning}
use Rattle.records.specs.declared.operations.Operation.{Operation}
use Rattle.records.specs.Summaries.{Summary}

pub record Traced (vs : List Event) (n : ℕ) (μ ρ : Meaning) (es : List Event) : Type 0 where
  pub ahead : μ ≡ meaning n (forward vs)
  pub back : ρ ≡ meaning n (backward vs)
  pub kept : vs ≡ reverse es
  pub few : length es ≤ 512
  pub nodes : n ≤ 16

abbrev pub Summed : Meaning → Meaning → List Event → List ℕ → Operation → Type 0
Summed μ ρ es members o =
    (vs : List Event) (n x : ℕ) (xs : List ℕ) → Traced vs n μ ρ es → members ≡ x ∷ xs → AllByRecursion (λ u. u < length vs) (x ∷ xs) → Summary vs n x xs o
