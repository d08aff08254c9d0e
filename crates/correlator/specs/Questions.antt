-- The number of each direction of a timestamp, and the events that places name.
use Rattle.std.specs.Prelude.{◌≡◌, ℕ, false, ◌||◌, ◌==◌, Some, Result, MatchResult}
use Rattle.history.specs.History.{named}
use Rattle.history.specs.declared.refusal.Refusal.{Refusal}
use Rattle.correlator.specs.declared.state.questions.Direction.{Direction}
use Rattle.correlator.specs.declared.state.questions.Found.{Found}
use Rattle.correlator.specs.Told.{Told, history}

abbrev pub direction_number : Direction → ℕ
direction_number Direction.Forward = 1
direction_number Direction.Reverse = 2

-- a number selects the direction that has it; any other is a bad selector
abbrev pub Selects : ℕ → Result Direction Refusal → Type 0
Selects d r = MatchResult r (λ x. direction_number x ≡ d) (λ e. (e ≡ Refusal.BadSelector) × ((d == 1 || d == 2) ≡ false))

-- the event that was found is the one that its place names
abbrev pub IsAt : Told → Found → Type 0
IsAt t x = named (history t) x.place ≡ Some x.event
