-- The first elements of a list that is kept oldest first, newest first.
use Rattle.std.specs.Prelude.{ℕ, zero, suc, List, [], ◌∷◌}

-- f at each number below k, the highest first
abbrev pub listed : {X : Type 0} → (ℕ → X) → ℕ → List X
listed f zero = []
listed f (suc k) = f k ∷ listed f k
