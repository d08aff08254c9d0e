-- What a table holds of each key, where keys are numbers: the record that has the key, if any.
--
-- A user of a table states what it holds by look-ups, never by positions.
use Rattle.std.specs.Prelude.{ℕ, cond, List, [], ◌∷◌, Some, None, Option, ◌==◌}

abbrev pub lookup : {X : Type 0} → (X → ℕ) → List X → ℕ → Option X
lookup key [] k = None
lookup key (x ∷ xs) k = cond (key x == k) (Some x) (lookup key xs k)
