-- A value that is given only where nothing stands behind it.
use Rattle.std.proofs.Common.{◌≡◌, ℕ, ◌<◌, Bool, eqb, Option, MatchOption, List, [], ◌∷◌, length, refl, arith}
use Rattle.std.specs.Bool.{then_some}
use Rattle.std.proofs.lemmas.Bool.{ne_eqb}

pub only_at_end : {T N : Type 0} (P : T → Type 0) {r : Option T} {b : Bool} {v : T} (rest : List ℕ) → r ≡ then_some b v → b ≡ eqb (length rest) 0 → (rest ≡ [] → P v) → (0 < length rest → N) → MatchOption r N P
only_at_end P [] e is nothing other = rw (e, is) (nothing refl)
only_at_end P (x ∷ rest) e is nothing other = rw (e, is, ne_eqb (length (x ∷ rest)) 0 (omega arith)) (other (omega arith))
