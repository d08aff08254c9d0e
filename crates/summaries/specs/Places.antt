-- The events that places name, gathered once each.
--
--   found_at μ p             the entry that a clock finds at a place
--   with_member xs o         one more member, unless it is one already
--   gathered names xs ps     the members xs, and the events that further places name, each once; `names` tells what a place names
use Rattle.std.specs.Prelude.{ℕ, cond, List, [], ◌∷◌, ◌++◌, Some, None, Option, nat_eq}
use Rattle.causality.specs.declared.Place.{Place}
use Rattle.causality.specs.Newest.{has}
use Rattle.clock.specs.Meaning.{Meaning, found}

abbrev pub found_at : Meaning → Place → Option ℕ
found_at μ p = found μ p.node p.index

abbrev pub with_member : List ℕ → Option ℕ → List ℕ
with_member xs None = xs
with_member xs (Some x) = cond (has (nat_eq x) xs) xs (xs ++ (x ∷ []))

abbrev pub gathered : (Place → Option ℕ) → List ℕ → List Place → List ℕ
gathered names xs [] = xs
gathered names xs (p ∷ ps) = gathered names (with_member xs (names p)) ps
