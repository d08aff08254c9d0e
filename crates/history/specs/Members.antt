-- What holds of the operations of every history that calls leave: each has at least one member, and its members are events of
-- the trace. The relations between operations are asked of such sets alone. A list stands for a set: an event that two places
-- name is in it twice, which no relation can tell.
--
--   Members vs xs       xs is a set of events of the trace vs: not empty, and all of them there
--   MembersHeld h       that of each operation of the history
--   HistoriesHold       whatever the calls, they leave it so
use Rattle.std.specs.Prelude.{◌≡◌, ℕ, ◌<◌, List, length, Some}
use Rattle.std.specs.List.{AllByRecursion}
use Rattle.causality.specs.declared.Event.{Event}
use Rattle.history.specs.History.{History, idle, members_of}
use Rattle.history.specs.Calls.{Call, next_history}

pub record Members (vs : List Event) (xs : List ℕ) : Type 0 where
  pub some : 0 < length xs
  pub held : AllByRecursion (λ u. u < length vs) xs

abbrev pub MembersHeld : History → Type 0
MembersHeld h = (name xs : List ℕ) → members_of h name ≡ Some xs → Members h.events xs

abbrev pub HistoriesHold : Type 0
HistoriesHold = MembersHeld idle × ((h : History) (c : Call) → MembersHeld h → MembersHeld (next_history h c))
