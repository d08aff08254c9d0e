-- What each node recorded, whatever the order in which it arrived.
--
-- A column entry holds the event's kind, the message number of a send or receive, and a meet's place at the other node.
-- Two traces whose columns are equal may number their events differently; events are then compared by their places.
-- Equal columns give the same happened-before between places, the same futures, and the same timestamps both ways.
use Rattle.std.specs.Prelude.{◌≡◌, ℕ, suc, cond, List, Some, ◌==◌}
use Rattle.causality.specs.declared.Event.{Event}
use Rattle.causality.specs.Newest.{kth, picked, tally}
use Rattle.causality.specs.Entries.{past}
use Rattle.causality.specs.Traces.{stands, events_at, Orderly, forward, backward, mirror}
use Rattle.causality.specs.Relations.{fore, aft}

pub data Record : Type 0 where
  local : Record
  sent received : ℕ → Record
  met : ℕ → ℕ → Record

-- the node of a meet of a and b other than i
abbrev pub other : ℕ → ℕ → ℕ → ℕ
other i a b = cond (a == i) b a

-- the index that the next event of node j has
abbrev pub next_index : List Event → ℕ → ℕ
next_index us j = suc (tally (λ v. stands v j) us)

-- what node i records of an event, given the earlier events
abbrev pub recorded : ℕ → Event → List Event → Record
recorded i (Event.Local a) us = Record.local
recorded i (Event.Send a m) us = Record.sent m
recorded i (Event.Receive a m) us = Record.received m
recorded i (Event.Meet a b) us = Record.met (other i a b) (next_index us (other i a b))

abbrev pub column : List Event → ℕ → List Record
column vs i = picked (recorded i) (λ v. stands v i) vs

-- event x is the k-th of node i: its place is i.k
abbrev pub PlaceOf : List Event → ℕ → ℕ → ℕ → Type 0
PlaceOf vs i k x = kth (events_at vs i) k ≡ Some x

abbrev pub EqualColumns : List Event → List Event → Type 0
EqualColumns vs ws = (i : ℕ) → column vs i ≡ column ws i

-- x and x' have the place i.k in two traces, and y and y' the place j.l
pub record Agreement (vs ws : List Event) (x x' y y' : ℕ) : Type 0 where
  pub pasts : past (forward vs) y x ≡ past (forward ws) y' x'
  pub futures : past (backward vs) (mirror vs x) (mirror vs y) ≡ past (backward ws) (mirror ws x') (mirror ws y')
  pub stamps : (i : ℕ) → fore vs y i ≡ fore ws y' i
  pub reverse_stamps : (i : ℕ) → aft vs y i ≡ aft ws y' i

abbrev pub ColumnsDecide : Type 0
ColumnsDecide =
    (vs ws : List Event) → Orderly vs → Orderly ws → EqualColumns vs ws → (i k x x' j l y y' : ℕ) →
    PlaceOf vs i k x → PlaceOf ws i k x' → PlaceOf vs j l y → PlaceOf ws j l y' → Agreement vs ws x x' y y'
