-- A worked trace of three nodes with an overtaking message and a meet, and what the definitions compute of it.
--
--   node 1: local, send 7, local    node 2: send 8, meet with 3    node 3: receive 7, receive 8, meet with 2, local
use Rattle.std.specs.Prelude.{◌≡◌, ℕ, false, List, [], ◌∷◌, map, Some, Option}
use Rattle.std.specs.Option.{option_map}
use Rattle.causality.specs.declared.Event.{Event}
use Rattle.causality.specs.Newest.{kth}
use Rattle.causality.specs.Entries.{past}
use Rattle.causality.specs.Traces.{events_at, forward}
use Rattle.causality.specs.Relations.{fore, aft, first_reach, joint_reach}
use Rattle.causality.specs.Columns.{column}

abbrev pub worked : List Event
worked =
    Event.Local 3 ∷ Event.Local 1 ∷ Event.Meet 2 3 ∷ Event.Receive 3 8 ∷ Event.Receive 3 7 ∷ Event.Send 2 8 ∷ Event.Send 1 7 ∷ Event.Local 1 ∷ []

-- the same job as it arrived at another time: the message from node 1 later, node 3 behind
abbrev pub rearrived : List Event
rearrived =
    Event.Local 1 ∷ Event.Local 3 ∷ Event.Meet 2 3 ∷ Event.Receive 3 8 ∷ Event.Receive 3 7 ∷ Event.Send 1 7 ∷ Event.Local 1 ∷ Event.Send 2 8 ∷ []

-- the event at a place
abbrev pub event_at : List Event → ℕ → ℕ → Option ℕ
event_at vs i k = kth (events_at vs i) k

abbrev pub row : (ℕ → ℕ) → List ℕ
row f = map f (1 ∷ 2 ∷ 3 ∷ [])

pub record WorkedTrace : Type 0 where
  pub forward_3_2 : option_map (λ x. row (fore worked x)) (event_at worked 3 2) ≡ Some (2 ∷ 1 ∷ 2 ∷ [])
  pub forward_2_2 : option_map (λ x. row (fore worked x)) (event_at worked 2 2) ≡ Some (2 ∷ 2 ∷ 3 ∷ [])
  pub reverse_2_1 : option_map (λ x. row (aft worked x)) (event_at worked 2 1) ≡ Some (0 ∷ 2 ∷ 3 ∷ [])
  pub reverse_1_2 : option_map (λ x. row (aft worked x)) (event_at worked 1 2) ≡ Some (2 ∷ 1 ∷ 4 ∷ [])
  -- 1.3 and 3.4 are concurrent: two events, neither in the other's past
  pub event_1_3 : event_at worked 1 3 ≡ Some 6
  pub event_3_4 : event_at worked 3 4 ≡ Some 7
  pub concurrent : (past (forward worked) 6 7 ≡ false) × (past (forward worked) 7 6 ≡ false)
  -- 2.2 and 3.3 are one event
  pub same_event : event_at worked 2 2 ≡ event_at worked 3 3
  -- of 1.2 and 2.1, events 1 and 2
  pub first_reaches : row (first_reach worked 1 (2 ∷ [])) ≡ 2 ∷ 1 ∷ 1 ∷ []
  pub joint_reaches : row (joint_reach worked 1 (2 ∷ [])) ≡ 4 ∷ 2 ∷ 2 ∷ []
  -- both arrivals have the same columns
  pub columns : map (column worked) (1 ∷ 2 ∷ 3 ∷ []) ≡ map (column rearrived) (1 ∷ 2 ∷ 3 ∷ [])
