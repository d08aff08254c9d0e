-- A worked job of three nodes, with an overtaking message and a meet, from its calls to its answers.
--
--   node 1: local, send 7, local    node 2: send 8, meet with 3    node 3: receive 7, receive 8, meet with 2, local
--
-- Everything is worked out from the arguments of the calls, made one after another on a correlator just made.
--
--   traced               the job's eight events
--   whole                after one more receive, which is refused, the trace is closed, and three operations are gathered:
--                        SETUP of 1.2 and 2.1, PICK of 3.2, REST of 1.3
--   rearrived            the same job as it arrived at another time: node 2's message first, node 1's last event before those of node 3
use Rattle.std.specs.Prelude.{◌≡◌, ℕ, true, false, List, [], ◌∷◌, Some, Ok, codes}
use Rattle.causality.specs.declared.CausalOrder.{CausalOrder}
use Rattle.causality.specs.declared.Place.{Place}
use Rattle.history.specs.declared.refusal.Refusal.{Refusal}
use Rattle.history.specs.Refusals.{number}
use Rattle.history.specs.History.{History, idle, members_of}
use Rattle.history.specs.Calls.{Call, refusal, history_after}
use Rattle.history.specs.Answers.{Answered, OrderOf, stamped, cut_row}
use Rattle.agreement.specs.Agreement.{RelationOf, SameColumns}

-- the place i.k
abbrev pub place : ℕ → ℕ → Place
place i k = record { node = i; index = k }

abbrev pub setup : List ℕ
setup = codes "SETUP"

abbrev pub pick : List ℕ
pick = codes "PICK"

abbrev pub rest : List ℕ
rest = codes "REST"

-- the job's eight events, as they arrived
abbrev pub arrivals : List Call
arrivals =
    Call.start 3 ∷ Call.local 1 ∷ Call.send 1 7 ∷ Call.send 2 8 ∷ Call.receive 3 7 ∷ Call.receive 3 8 ∷ Call.meet 2 3 ∷ Call.local 1 ∷ Call.local 3 ∷ []

-- the calls that close a trace and gather the three operations
abbrev pub gatherings : List Call
gatherings =
    Call.close ∷ Call.gather setup (place 1 2 ∷ place 2 1 ∷ []) ∷ Call.gather pick (place 3 2 ∷ []) ∷ Call.gather rest (place 1 3 ∷ []) ∷ []

-- the same events as they arrived at another time, and the same gatherings
abbrev pub rearrivals : List Call
rearrivals =
    Call.start 3 ∷ Call.send 2 8 ∷ Call.local 1 ∷ Call.send 1 7 ∷ Call.receive 3 7 ∷ Call.receive 3 8 ∷ Call.meet 2 3 ∷ Call.local 3 ∷ Call.local 1 ∷ gatherings

abbrev pub traced : History
traced = history_after idle arrivals

abbrev pub whole : History
whole = history_after traced (Call.receive 3 7 ∷ gatherings)

abbrev pub rearrived : History
rearrived = history_after idle rearrivals

-- memory for three numbers
abbrev pub blank : List ℕ
blank = 0 ∷ 0 ∷ 0 ∷ []

-- what is answered of the job: t is its trace, h its history with the operations, k that of the other arrival
pub record JobAnswers (t h k : History) : Type 0 where
  -- message 7 cannot be received again, and nothing happens after close
  pub received_before : refusal t (Call.receive 3 7) ≡ Some Refusal.ReceivedBefore
  pub closed : refusal h (Call.local 1) ≡ Some Refusal.Closed
  pub numbered : (number Refusal.ReceivedBefore ≡ 9) × (number Refusal.Closed ≡ 3)
  -- forward timestamps of 3.2 and 2.2, reverse ones of 2.1 and 1.2
  pub forward_3_2 : stamped h (place 3 2) 1 3 blank ≡ 2 ∷ 1 ∷ 2 ∷ []
  pub forward_2_2 : stamped h (place 2 2) 1 3 blank ≡ 2 ∷ 2 ∷ 3 ∷ []
  pub reverse_2_1 : stamped h (place 2 1) 2 3 blank ≡ 0 ∷ 2 ∷ 3 ∷ []
  pub reverse_1_2 : stamped h (place 1 2) 2 3 blank ≡ 2 ∷ 1 ∷ 4 ∷ []
  -- the first and the joint reach of SETUP
  pub first_reaches : cut_row h setup 3 3 blank ≡ 2 ∷ 1 ∷ 1 ∷ []
  pub joint_reaches : cut_row h setup 4 3 blank ≡ 4 ∷ 2 ∷ 2 ∷ []
  -- how the operations are related: relation 1 is R1, 2 is R2, 3 is R2P, 5 is R3P, 6 is R4
  pub r1_setup_pick : Answered h (Call.relate 1 setup pick) (Ok (true, 2)) (RelationOf h 1 setup pick)
  pub r2p_setup_pick : Answered h (Call.relate 3 setup pick) (Ok (true, 1)) (RelationOf h 3 setup pick)
  pub r4_pick_setup : Answered h (Call.relate 6 pick setup) (Ok (false, 1)) (RelationOf h 6 pick setup)
  pub r2_setup_rest : Answered h (Call.relate 2 setup rest) (Ok (false, 2)) (RelationOf h 2 setup rest)
  pub r3p_setup_rest : Answered h (Call.relate 5 setup rest) (Ok (true, 1)) (RelationOf h 5 setup rest)
  pub r4_setup_setup : Answered h (Call.relate 6 setup setup) (Ok (true, 1)) (RelationOf h 6 setup setup)
  -- 1.3 and 3.4 are concurrent, and 2.2 and 3.3 are one event
  pub concurrent : Answered h (Call.order (place 1 3) (place 3 4)) (Ok CausalOrder.Concurrent) (OrderOf h (place 1 3) (place 3 4))
  pub one_event : Answered h (Call.order (place 2 2) (place 3 3)) (Ok CausalOrder.Same) (OrderOf h (place 2 2) (place 3 3))
  -- both arrivals have the same columns, though their events have other numbers
  pub columns : SameColumns h k
  pub members : (members_of h setup ≡ Some (1 ∷ 2 ∷ [])) × (members_of k setup ≡ Some (2 ∷ 0 ∷ []))

abbrev pub WorkedAnswers : Type 0
WorkedAnswers = JobAnswers traced whole rearrived
