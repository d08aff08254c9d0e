-- The promise of the correlator, over every clock and any sequence of its calls: start, local, send, receive, meet, close, order and stamp.
--
-- Two correlators, each over a forward and a reverse clock of any make, are made and then given a list of requests each. A
-- list may hold any calls in any order, also calls that are refused, and may be chosen by earlier answers: what a request
-- is answered depends on the requests before it alone. The history is worked out from the arguments of the calls, never
-- from a correlator or a clock (history/specs: History, Calls, Answers); columns and links are those of the history
-- (causality/specs).
--
--   Kept qs as    every request of one run is answered as the history that it finds says
--   Agree ..      where the histories of two requests, one of each run, have equal columns, they are answered alike
--   Promise ..    all of it
use Rattle.std.specs.Prelude.{◌≡◌, ℕ, ◌<◌, ◌⊎◌, List, length, take, drop, Some, Ok, Err, Result}
use Rattle.agreement.specs.Agreement.{SameColumns}
use Rattle.causality.specs.declared.Place.{Place}
use Rattle.history.specs.History.{is_open}
use Rattle.history.specs.Calls.{Call, next_history}
use Rattle.promise.specs.declared.requests.Answer.{Answer}
use Rattle.promise.specs.declared.requests.Request.{Request}
use Rattle.promise.specs.declared.runs.Short.{Short}
use Rattle.promise.specs.Requests.{call_of, lent_of, Performed}
use Rattle.promise.specs.Runs.{nth, found}

pub record Kept (qs : List Request) (answers : List Answer) : Type 0 where
  -- every request has its answer
  pub count : length answers ≡ length qs
  -- it is refused exactly if a refusal of the history holds, with the number of the first; an event call answers the place of
  -- its event; an order is before exactly if a chain of links leads from the first event to the second, after exactly if one
  -- leads back, same exactly if both places name one event; a stamp has written exactly its row, and a refused one nothing; and
  -- the history that it leaves is the one after the call
  pub each : (k : ℕ) (q : Request) (a : Answer) → nth qs k ≡ Some q → nth answers k ≡ Some a → Performed (found qs k) q a (next_history (found qs k) (call_of q))

-- request k of one run makes the call c and is answered by a, request l of another makes c' and is answered by b, and the
-- histories that they find have equal columns
pub record Pair (qs : List Request) (answers : List Answer) (qs' : List Request) (answers' : List Answer) (k l : ℕ) (c c' : Call) (a b : Answer) : Type 0 where
  pub q : Request
  pub asked : nth qs k ≡ Some q
  pub call : call_of q ≡ c
  pub told : nth answers k ≡ Some a
  pub q' : Request
  pub also_asked : nth qs' l ≡ Some q'
  pub also_call : call_of q' ≡ c'
  pub also_told : nth answers' l ≡ Some b
  pub columns : SameColumns (found qs k) (found qs' l)

pub record Agree (qs : List Request) (answers : List Answer) (qs' : List Request) (answers' : List Answer) : Type 0 where
  -- the same two places are ordered alike, or refused alike
  pub orders : (k l : ℕ) (p p' : Place) (a b : Answer) → Pair qs answers qs' answers' k l (Call.order p p') (Call.order p p') a b → a.result ≡ b.result
  -- where both are open or both closed, a timestamp of the same place leaves the same row in the same memory
  pub stamps : (k l : ℕ) (p : Place) (d len : ℕ) (a b : Answer) → (pair : Pair qs answers qs' answers' k l (Call.stamp p d len) (Call.stamp p d len) a b) →
      lent_of pair.q ≡ lent_of pair.q' → is_open (found qs k).stage ≡ is_open (found qs' l).stage → a.row ≡ b.row

pub record Promise (qs : List Request) (answers : List Answer) (qs' : List Request) (answers' : List Answer) : Type 0 where
  pub first : Kept qs answers
  pub second : Kept qs' answers'
  pub agree : Agree qs answers qs' answers'

-- both runs are made, and their answers stand at the front of the memory for them; or some memory is too short, and nothing is altered
abbrev pub Both : List Request → List Request → List Answer → List Answer → Result (Unit {0}) Short → List Answer → List Answer → Type 0
Both qs qs' old old' (Ok u) new new' =
    Promise qs (take (length qs) new) qs' (take (length qs') new') × (drop (length qs) new ≡ drop (length qs) old) × (drop (length qs') new' ≡ drop (length qs') old')
Both qs qs' old old' (Err e) new new' = ((length old < length qs) ⊎ (length old' < length qs')) × (new ≡ old) × (new' ≡ old')
