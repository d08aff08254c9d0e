-- The calls and answers that a run is made of, as the history knows them.
--
--   call_of q            the call that a request makes
--   lent_of q            the row that it lends, if any, and lent_length l how many numbers of it
--   written h c old      what the call c, found at the history h, makes of the numbers that it is lent: a stamp that is accepted
--                        writes its n numbers at the front, and nothing else is altered
--   left_by h q          the whole row after the request, if one was lent
--   Right h c v          v is the answer of the accepted call c; no request makes a gather, a cut or a relate
--   Performed h q a h'   the request q, found at the history h, was answered by a and left the history h'
use Rattle.std.specs.Prelude.{◌≡◌, ℕ, min, List, ◌++◌, take, drop, IfOk, Some, None, Option, Ok, Err, Result}
use Rattle.std.specs.Option.{option_map}
use Rattle.causality.specs.declared.CausalOrder.{CausalOrder}
use Rattle.gathering.specs.declared.Row.{Row}
use Rattle.history.specs.declared.refusal.Refusal.{Refusal}
use Rattle.history.specs.History.{History}
use Rattle.history.specs.Calls.{Call, refusal, next_history}
use Rattle.history.specs.Answers.{reason, next_place, OrderOf, stamped, cut_row}
use Rattle.history.specs.Refusals.{number}
use Rattle.promise.specs.declared.requests.Answer.{Answer}
use Rattle.promise.specs.declared.requests.Lent.{Lent}
use Rattle.promise.specs.declared.requests.Request.{Request}
use Rattle.promise.specs.declared.requests.Request.TheVariants.{Start, Local, Send, Receive, Meet, Close, Order, Stamp}
use Rattle.promise.specs.declared.requests.Value.{Value}

-- how many numbers are lent
abbrev pub lent_length : Lent → ℕ
lent_length l = min l.len 16

abbrev pub call_of : Request → Call
call_of (Start n) = Call.start n
call_of (Local a) = Call.local a
call_of (Send a m) = Call.send a m
call_of (Receive a m) = Call.receive a m
call_of (Meet a b) = Call.meet a b
call_of Close = Call.close
call_of (Order p q) = Call.order p q
call_of (Stamp p d lent) = Call.stamp p d (lent_length lent)

abbrev pub lent_of : Request → Option Lent
lent_of (Start n) = None
lent_of (Local a) = None
lent_of (Send a m) = None
lent_of (Receive a m) = None
lent_of (Meet a b) = None
lent_of Close = None
lent_of (Order p q) = None
lent_of (Stamp p d lent) = Some lent

-- a row of which the lent numbers were changed
abbrev pub with_lent : Lent → (List ℕ → List ℕ) → Row
with_lent l f = record { counts = f (take (lent_length l) l.row.counts) ++ drop (lent_length l) l.row.counts }

-- what a call makes of the numbers that it is lent
abbrev pub written : History → Call → List ℕ → List ℕ
written h (Call.start n) old = old
written h (Call.local a) old = old
written h (Call.send a m) old = old
written h (Call.receive a m) old = old
written h (Call.meet a b) old = old
written h Call.close old = old
written h (Call.gather name places) old = old
written h (Call.order p q) old = old
written h (Call.stamp p d len) old = stamped h p d len old
written h (Call.cut name w len) old = cut_row h name w len old
written h (Call.relate r x y) old = old

abbrev pub left_by : History → Request → Option Row
left_by h q = option_map (λ l. with_lent l (written h (call_of q))) (lent_of q)

abbrev pub Right : History → Call → Value → Type 0
Right h (Call.start n) v = v ≡ Value.Done
Right h (Call.local a) v = v ≡ Value.Placed (next_place h a)
Right h (Call.send a m) v = v ≡ Value.Placed (next_place h a)
Right h (Call.receive a m) v = v ≡ Value.Placed (next_place h a)
Right h (Call.meet a b) v = v ≡ Value.Placed (next_place h a)
Right h Call.close v = v ≡ Value.Done
Right h (Call.gather name places) v = ⊥
Right h (Call.order p q) v = (o : CausalOrder) × (v ≡ Value.Ordered o) × OrderOf h p q o
Right h (Call.stamp p d len) v = v ≡ Value.Done
Right h (Call.cut name w len) v = ⊥
Right h (Call.relate r x y) v = ⊥

-- a result, with what it holds made an answer's value
abbrev pub valued : {X : Type 0} → (X → Value) → Result X Refusal → Result Value Refusal
valued f (Ok x) = Ok (f x)
valued f (Err e) = Err e

-- the answer of a call that was lent no row
abbrev pub without_row : Result Value Refusal → Answer
without_row r = record { result = r; row = None }

pub record Performed (h : History) (q : Request) (a : Answer) (h' : History) : Type 0 where
  -- refused exactly if a refusal holds, and with the number of the first
  pub refuses : reason a.result ≡ refusal h (call_of q)
  pub numbers : option_map number (reason a.result) ≡ option_map number (refusal h (call_of q))
  pub right : IfOk a.result (Right h (call_of q))
  pub row : a.row ≡ left_by h q
  pub leaves : h' ≡ next_history h (call_of q)
