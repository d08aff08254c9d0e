-- The call that a line of the job text spells, and what is reported of it, given the history that it finds.
use Rattle.std.specs.Prelude.{◌≡◌, Some, None, Option, Result}
use Rattle.causality.specs.declared.CausalOrder.{CausalOrder}
use Rattle.line_forms.specs.declared.forms.Line.{Line}
use Rattle.line_forms.specs.declared.forms.Line.TheVariants.{Nodes, Local, Send, Receive, Meet, Order}
use Rattle.history.specs.declared.refusal.Refusal.{Refusal}
use Rattle.history.specs.History.{History}
use Rattle.history.specs.Calls.{Call}
use Rattle.history.specs.Answers.{Answered, OrderOf}

abbrev pub call_of : Line → Call
call_of (Nodes n) = Call.start n
call_of (Local a) = Call.local a
call_of (Send a m) = Call.send a m
call_of (Receive a m) = Call.receive a m
call_of (Meet a b) = Call.meet a b
call_of (Order p q) = Call.order p q

-- what an accepted call has to tell: an order, for the line that asks for one
abbrev pub Tells : History → Line → Option CausalOrder → Type 0
Tells h (Nodes n) o = o ≡ None
Tells h (Local a) o = o ≡ None
Tells h (Send a m) o = o ≡ None
Tells h (Receive a m) o = o ≡ None
Tells h (Meet a b) o = o ≡ None
Tells h (Order p q) o = (x : CausalOrder) × (o ≡ Some x) × OrderOf h p q x

-- what is reported of a line: its call's refusal, if the history that it finds refuses it, or else what it has to tell
abbrev pub Reported : History → Line → Result (Option CausalOrder) Refusal → Type 0
Reported h l r = Answered h (call_of l) r (Tells h l)
