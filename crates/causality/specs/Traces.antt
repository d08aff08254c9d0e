-- Traces of events, newest first; their links, and what the forward and the reverse clock take of them.
--
-- A link runs from each event to the next of its column, and from a send to the receive of its message.
-- An event happened before another if a chain of one or more links leads from it to that one.
-- The forward clock takes the events in order, each with the events that it follows by a message; the reverse clock takes
-- them from last to first, each with the events that follow it. Both are one definition, `entries`, at two directions of the
-- messages, so that the reverse clock's pasts are the futures of the trace by a symmetry and not by a second proof.
--
--   stands v i         event v stands at node i
--   events_at vs i     the numbers of the events at node i
--   Link vs x y        the trade's link, above
--   Before vs x y      event x happened before event y
--   forward, backward  the entries that the two clocks take
--   mirror vs x        the number of event x counted from the end
--   Orderly vs         no message is received before it is sent
use Rattle.std.specs.Prelude.{◌≡◌, ℕ, suc, ◌-◌, ◌<◌, Bool, true, false, ◌⊎◌, List, [], ◌∷◌, reverse, length, Some, None, Decides, Option}
use Rattle.causality.specs.declared.Event.{Event}
use Rattle.causality.specs.Newest.{entry, kth, numbers, has}
use Rattle.causality.specs.Entries.{Entry, is, at_either, past, Chain}

abbrev pub node_of : Event → ℕ
node_of (Event.Local i) = i
node_of (Event.Send i m) = i
node_of (Event.Receive i m) = i
node_of (Event.Meet i j) = i

abbrev pub partner_of : Event → Option ℕ
partner_of (Event.Local i) = None
partner_of (Event.Send i m) = None
partner_of (Event.Receive i m) = None
partner_of (Event.Meet i j) = Some j

-- the number of the message that an event sends
abbrev pub sends : Event → Option ℕ
sends (Event.Local i) = None
sends (Event.Send i m) = Some m
sends (Event.Receive i m) = None
sends (Event.Meet i j) = None

-- the number of the message that an event receives
abbrev pub receives : Event → Option ℕ
receives (Event.Local i) = None
receives (Event.Send i m) = None
receives (Event.Receive i m) = Some m
receives (Event.Meet i j) = None

abbrev pub both : Option ℕ → Option ℕ → Bool
both None o = false
both (Some m) o = is o m

-- v receives what w sends
abbrev pub from : Event → Event → Bool
from v w = both (receives v) (sends w)

-- v sends what w receives
abbrev pub into : Event → Event → Bool
into v w = from w v

abbrev pub stands : Event → ℕ → Bool
stands v i = at_either (node_of v) (partner_of v) i

abbrev pub events_at : List Event → ℕ → List ℕ
events_at vs i = numbers (λ v. stands v i) vs

-- ---- happened-before

-- y is the next after x in the column of node i
abbrev pub Next : List Event → ℕ → ℕ → ℕ → Type 0
Next vs i x y = (k : ℕ) × (kth (events_at vs i) k ≡ Some x) × (kth (events_at vs i) (suc k) ≡ Some y)

-- y goes with x: at `from`, y receives what x sends
abbrev pub Message : (Event → Event → Bool) → List Event → ℕ → ℕ → Type 0
Message goes vs x y = (v : Event) × (w : Event) × (entry vs x ≡ Some v) × (entry vs y ≡ Some w) × (goes w v ≡ true)

abbrev pub Link : List Event → ℕ → ℕ → Type 0
Link vs x y = ((i : ℕ) × Next vs i x y) ⊎ Message from vs x y

abbrev pub Before : List Event → ℕ → ℕ → Type 0
Before vs x y = Chain (Link vs) x y

abbrev pub Orderly : List Event → Type 0
Orderly vs = (x y : ℕ) → Message from vs x y → x < y

-- ---- what the clocks take

abbrev pub entries : (Event → Event → Bool) → List Event → List Entry
entries goes [] = []
entries goes (v ∷ vs) = record { node = node_of v; partner = partner_of v; priors = numbers (goes v) vs } ∷ entries goes vs

abbrev pub forward : List Event → List Entry
forward vs = entries from vs

abbrev pub backward : List Event → List Entry
backward vs = entries into (reverse vs)

abbrev pub mirror : List Event → ℕ → ℕ
mirror vs x = length vs - 1 - x

-- an event's past is itself and what happened before it
abbrev pub PastIsBefore : Type 0
PastIsBefore = (vs : List Event) → Orderly vs → (x y : ℕ) → x < length vs → y < length vs → Decides (past (forward vs) y x) ((x ≡ y) ⊎ Before vs x y)

-- taken backwards, its past is itself and what it happened before
abbrev pub FutureIsAfter : Type 0
FutureIsAfter =
    (vs : List Event) → Orderly vs → (x y : ℕ) → x < length vs → y < length vs →
    Decides (past (backward vs) (mirror vs x) (mirror vs y)) ((x ≡ y) ⊎ Before vs x y)

-- whatever the trace, a past taken backwards is a future
abbrev pub Mirrored : Type 0
Mirrored =
    (vs : List Event) (x y : ℕ) → x < length vs → y < length vs →
    past (backward vs) (mirror vs x) (mirror vs y) ≡ past (forward vs) y x

-- ---- a check of each event against the earlier ones

abbrev pub was_sent : List Event → ℕ → Bool
was_sent vs m = has (λ v. is (sends v) m) vs

-- no message is sent twice, and none is received unless it was sent
abbrev pub Accepted : List Event → Type 0
Accepted [] = Unit {0}
Accepted (v ∷ vs) =
    ((m : ℕ) → sends v ≡ Some m → was_sent vs m ≡ false) × ((m : ℕ) → receives v ≡ Some m → was_sent vs m ≡ true) × Accepted vs

abbrev pub AcceptedIsOrderly : Type 0
AcceptedIsOrderly = (vs : List Event) → Accepted vs → Orderly vs
