-- The number of each refusal.
use Rattle.std.specs.Prelude.{ℕ}
use Rattle.history.specs.declared.refusal.Refusal.{Refusal}

abbrev pub number : Refusal → ℕ
number Refusal.Idle = 1
number Refusal.NodeCount = 2
number Refusal.Closed = 3
number Refusal.Open = 4
number Refusal.NoNode = 5
number Refusal.Full = 6
number Refusal.SentBefore = 7
number Refusal.NotSent = 8
number Refusal.ReceivedBefore = 9
number Refusal.SameNode = 10
number Refusal.NoMessage = 11
number Refusal.BadName = 12
number Refusal.NameTaken = 13
number Refusal.OperationsFull = 14
number Refusal.PlaceCount = 15
number Refusal.NoEvent = 16
number Refusal.NoOperation = 17
number Refusal.ShortRow = 18
number Refusal.BadSelector = 19
