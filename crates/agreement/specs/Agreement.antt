-- What order, relate, stamp and cut answer by the history alone, and that histories with equal columns answer alike.
--
-- Two histories of one job may have its events in another order, as they arrived. Each node's own events are the same, in
-- the same order: the columns are equal. Then these calls have the same answers, and the same refusals: order always, relate and cut
-- where both traces are closed, a stamp where both are open or neither is.
--
--   Reached h                what holds of every history that calls leave: it is lawful, and operations have members, which are events
--   SameColumns h k          neither history is idle, they have as many nodes, and each node has the same column in both
--   SameOperation h X k X'   the operation X of h and the operation X' of k have members at the same places
--   RelationOf h r X Y a     a is an answer of relation r between the operations X and Y: its verdict says whether the
--                             relation holds over all pairs of members, its steps the rank of the comparison that decided it
use Rattle.std.specs.Prelude.{◌≡◌, ℕ, Bool, true, false, List, ◌∷◌, Some, Result}
use Rattle.causality.specs.declared.CausalOrder.{CausalOrder}
use Rattle.causality.specs.declared.Place.{Place}
use Rattle.causality.specs.Limits.{is_node}
use Rattle.causality.specs.Columns.{column}
use Rattle.history.specs.declared.refusal.Refusal.{Refusal}
use Rattle.history.specs.History.{History, is_idle, is_open, is_closed, members_of}
use Rattle.history.specs.Calls.{Call}
use Rattle.history.specs.Answers.{Answered, OrderOf, stamped, cut_row}
use Rattle.history.specs.Lawful.{Lawful}
use Rattle.history.specs.Members.{MembersHeld}
use Rattle.relating.specs.Walks.{Related}
use Rattle.relating.specs.Agreements.{SamePlaces}

pub record Reached (h : History) : Type 0 where
  pub lawful : Lawful h
  pub members : MembersHeld h

pub record SameColumns (h k : History) : Type 0 where
  pub started : is_idle h.stage ≡ false
  pub also_started : is_idle k.stage ≡ false
  pub nodes : h.nodes ≡ k.nodes
  pub columns : (i : ℕ) → is_node h.nodes i ≡ true → column h.events i ≡ column k.events i

pub record SameOperation (h : History) (X : List ℕ) (k : History) (X' : List ℕ) : Type 0 where
  pub xs : List ℕ
  pub xs' : List ℕ
  pub members : members_of h X ≡ Some xs
  pub also_members : members_of k X' ≡ Some xs'
  pub places : SamePlaces h.events xs k.events xs'

-- ---- answers by the history

abbrev pub RelationOf : History → ℕ → List ℕ → List ℕ → Bool × ℕ → Type 0
RelationOf h r X Y answer =
    (x : ℕ) (xs : List ℕ) (y : ℕ) (ys : List ℕ) → members_of h X ≡ Some (x ∷ xs) → members_of h Y ≡ Some (y ∷ ys) →
    Related r h.events h.nodes x xs y ys answer

-- ---- equal columns, equal answers

-- order answers alike, also that a place names no event
abbrev pub OrdersAgree : Type 0
OrdersAgree =
    (h k : History) → Reached h → Reached k → SameColumns h k → (p q : Place) (r s : Result CausalOrder Refusal) →
    Answered h (Call.order p q) r (OrderOf h p q) → Answered k (Call.order p q) s (OrderOf k p q) → r ≡ s

-- relate answers alike of operations at the same places: the verdict, the steps, and that there is no such relation
abbrev pub RelationsAgree : Type 0
RelationsAgree =
    (h k : History) → Reached h → Reached k → SameColumns h k → is_closed h.stage ≡ true → is_closed k.stage ≡ true →
    (X Y X' Y' : List ℕ) → SameOperation h X k X' → SameOperation h Y k Y' → (r : ℕ) (a b : Result (Bool × ℕ) Refusal) →
    Answered h (Call.relate r X Y) a (RelationOf h r X Y) → Answered k (Call.relate r X' Y') b (RelationOf k r X' Y') → a ≡ b

-- a stamp leaves the same row, also where it is refused
abbrev pub StampsAgree : Type 0
StampsAgree =
    (h k : History) → Reached h → Reached k → SameColumns h k → is_open h.stage ≡ is_open k.stage →
    (p : Place) (d len : ℕ) (old : List ℕ) → stamped h p d len old ≡ stamped k p d len old

-- a cut of operations at the same places leaves the same row, also where it is refused
abbrev pub CutsAgree : Type 0
CutsAgree =
    (h k : History) → Reached h → Reached k → SameColumns h k → is_closed h.stage ≡ true → is_closed k.stage ≡ true →
    (X X' : List ℕ) → SameOperation h X k X' → (w len : ℕ) (old : List ℕ) → cut_row h X w len old ≡ cut_row k X' w len old
