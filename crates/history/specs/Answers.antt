-- What a call answers, given the history that it finds.
--
--   Obeys h c r Right h'   call c found the history h: it is refused exactly when the refusals of h say so, and as they say,
--                          it leaves h', the history after c, and what it answers when accepted is Right
--   Answered h c r Right   of that, how call c is answered
--   next_place h a         the place that the next event of node a has
--   Compared vs x y o      o tells how event x stands to event y
--   stamped, cut_row       what a stamp and a cut leave in the row that they are lent
--   stamp_number h d x i   how many events of node i are x or before it (d is 1), or are x or after it (d is 2)
use Rattle.std.specs.Prelude.{◌≡◌, ℕ, zero, suc, cond, ◌↔◌, List, [], ◌∷◌, ◌++◌, drop, IfOk, Some, None, Ok, Err, Option, Result, ◌==◌}
use Rattle.causality.specs.declared.CausalOrder.{CausalOrder}
use Rattle.causality.specs.declared.Event.{Event}
use Rattle.causality.specs.declared.Place.{Place}
use Rattle.causality.specs.Traces.{Before}
use Rattle.causality.specs.Relations.{fore, aft, joint_past, whole_past, first_reach, joint_reach}
use Rattle.causality.specs.Columns.{next_index}
use Rattle.history.specs.declared.refusal.Refusal.{Refusal}
use Rattle.history.specs.History.{History, is_none, named, members_of}
use Rattle.history.specs.Calls.{Call, refusal, next_history}

-- why a call was refused, if it was
abbrev pub reason : {X : Type 0} → Result X Refusal → Option Refusal
reason (Ok x) = None
reason (Err e) = Some e

pub record Obeys {X : Type 0} (h : History) (c : Call) (r : Result X Refusal) (Right : X → Type 0) (h' : History) : Type 0 where
  pub refuses : reason r ≡ refusal h c
  pub leaves : h' ≡ next_history h c
  pub answers : IfOk r Right

abbrev pub Answered : {X : Type 0} → History → Call → Result X Refusal → (X → Type 0) → Type 0
Answered h c r Right = (reason r ≡ refusal h c) × IfOk r Right

-- ---- events and their order

abbrev pub next_place : History → ℕ → Place
next_place h a = record { node = a; index = next_index h.events a }

-- before exactly if a chain of links leads from x to y, after exactly if one leads back, same exactly if they are one event
pub record Compared (vs : List Event) (x y : ℕ) (o : CausalOrder) : Type 0 where
  pub before : (o ≡ CausalOrder.Before) ↔ Before vs x y
  pub after : (o ≡ CausalOrder.After) ↔ Before vs y x
  pub same : (o ≡ CausalOrder.Same) ↔ (x ≡ y)

-- the order of the events that two places name
abbrev pub OrderOf : History → Place → Place → CausalOrder → Type 0
OrderOf h p q o = (x y : ℕ) → named h p ≡ Some x → named h q ≡ Some y → Compared h.events x y o

-- ---- rows

-- f at the nodes 1 to n
abbrev pub row : (ℕ → ℕ) → ℕ → List ℕ
row f zero = []
row f (suc n) = row f n ++ (f (suc n) ∷ [])

-- memory with a row written at its front
abbrev pub with_row : ℕ → (ℕ → ℕ) → List ℕ → List ℕ
with_row n f old = row f n ++ drop n old

abbrev pub stamp_number : History → ℕ → ℕ → ℕ → ℕ
stamp_number h d x i = cond (d == 1) (fore h.events x i) (aft h.events x i)

abbrev pub stamp_if : History → ℕ → Option ℕ → List ℕ → List ℕ
stamp_if h d None old = old
stamp_if h d (Some x) old = with_row h.nodes (stamp_number h d x) old

-- what a stamp leaves in the row that it is lent: unless it is refused, the numbers of the nodes 1 to n at its front
abbrev pub stamped : History → Place → ℕ → ℕ → List ℕ → List ℕ
stamped h p d len old = cond (is_none (refusal h (Call.stamp p d len))) (stamp_if h d (named h p) old) old

-- the number at node i of cut w of the members x and xs: joint past (1), whole past (2), first reach (3), joint reach (4)
abbrev pub cut_number : List Event → ℕ → ℕ → List ℕ → ℕ → ℕ
cut_number vs w x xs i =
    cond (w == 1) (joint_past vs x xs i) (cond (w == 2) (whole_past vs x xs i) (cond (w == 3) (first_reach vs x xs i) (joint_reach vs x xs i)))

abbrev pub cut_if : History → ℕ → Option (List ℕ) → List ℕ → List ℕ
cut_if h w None old = old
cut_if h w (Some []) old = old
cut_if h w (Some (x ∷ xs)) old = with_row h.nodes (cut_number h.events w x xs) old

-- what a cut leaves in the row that it is lent: unless it is refused, the numbers of the nodes 1 to n at its front
abbrev pub cut_row : History → List ℕ → ℕ → ℕ → List ℕ → List ℕ
cut_row h name w len old = cond (is_none (refusal h (Call.cut name w len))) (cut_if h w (members_of h name) old) old
