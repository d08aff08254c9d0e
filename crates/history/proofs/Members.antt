-- Calls keep the members of operations events of the trace.
use Rattle.std.proofs.Common.{◌≡◌, ℕ, suc, ◌<◌, ◌≤◌, leb, List, [], ◌∷◌, length, Some, None, Option, refl, subst, inl, inr, arith}
use Rattle.std.specs.List.{AllByRecursion}
use Rattle.std.proofs.lemmas.Bool.{not-false, and_parts, cases_Bool, leb-true}
use Rattle.causality.specs.declared.Event.{Event}
use Rattle.causality.proofs.Newest.{nothing}
use Rattle.history.specs.declared.refusal.Refusal.{Refusal}
use Rattle.history.specs.History.{History, same_name, all_named}
use Rattle.history.specs.Calls.{Call, refusals, refusal, with_event, after, next_history}
use Rattle.history.specs.Members.{Members, MembersHeld, HistoriesHold}
use Rattle.history.proofs.Named.{members_named}
use Rattle.history.proofs.Passed.{passed}

-- members of a trace are members of a longer one
all_longer : (n m : ℕ) (xs : List ℕ) → n ≤ m → AllByRecursion (λ u. u < n) xs → AllByRecursion (λ u. u < m) xs
all_longer n m [] l h = tt
all_longer n m (x ∷ xs) l (h, hs) = (omega arith, all_longer n m xs l hs)

module _ (h : History) (held : MembersHeld h) where
  event_held : (v : Event) → MembersHeld (with_event h v)
  event_held v name xs e =
      let real = held name xs e in
      record { some = real.some; held = all_longer (length h.events) (suc (length h.events)) xs (omega arith) real.held }

  after_held : (c : Call) → refusal h c ≡ None → MembersHeld (after h c)
  after_held (Call.start n) free = λ name xs e. absurd (nothing e)
  after_held (Call.local a) free = event_held (Event.Local a)
  after_held (Call.send a m) free = event_held (Event.Send a m)
  after_held (Call.receive a m) free = event_held (Event.Receive a m)
  after_held (Call.meet a b) free = event_held (Event.Meet a b)
  after_held Call.close free = held
  after_held (Call.gather x ps) free = λ name xs e.
      let (_, (_, (_, (_, (_, (number, (named-all, _))))))) = passed (refusals h (Call.gather x ps)) free in
      let (some, _) = and_parts (leb 1 (length ps)) (leb (length ps) 512) (not-false _ number) in
      let new : Members h.events (all_named h ps) = members_named h ps (leb-true 1 (length ps) some) named-all in
      elim (cases_Bool (same_name x name)) [
        | inl s ↦ let same : Some (all_named h ps) ≡ Some xs = rw s at e in let is : all_named h ps ≡ xs = cc in subst (Members h.events) is new
        | inr s ↦ held name xs (rw s at e)
      ]
  after_held (Call.order p q) free = held
  after_held (Call.stamp p d len) free = held
  after_held (Call.cut x w len) free = held
  after_held (Call.relate r x y) free = held

  next_held : (c : Call) → MembersHeld (next_history h c)
  next_held c = go (refusal h c) refl
    where
      go : (o : Option Refusal) → refusal h c ≡ o → MembersHeld (next_history h c)
      go None e = rw e (after_held c e)
      go (Some r) e = rw e held

pub histories_hold : HistoriesHold
histories_hold = (λ name xs e. absurd (nothing e), λ h c held. next_held h held c)
