-- Calls keep a history lawful.
use Rattle.std.proofs.Common.{◌≡◌, ℕ, true, false, length, Some, None, Option, sym, refl, subst, arith}
use Rattle.std.proofs.lemmas.Bool.{not-false, and_parts, leb-false, ne_eqb, eqb-false}
use Rattle.causality.specs.declared.Event.{Event}
use Rattle.causality.specs.Limits.{is_node}
use Rattle.causality.specs.Traces.{was_sent}
use Rattle.causality.proofs.Newest.{nothing}
use Rattle.history.specs.declared.refusal.Refusal.{Refusal}
use Rattle.history.specs.History.{History, was_received}
use Rattle.history.specs.Calls.{Call, refusals, refusal, with_event, after, next_history}
use Rattle.history.specs.Lawful.{Lawful, May, HistoriesLawful}
use Rattle.history.proofs.Passed.{passed}

pub may_lawful : (h : History) (v : Event) → Lawful h → May h v → Lawful (with_event h v)
may_lawful h v lawful may = record {
  fits = (may.fits, lawful.fits);
  accepted = (may.unsent, may.known, lawful.accepted);
  once = (may.unreceived, lawful.once);
  few = omega (arith, leb-false 512 (length h.events) may.room);
  nodes = lawful.nodes;
}

module _ (h : History) where
  pub may_local : (a : ℕ) → refusal h (Call.local a) ≡ None → May h (Event.Local a)
  may_local a free =
      let (_, (_, (node, (full, _)))) = passed (refusals h (Call.local a)) free in
      record {
        fits = record { here = not-false _ node; there = refl; apart = refl };
        unsent = λ m e. absurd (nothing e);
        known = λ m e. absurd (nothing e);
        unreceived = λ m e. absurd (nothing e);
        room = full;
      }

  pub may_send : (a m : ℕ) → refusal h (Call.send a m) ≡ None → May h (Event.Send a m)
  may_send a m free =
      let (_, (_, (node, (_, (sent, (full, _)))))) = passed (refusals h (Call.send a m)) free in
      record {
        fits = record { here = not-false _ node; there = refl; apart = refl };
        unsent = λ k e. let same : m ≡ k = cc in subst (λ j. was_sent h.events j ≡ false) same sent;
        known = λ k e. absurd (nothing e);
        unreceived = λ k e. absurd (nothing e);
        room = full;
      }

  pub may_receive : (a m : ℕ) → refusal h (Call.receive a m) ≡ None → May h (Event.Receive a m)
  may_receive a m free =
      let (_, (_, (node, (_, (sent, (got, (_, (full, _)))))))) = passed (refusals h (Call.receive a m)) free in
      record {
        fits = record { here = not-false _ node; there = refl; apart = refl };
        unsent = λ k e. absurd (nothing e);
        known = λ k e. let same : m ≡ k = cc in subst (λ j. was_sent h.events j ≡ true) same (not-false _ sent);
        unreceived = λ k e. let same : m ≡ k = cc in subst (λ j. was_received h.events j ≡ false) same got;
        room = full;
      }

  pub may_meet : (a b : ℕ) → refusal h (Call.meet a b) ≡ None → May h (Event.Meet a b)
  may_meet a b free =
      let (_, (_, (nodes, (same, (full, _))))) = passed (refusals h (Call.meet a b)) free in
      let (here, there) = and_parts (is_node h.nodes a) (is_node h.nodes b) (not-false _ nodes) in
      record {
        fits = record { here = here; there = there; apart = ne_eqb b a (λ e. eqb-false a b same (sym e)) };
        unsent = λ m e. absurd (nothing e);
        known = λ m e. absurd (nothing e);
        unreceived = λ m e. absurd (nothing e);
        room = full;
      }

-- the history after an accepted call is lawful
module _ (h : History) (lawful : Lawful h) where
  after-lawful : (c : Call) → refusal h c ≡ None → Lawful (after h c)
  after-lawful (Call.start n) free =
      record { fits = tt; accepted = tt; once = tt; few = omega arith; nodes = not-false _ (passed (refusals h (Call.start n)) free).0 }
  after-lawful (Call.local a) free = may_lawful h (Event.Local a) lawful (may_local h a free)
  after-lawful (Call.send a m) free = may_lawful h (Event.Send a m) lawful (may_send h a m free)
  after-lawful (Call.receive a m) free = may_lawful h (Event.Receive a m) lawful (may_receive h a m free)
  after-lawful (Call.meet a b) free = may_lawful h (Event.Meet a b) lawful (may_meet h a b free)
  after-lawful Call.close free = record { fits = lawful.fits; accepted = lawful.accepted; once = lawful.once; few = lawful.few; nodes = lawful.nodes }
  after-lawful (Call.gather x ps) free = record { fits = lawful.fits; accepted = lawful.accepted; once = lawful.once; few = lawful.few; nodes = lawful.nodes }
  after-lawful (Call.order p q) free = lawful
  after-lawful (Call.stamp p d len) free = lawful
  after-lawful (Call.cut x w len) free = lawful
  after-lawful (Call.relate r x y) free = lawful

  next-lawful : (c : Call) → Lawful (next_history h c)
  next-lawful c = go (refusal h c) refl
    where
      go : (o : Option Refusal) → refusal h c ≡ o → Lawful (next_history h c)
      go None e = rw e (after-lawful c e)
      go (Some r) e = rw e lawful

pub histories_lawful : HistoriesLawful
histories_lawful = (record { fits = tt; accepted = tt; once = tt; few = omega arith; nodes = refl }, λ h c lawful. next-lawful h lawful c)
