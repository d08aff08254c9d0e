-- An event's index at its own nodes is its timestamp there.
use Rattle.std.proofs.Common.{◌≡◌, ℕ, suc, ◌≤◌, false, List, length, Some, None, Option, sym, refl, ap, ◌∙◌, inl, inr, arith}
use Rattle.std.proofs.lemmas.Bool.{cases_Bool, cases_lt, both_ways}
use Rattle.causality.specs.declared.Event.{Event}
use Rattle.causality.specs.Newest.{entry}
use Rattle.causality.specs.Entries.{timeline, past}
use Rattle.causality.specs.Traces.{from, stands, events_at, forward}
use Rattle.causality.specs.Relations.{index, fore, IndexIsStamp}
use Rattle.causality.proofs.Newest.{entry-low, entry-some, entry-mem, entry-order, numbers_in, numbers_out, numbers_descend}
use Rattle.causality.proofs.Pasts.{pasts-lawful}
use Rattle.causality.proofs.Counts.{stamps_tell, tally_le}
use Rattle.causality.proofs.Traces.{length-entries, timeline-events}
use Rattle.causality.proofs.Relations.{position-entry, mem-position, at_entry}

module _ (vs : List Event) (x i : ℕ) (v : Event) (e : entry vs x ≡ Some v) where
  -- of its own column an event's past holds itself and no later event
  own_count : (n : ℕ) → entry (events_at vs i) n ≡ Some x → fore vs x i ≡ suc n
  own_count n f =
      let c = events_at vs i in
      let laws = pasts-lawful (forward vs) in
      let own = laws.own x (omega (arith, length-entries from vs, entry-low vs x v e)) in
      let low = (stamps_tell (forward vs) x i (suc n) x (at_entry from vs i n x f)).0 own in
      let most : fore vs x i ≤ length c = omega (arith, tally_le (past (forward vs) x) (timeline (forward vs) i), ap length (timeline-events from vs i)) in
      elim (cases_lt (suc n) (fore vs x i)) [
        | inl more ↦
            let (y, g) = entry-some c (suc n) (omega arith) in
            let later = (stamps_tell (forward vs) x i (suc (suc n)) y (at_entry from vs i (suc n) y g)).1 (omega arith) in
            absurd (omega (arith, laws.no_higher x y later, entry-order c (numbers_descend (λ w. stands w i) vs) n (suc n) x y f g (omega arith)))
        | inr no_more ↦ omega arith
      ]

  elsewhere : stands v i ≡ false → (o : Option ℕ) → index vs i x ≡ o → o ≡ None
  elsewhere off None f = refl
  elsewhere off (Some k) f =
      let (n, _, g) = position-entry (events_at vs i) x k f in
      let (w, h, s) = numbers_out (λ u. stands u i) vs x (entry-mem (events_at vs i) n x g) in
      let same : v ≡ w = cc in
      absurd (both_ways (stands v i) off (rw same s))

pub index_is_stamp : IndexIsStamp
index_is_stamp vs x i v e =
    elim (cases_Bool (stands v i)) [
      | inl s ↦
          let (k, f) = mem-position (events_at vs i) x (numbers_in (λ w. stands w i) vs x v e s) in
          let (n, l, g) = position-entry (events_at vs i) x k f in
          rw s (f ∙ ap Some (l ∙ sym (own_count vs x i v e n g)))
      | inr s ↦ rw s (elsewhere vs x i v e s (index vs i x) refl)
    ]
