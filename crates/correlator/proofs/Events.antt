-- What an accepted event does to the forward clock and to the history, whatever its kind.
use Rattle.std.proofs.Common.{◌≡◌, ℕ, suc, true, false, not, ◌&&◌, ltb, List, ◌∷◌, length, Some, None, Option, sym, refl, ap, ◌∙◌, subst, ap₂, arith}
use Rattle.std.specs.Option.{option_to_list, unwrap_or}
use Rattle.std.proofs.lemmas.Bool.{cond-true, and_from, or_left, lt-ltb, leb-false, eq-eqb, false≢true}
use Rattle.causality.specs.declared.Event.{Event}
use Rattle.causality.specs.Limits.{is_node}
use Rattle.causality.specs.Newest.{numbers}
use Rattle.causality.specs.Entries.{Entry, stamp}
use Rattle.causality.specs.Traces.{node_of, partner_of, sends, from, stands, was_sent, forward}
use Rattle.causality.specs.Columns.{next_index}
use Rattle.causality.proofs.Newest.{length-picked}
use Rattle.causality.proofs.Counts.{stamps_grow}
use Rattle.causality.proofs.Traces.{length-entries, timeline-events}
use Rattle.clock.specs.Meaning.{Meaning, taken, counted}
use Rattle.clock.proofs.Takes.{meanings_answer}
use Rattle.history.specs.History.{History, is_closed, is_none}
use Rattle.history.specs.Calls.{Call, refusals, refusal, with_event}
use Rattle.history.specs.Lawful.{Lawful, May}
use Rattle.history.proofs.Lawful.{may_lawful, may_local, may_send, may_receive, may_meet}
use Rattle.history.proofs.Passed.{passed}
use Rattle.records.specs.declared.messages.Sent.{Sent}
use Rattle.records.specs.Messages.{sent_of}
use Rattle.feeding.specs.Posted.{noted, posted}
use Rattle.feeding.proofs.Posts.{posted-sent}
use Rattle.feeding.proofs.Taking.{taken-entry, numbers_never}
use Rattle.counting.specs.Counting.{or_zero}
use Rattle.correlator.specs.declared.trace.Trace.{Trace}
use Rattle.history.specs.Answers.{next_place}
use Rattle.correlator.specs.Told.{Told, history}
use Rattle.correlator.specs.Trace.{told, traced}
use Rattle.correlator.specs.Sound.{fed, fed_back, Sound, Next}
use Rattle.correlator.proofs.Refusals.{told-length}

-- ---- which calls bring an event that may be next

module _ (h : History) where
  pub next_local : (a : ℕ) → refusal h (Call.local a) ≡ None → Next h (Event.Local a) None
  next_local a free = record { may = may_local h a free; unclosed = (passed (refusals h (Call.local a)) free).1.0; follows = sym (numbers_never h.events) }

  pub next_send : (a m : ℕ) → refusal h (Call.send a m) ≡ None → Next h (Event.Send a m) None
  next_send a m free = record { may = may_send h a m free; unclosed = (passed (refusals h (Call.send a m)) free).1.0; follows = sym (numbers_never h.events) }

  pub next_receive : (a m e : ℕ) → refusal h (Call.receive a m) ≡ None → option_to_list (Some e) ≡ numbers (λ w. from (Event.Receive a m) w) h.events → Next h (Event.Receive a m) (Some e)
  next_receive a m e free sender = record { may = may_receive h a m free; unclosed = (passed (refusals h (Call.receive a m)) free).1.0; follows = sender }

  pub next_meet : (a b : ℕ) → refusal h (Call.meet a b) ≡ None → Next h (Event.Meet a b) None
  next_meet a b free = record { may = may_meet h a b free; unclosed = (passed (refusals h (Call.meet a b)) free).1.0; follows = sym (numbers_never h.events) }

-- ---- what such an event does

module _ (h : History) (v : Event) (may : May h v) where
  pub takes_it : (m : Option ℕ) → option_to_list m ≡ numbers (from v) h.events → taken (fed h) (node_of v) (partner_of v) m ≡ fed (with_event h v)
  takes_it m priors = taken-entry h.nodes from v h.events m may.fits (leb-false 512 (length h.events) may.room) priors

  -- and counts it behind all events of its node
  pub new_index : or_zero (counted (fed (with_event h v)) (length h.events) (node_of v)) ≡ next_index h.events (node_of v)
  new_index =
      let vs = h.events in
      let a = node_of v in
      let ts = forward vs in
      let t : Entry = record { node = a; partner = partner_of v; priors = numbers (from v) vs } in
      let here : stands v a ≡ true = or_left _ _ (eq-eqb a a refl) in
      let held : (ltb (length vs) (suc (length ts)) && is_node h.nodes a) ≡ true = and_from _ _ (lt-ltb _ _ (omega (arith, length-entries from vs))) may.fits.here in
      let count : stamp (t ∷ ts) (length vs) a ≡ next_index vs a =
      ap (λ (n : ℕ). stamp (t ∷ ts) n a) (sym (length-entries from vs)) ∙ (stamps_grow t ts a).0 ∙ cond-true _ _ _ here
      ∙ ap suc (ap length (timeline-events from vs a) ∙ length-picked (λ _ us. length us) (λ u. stands u a) vs) in
      ap or_zero ((meanings_answer h.nodes (t ∷ ts) (length vs) a 0).0 ∙ cond-true _ _ _ held) ∙ count

-- a trace that is not closed has given the reverse clock nothing
still : (h : History) (v : Event) → is_closed h.stage ≡ false → fed_back h ≡ fed_back (with_event h v)
still h v unclosed = rw unclosed refl

posted-none : (vs : List Event) (m : ℕ) → was_sent vs m ≡ false → posted vs m ≡ None
posted-none vs m e = none (posted vs m) (posted-sent vs m ∙ e)
  where
    none : (o : Option Sent) → not (is_none o) ≡ false → o ≡ None
    none None h = refl
    none (Some s) h = absurd (false≢true (sym h))

-- the trace t was told `seen`; an event v that may be next goes to a clock at node n, and at node b if given
module _ (ahead back : Meaning) (t : Trace) (sound : Sound ahead back t) (seen : Told) (is : told t ≡ seen) (v : Event) (m : Option ℕ) (next : Next (history seen) v m) where
  here : Next (traced t) v m
  here = subst (λ (x : Told). Next (history x) v m) (sym is) next

  -- the message that it sends is new
  pub unsent : (k : ℕ) → sends v ≡ Some k → sent_of t.sent k ≡ None
  unsent k e = sound.posts k ∙ posted-none (told t).events k (here.may.unsent k e)

  module _ (n : ℕ) (b : Option ℕ) (at-n : n ≡ node_of v) (at-b : b ≡ partner_of v) (ahead' : Meaning) (fed-on : ahead' ≡ taken ahead n b m) where
    took : ahead' ≡ fed (with_event (traced t) v)
    took =
        fed-on ∙ ap₂ (λ (i : ℕ) (j : Option ℕ). taken ahead i j m) at-n at-b
        ∙ ap (λ (μ : Meaning). taken μ (node_of v) (partner_of v) m) sound.follows ∙ takes_it (traced t) v here.may m here.follows

    pub sound_next : (t' : Trace) → traced t' ≡ with_event (traced t) v → ((k : ℕ) → sent_of t'.sent k ≡ noted v (length t.events) (sent_of t.sent) k) → Sound ahead' back t'
    sound_next t' grown sets =
        let h = traced t in record {
          follows = took ∙ ap fed (sym grown);
          returns = sound.returns ∙ still h v here.unclosed ∙ ap fed_back (sym grown);
          lawful = subst Lawful (sym grown) (may_lawful h v sound.lawful here.may);
          posts = λ k. sets k ∙ noted-posted k ∙ ap (λ (x : History). posted x.events k) (sym grown);
        }
      where
        noted-posted : (k : ℕ) → noted v (length t.events) (sent_of t.sent) k ≡ posted (v ∷ (told t).events) k
        noted-posted k = rw (sound.posts k) (ap (λ (l : ℕ). noted v l (posted (told t).events) k) (sym (told-length t)))

    pub placed : (count : Option ℕ) (index : ℕ) → count ≡ counted ahead' (length t.events) n → index ≡ unwrap_or count 0 →
        record { node = n; index = index } ≡ next_place (history seen) (node_of v)
    placed count index counts is-count =
        let h = traced t in
        let counted-here : index ≡ next_index (told t).events (node_of v) =
        is-count ∙ ap or_zero (counts ∙ ap₂ (λ (μ : Meaning) (i : ℕ). counted μ (length t.events) i) took at-n)
        ∙ ap (λ (l : ℕ). or_zero (counted (fed (with_event h v)) l (node_of v))) (sym (told-length t)) ∙ new_index h v here.may in
        ap₂ (λ (i k : ℕ). record { node = i; index = k }) at-n counted-here ∙ ap (λ (x : Told). next_place (history x) (node_of v)) is
