-- The order of two events and the rows of timestamps, from what the clocks count.
use Rattle.std.proofs.Common.{◌≡◌, ℕ, ◌-◌, ◌<◌, ◌≤◌, Bool, true, false, cond, eqb, ltb, leb, List, [], ◌++◌, reverse, length, drop, Some, None, Decides, Option, sym, refl, ap, ◌∙◌, subst, ap₂, inl, inr, arith}
use Rattle.std.specs.Option.{unwrap_or}
use Rattle.std.proofs.lemmas.List.{length-reverse}
use Rattle.std.proofs.lemmas.Bool.{cond-true, cond-false, ne_eqb, and_from, and_cases, or_cases, not-false, lt-ltb, leb-true, le-leb, eqb-true, eqb-false, eq-eqb, both_ways}
use Rattle.causality.specs.declared.CausalOrder.{CausalOrder}
use Rattle.causality.specs.declared.Event.{Event}
use Rattle.causality.specs.declared.Place.{Place}
use Rattle.causality.specs.Limits.{is_node}
use Rattle.causality.specs.Newest.{kth}
use Rattle.causality.specs.Traces.{from, into, Before, Orderly, forward, backward, mirror}
use Rattle.causality.specs.Relations.{To, fore}
use Rattle.causality.proofs.Counts.{stamps_tell}
use Rattle.causality.proofs.Traces.{length-entries, timeline-events, past_is_before, before_rises, accepted_is_orderly}
use Rattle.clock.specs.Meaning.{Meaning, counted, found}
use Rattle.clock.specs.Takes.{meaning}
use Rattle.clock.proofs.Takes.{meanings_answer}
use Rattle.history.specs.declared.Stage.{Stage}
use Rattle.history.specs.declared.refusal.Refusal.{Refusal}
use Rattle.history.specs.History.{History, is_idle, is_open, is_closed, is_none, named}
use Rattle.history.specs.Calls.{Call, refusals, refusal}
use Rattle.history.specs.Answers.{Compared, with_row, stamp_number, stamp_if, stamped}
use Rattle.history.specs.Lawful.{Lawful}
use Rattle.history.proofs.Named.{named-place, named-low}
use Rattle.history.proofs.Passed.{passed}
use Rattle.counting.specs.Counting.{or_zero}
use Rattle.counting.proofs.Rows.{row_like}
use Rattle.correlator.specs.declared.trace.Trace.{Trace}
use Rattle.correlator.specs.Told.{Told, history}
use Rattle.correlator.specs.Trace.{told, traced}
use Rattle.correlator.specs.Sound.{fed, Sound}
use Rattle.correlator.proofs.Refusals.{told-length}

-- ---- what the forward clock tells of a place

module _ (h : History) where
  pub found-named : (p : Place) → found (fed h) p.node p.index ≡ named h p
  found-named p =
      (meanings_answer h.nodes (forward h.events) 0 p.node p.index).1
      ∙ ap (λ (c : List ℕ). cond (is_node h.nodes p.node) (kth c p.index) None) (timeline-events from h.events p.node)

  -- a count is a timestamp
  pub counted-fore : (e i : ℕ) → e < length h.events → is_node h.nodes i ≡ true → or_zero (counted (fed h) e i) ≡ fore h.events e i
  counted-fore e i low node =
      let held : ltb e (length (forward h.events)) ≡ true = lt-ltb e _ (rw (length-entries from h.events) low) in
      ap or_zero ((meanings_answer h.nodes (forward h.events) e i 0).0 ∙ cond-true _ _ _ (and_from _ _ held node))

  pub counts_decide : Lawful h → (p : Place) (x y : ℕ) → named h p ≡ Some x → y < length h.events → Decides (leb p.index (or_zero (counted (fed h) y p.node))) (To h.events x y)
  counts_decide lawful p x y e low =
      let vs = h.events in
      let (node, place) = named-place h p x e in
      let count = counted-fore y p.node low node in
      let tell = stamps_tell (forward vs) y p.node p.index x (rw (timeline-events from vs p.node) place) in
      let to = past_is_before vs (accepted_is_orderly vs lawful.accepted) x y (named-low h p x e) low in (
        (λ c. to.0 (tell.1 (omega (arith, count, leb-true _ _ c)))),
        λ t. le-leb _ _ (omega (arith, count, tell.0 (to.1 t))),
      )

-- ---- the order that two tests choose

abbrev rank : CausalOrder → ℕ
rank CausalOrder.Before = 0
rank CausalOrder.After = 1
rank CausalOrder.Same = 2
rank CausalOrder.Concurrent = 3

-- two orders of different rank are not equal
distinct : {o p : CausalOrder} → o ≡ p → eqb (rank o) (rank p) ≡ false → ⊥
distinct {o} {p} e f = eqb-false (rank o) (rank p) f (ap rank e)

lead : (vs : List Event) (x y : ℕ) → (x ≡ y → ⊥) → To vs x y → Before vs x y
lead vs x y apart (inl e) = absurd (apart e)
lead vs x y apart (inr c) = c

module _ (vs : List Event) (orderly : Orderly vs) (x y : ℕ) where
  pub same_event : x ≡ y → Compared vs x y CausalOrder.Same
  same_event same = record {
    before = ((λ e. absurd (distinct e refl)), λ c. absurd (omega (arith, before_rises vs orderly x y c)));
    after = ((λ e. absurd (distinct e refl)), λ c. absurd (omega (arith, before_rises vs orderly y x c)));
    same = ((λ _. same), λ _. refl);
  }

  module _ (apart : x ≡ y → ⊥) where
    pub before_event : To vs x y → Compared vs x y CausalOrder.Before
    before_event to =
        let c = lead vs x y apart to in
        let up = before_rises vs orderly x y c in
        record {
          before = ((λ _. c), λ _. refl);
          after = ((λ e. absurd (distinct e refl)), λ d. absurd (omega (arith, before_rises vs orderly y x d)));
          same = ((λ e. absurd (distinct e refl)), λ e. absurd (apart e));
        }

    module _ (none : To vs x y → ⊥) where
      pub after_event : To vs y x → Compared vs x y CausalOrder.After
      after_event to = record {
        before = ((λ e. absurd (distinct e refl)), λ c. absurd (none (inr c)));
        after = ((λ _. lead vs y x (λ e. apart (sym e)) to), λ _. refl);
        same = ((λ e. absurd (distinct e refl)), λ e. absurd (apart e));
      }

      pub concurrent_event : (To vs y x → ⊥) → Compared vs x y CausalOrder.Concurrent
      concurrent_event neither = record {
        before = ((λ e. absurd (distinct e refl)), λ c. absurd (none (inr c)));
        after = ((λ e. absurd (distinct e refl)), λ c. absurd (neither (inr c)));
        same = ((λ e. absurd (distinct e refl)), λ e. absurd (apart e));
      }

-- a reverse timestamp is given only of a closed trace
pub reverse_closed : (h : History) (p : Place) (d len : ℕ) → refusal h (Call.stamp p d len) ≡ None → (d ≡ 1 → ⊥) → is_closed h.stage ≡ true
reverse_closed h p d len free not-one =
    let (idle, (selector, (waits, _))) = passed (refusals h (Call.stamp p d len)) free in
    let two : eqb d 2 ≡ true = elim (or_cases (eqb d 1) (eqb d 2) (not-false _ selector)) [ inl e ↦ absurd (not-one (eqb-true d 1 e)) | inr e ↦ e ] in
    ended h.stage idle (elim (and_cases (eqb d 2) (is_open h.stage) waits) [ inl e ↦ absurd (both_ways (eqb d 2) e two) | inr e ↦ e ])
  where
    ended : (s : Stage) → is_idle s ≡ false → is_open s ≡ false → is_closed s ≡ true
    ended Stage.Idle e f = sym e
    ended Stage.Open e f = sym f
    ended Stage.Closed e f = refl

-- ---- the questions of a correlator whose trace t was told `seen`

node_in : (n i : ℕ) → 1 ≤ i → i ≤ n → is_node n i ≡ true
node_in n i low high = and_from _ _ (le-leb 1 i low) (le-leb i n high)

module _ (ahead back : Meaning) (t : Trace) (sound : Sound ahead back t) (seen : Told) (is : told t ≡ seen) where
  pub finds : (p : Place) → found ahead p.node p.index ≡ named (history seen) p
  finds p = ap (λ (μ : Meaning). found μ p.node p.index) sound.follows ∙ found-named (traced t) p ∙ ap (λ (x : Told). named (history x) p) is

  lawful : Lawful (history seen)
  lawful = subst (λ (x : Told). Lawful (history x)) is sound.lawful

  pub orderly : Orderly seen.events
  orderly = accepted_is_orderly seen.events lawful.accepted

  follows : ahead ≡ fed (history seen)
  follows = sound.follows ∙ ap (λ (x : Told). fed (history x)) is

  -- an index is within what an event counts exactly if its event is it or happened before it
  pub reached : (p q : Place) (x y : ℕ) (count : Option ℕ) (number : ℕ) → named (history seen) p ≡ Some x → named (history seen) q ≡ Some y →
      count ≡ counted ahead y p.node → number ≡ unwrap_or count 0 → Decides (leb p.index number) (To seen.events x y)
  reached p q x y count number e f counts is-count =
      let h = history seen in
      rw (is-count ∙ ap or_zero (counts ∙ ap (λ (μ : Meaning). counted μ y p.node) follows))
      (counts_decide h lawful p x y e (named-low h q y f))

  -- a row of counts is the row of timestamps that was asked for
  pub row-stamped : (p : Place) (d len x : ℕ) (count : ℕ → ℕ) (old : List ℕ) → refusal (history seen) (Call.stamp p d len) ≡ None → named (history seen) p ≡ Some x →
      ((i : ℕ) → is_node seen.nodes i ≡ true → count i ≡ stamp_number (history seen) d x i) → with_row seen.nodes count old ≡ stamped (history seen) p d len old
  row-stamped p d len x count old free e like =
      let h = history seen in
      ap (λ (xs : List ℕ). xs ++ drop seen.nodes old) (row_like count (stamp_number h d x) seen.nodes (λ i low high. like i (node_in seen.nodes i low high)))
      ∙ ap₂ (λ (o : Option Refusal) (n : Option ℕ). cond (is_none o) (stamp_if h d n old) old) (sym free) (sym e)

  module _ (p : Place) (d len x : ℕ) (old new : List ℕ) (free : refusal (history seen) (Call.stamp p d len) ≡ None) (e : named (history seen) p ≡ Some x) where
    pub stamped-forward : d ≡ 1 → new ≡ with_row t.nodes (λ i. or_zero (counted ahead x i)) old → new ≡ stamped (history seen) p d len old
    stamped-forward one row =
        let h = history seen in
        row ∙ ap (λ (n : ℕ). with_row n (λ i. or_zero (counted ahead x i)) old) (ap (λ (s : Told). s.nodes) is)
        ∙ row-stamped p d len x _ old free e (λ i node.
        ap (λ (μ : Meaning). or_zero (counted μ x i)) follows ∙ counted-fore h x i (named-low h p x e) node ∙ sym (cond-true _ _ _ (eq-eqb d 1 one)))

    pub stamped-reverse : d ≡ 2 → (last : ℕ) → last ≡ (length t.events) - 1 - x → new ≡ with_row t.nodes (λ i. or_zero (counted back last i)) old → new ≡ stamped (history seen) p d len old
    stamped-reverse two last is-last row =
        let h = history seen in
        let vs = seen.events in
        let not-one : d ≡ 1 → ⊥ = λ f. omega arith in
        let low = named-low h p x e in
        let size : (length t.events) ≡ length vs = sym (told-length t) ∙ ap (λ (s : Told). length s.events) is in
        let closed = reverse_closed h p d len free not-one in
        let meant : back ≡ meaning seen.nodes (backward vs) =
        sound.returns ∙ ap (λ (s : Told). meaning s.nodes (cond (is_closed s.stage) (backward s.events) [])) is
        ∙ ap (λ (b : Bool). meaning seen.nodes (cond b (backward vs) [])) closed in
        let held : ltb (mirror vs x) (length (backward vs)) ≡ true = lt-ltb _ _ (omega (arith, length-entries into (reverse vs), length-reverse vs)) in
        row ∙ ap (λ (n : ℕ). with_row n (λ i. or_zero (counted back last i)) old) (ap (λ (s : Told). s.nodes) is)
        ∙ row-stamped p d len x _ old free e (λ i node.
        ap₂ (λ (μ : Meaning) (n : ℕ). or_zero (counted μ n i)) meant (is-last ∙ ap (λ (n : ℕ). n - 1 - x) size)
        ∙ ap or_zero ((meanings_answer seen.nodes (backward vs) (mirror vs x) i 0).0 ∙ cond-true _ _ _ (and_from _ _ held node))
        ∙ sym (cond-false _ _ _ (ne_eqb d 1 not-one)))
