-- What the clocks that took a trace tell of its columns and timestamps.
use Rattle.std.proofs.Common.{◌≡◌, ℕ, zero, suc, ◌-◌, ◌<◌, ◌≤◌, Bool, true, ltb, List, [], ◌∷◌, reverse, length, get_or, Some, sym, refl, ap, ◌∙◌, subst, ap₂, inl, inr, arith}
use Rattle.std.proofs.lemmas.List.{length-reverse, nil_from_length}
use Rattle.std.proofs.lemmas.Bool.{cases_Bool, cond-true, and_from, lt-ltb, eq-eqb}
use Rattle.causality.specs.declared.Event.{Event}
use Rattle.causality.specs.Limits.{is_node}
use Rattle.causality.specs.Newest.{entry, tally, Mem}
use Rattle.causality.specs.Entries.{stamp}
use Rattle.causality.specs.Traces.{from, into, stands, events_at, entries, backward, mirror}
use Rattle.causality.specs.Relations.{fore, aft, position}
use Rattle.causality.proofs.Newest.{entry_head, entry-tail, entry_turned, numbers_out, numbers_turned, numbers-low, length-picked, tally-reverse}
use Rattle.causality.proofs.Indexes.{index_is_stamp}
use Rattle.causality.proofs.Traces.{length-entries, timeline-events}
use Rattle.clock.specs.Meaning.{Meaning, counted, found}
use Rattle.clock.specs.Takes.{meaning}
use Rattle.clock.proofs.Takes.{meanings_answer}
use Rattle.counting.specs.Counting.{or_zero}
use Rattle.summaries.specs.Rows.{column_length, last_index}
use Rattle.summaries.specs.Summed.{Traced}

-- a count of a clock that took a trace, in either direction, is a timestamp
pub counted-stamp : (n : ℕ) (goes : Event → Event → Bool) (vs : List Event) (e i : ℕ) → e < length vs → is_node n i ≡ true →
    or_zero (counted (meaning n (entries goes vs)) e i) ≡ stamp (entries goes vs) e i
counted-stamp n goes vs e i low node =
    let held : ltb e (length (entries goes vs)) ≡ true = lt-ltb e _ (rw (length-entries goes vs) low) in
    ap or_zero ((meanings_answer n (entries goes vs) e i 0).0 ∙ cond-true _ _ _ (and_from _ _ held node))

tally-length : {X : Type 0} (p : X → Bool) (xs : List X) → tally p xs ≤ length xs
tally-length p [] = omega arith
tally-length p (x ∷ xs) = elim (cases_Bool (p x)) [ inl s ↦ rw s (omega (arith, tally-length p xs)) | inr s ↦ rw s (omega (arith, tally-length p xs)) ]

pub column_short : (vs : List Event) (i : ℕ) → length (events_at vs i) ≤ length vs
column_short vs i = omega (arith, length-picked (λ _ us. length us) (λ v. stands v i) vs, tally-length (λ v. stands v i) vs)

get_or-newest : (es : List Event) (u : ℕ) → u < length es → entry es (length es - 1 - u) ≡ Some (get_or es u (Event.Local 0))
get_or-newest [] u l = absurd (omega arith)
get_or-newest (x ∷ xs) zero l = let top : length (x ∷ xs) - 1 - 0 ≡ length xs = omega arith in ap (entry (x ∷ xs)) top ∙ entry_head x xs
get_or-newest (x ∷ xs) (suc u) l =
    let down : length (x ∷ xs) - 1 - suc u ≡ length xs - 1 - u = omega arith in
    ap (entry (x ∷ xs)) down ∙ entry-tail x xs (length xs - 1 - u) (omega arith) ∙ get_or-newest xs u (omega arith)

-- the number u of an array of events, oldest first, is entry u of the trace
get_or-entry : (es : List Event) (u : ℕ) → u < length es → entry (reverse es) u ≡ Some (get_or es u (Event.Local 0))
get_or-entry es u l =
    let back : length es - 1 - (length es - 1 - u) ≡ u = omega arith in
    ap (entry (reverse es)) (sym back) ∙ entry_turned es (length es - 1 - u) _ (get_or-newest es u l)

module _ (vs : List Event) (n : ℕ) (μ ρ : Meaning) (es : List Event) (t : Traced vs n μ ρ es) where
  pub long : length vs ≡ length es
  long = ap length t.kept ∙ length-reverse es

  pub event_kept : (u : ℕ) → u < length vs → entry vs u ≡ Some (get_or es u (Event.Local 0))
  event_kept u l = ap (λ (xs : List Event). entry xs u) t.kept ∙ get_or-entry es u (omega (arith, long))

  pub count-fore : (u i : ℕ) → u < length vs → is_node n i ≡ true → or_zero (counted μ u i) ≡ fore vs u i
  count-fore u i l node = ap (λ (m : Meaning). or_zero (counted m u i)) t.ahead ∙ counted-stamp n from vs u i l node

  pub count-aft : (u i : ℕ) → u < length vs → is_node n i ≡ true → or_zero (counted ρ ((length es) - 1 - u) i) ≡ aft vs u i
  count-aft u i l node =
      ap₂ (λ (m : Meaning) (k : ℕ). or_zero (counted m (k - 1 - u) i)) t.back (sym long)
      ∙ counted-stamp n into (reverse vs) (mirror vs u) i (omega (arith, length-reverse vs)) node

  -- the last event of a column has the column's length as its index, and the reverse clock has it first
  pub column-counted : (i : ℕ) → is_node n i ≡ true → column_length μ ρ (length es) i ≡ length (events_at vs i)
  column-counted i node =
      let first : found ρ i 1 ≡ entry (events_at (reverse vs) i) 0 =
      ap (λ (m : Meaning). found m i 1) t.back ∙ (meanings_answer n (backward vs) 0 i 1).1 ∙ cond-true _ _ _ node
      ∙ ap (λ (c : List ℕ). entry c 0) (timeline-events into (reverse vs) i) in
      ap (last_index μ (length es) i) first ∙ go (events_at vs i) refl
    where
      go : (c : List ℕ) → events_at vs i ≡ c → last_index μ (length es) i (entry (events_at (reverse vs) i) 0) ≡ length (events_at vs i)
      go [] e =
          let none : events_at (reverse vs) i ≡ [] = nil_from_length _ (length-picked (λ _ us. length us) (λ v. stands v i) (reverse vs) ∙ tally-reverse (λ v. stands v i) vs ∙ sym (length-picked (λ _ us. length us) (λ v. stands v i) vs) ∙ ap length e) in
          ap (λ (c : List ℕ). last_index μ (length es) i (entry c 0)) none ∙ sym (ap length e)
      go (x ∷ rest) e =
          let mine : Mem x (events_at vs i) = subst (Mem x) (sym e) (inl refl) in
          let (v, here, stood) = numbers_out (λ w. stands w i) vs x mine in
          let low = numbers-low (λ w. stands w i) vs x mine in
          let top : entry (events_at vs i) (length rest) ≡ Some x = ap (λ (c : List ℕ). entry c (length rest)) e ∙ entry_head x rest in
          let count : tally (λ w. stands w i) vs - 1 - length rest ≡ 0 = omega (arith, length-picked (λ _ us. length us) (λ w. stands w i) vs, ap length e) in
          let turned : entry (events_at (reverse vs) i) 0 ≡ Some (length vs - 1 - x) =
          ap (entry (events_at (reverse vs) i)) (sym count) ∙ numbers_turned (λ w. stands w i) vs (length rest) x top in
          let back : (length es) - 1 - (length vs - 1 - x) ≡ x = omega (arith, long) in
          let at : position (x ∷ rest) x ≡ Some (suc (length rest)) = cond-true _ _ _ (eq-eqb x x refl) in
          let own : Some (suc (length rest)) ≡ Some (fore vs x i) = sym at ∙ ap (λ (c : List ℕ). position c x) (sym e) ∙ index_is_stamp vs x i v here ∙ cond-true _ _ _ stood in
          let same : suc (length rest) ≡ fore vs x i = cc in
          ap (last_index μ (length es) i) turned ∙ ap (λ (k : ℕ). or_zero (counted μ k i)) back ∙ count-fore x i low node ∙ sym same ∙ sym (ap length e)
