-- The rows that are summed are those of the theory.
use Rattle.std.proofs.Common.{◌≡◌, ℕ, zero, suc, ◌-◌, ◌<◌, ◌≤◌, true, ltb, List, [], ◌∷◌, map, length, get_or, Some, sym, ap, ◌∙◌, ap₂, inl, inr, arith}
use Rattle.std.specs.List.{AllByRecursion}
use Rattle.std.proofs.lemmas.Bool.{cases_Bool, cond-true, and_parts, lt-ltb, leb-true, false≢true}
use Rattle.causality.specs.declared.Event.{Event}
use Rattle.causality.specs.Limits.{is_node}
use Rattle.causality.specs.Traces.{stands, events_at}
use Rattle.causality.specs.Relations.{joined, merged, joined_if, index, fore, aft, from_end}
use Rattle.causality.proofs.Relations.{position-entry}
use Rattle.causality.proofs.Indexes.{index_is_stamp}
use Rattle.clock.specs.Meaning.{Meaning, counted}
use Rattle.counting.specs.Counting.{or_zero, or_zeros, count_row}
use Rattle.counting.proofs.Rows.{length-row, get_or-row}
use Rattle.counting.proofs.Joint.{op, joint_rows}
use Rattle.gathering.specs.declared.Row.{Row}
use Rattle.gathering.specs.Gathering.{joined_all}
use Rattle.history.specs.Answers.{row}
use Rattle.records.specs.Summaries.{at_node, present}
use Rattle.summaries.specs.Rows.{own_count, own_row, own_row_of, row_from_last, column_length, from_column_end, length-row as lengths-row}
use Rattle.summaries.specs.Summed.{Traced}
use Rattle.summaries.proofs.Indexes.{present_suc, present-joined, joined_like}
use Rattle.summaries.proofs.Columns.{long, column_short, event_kept, count-fore, count-aft, column-counted}

-- every member has what each event of the trace has
all_held : {P Q : ℕ → Type 0} → ((u : ℕ) → P u → Q u) → (xs : List ℕ) → AllByRecursion P xs → AllByRecursion Q xs
all_held g [] h = tt
all_held g (x ∷ xs) (h, hs) = (g x h, all_held g xs hs)

node-low : (n i : ℕ) → is_node n i ≡ true → i ≤ n
node-low n i e = leb-true i n (and_parts _ _ e).1

-- the number of a row at a node, where the row's numbers are f
at_row : (f : ℕ → ℕ) (n i : ℕ) → n ≤ 16 → is_node n i ≡ true → at_node (record { counts = row f 16 }) i ≡ f i
at_row f n zero few e = absurd (false≢true e)
at_row f n (suc j) few e = get_or-row f 16 j (omega (arith, node-low n (suc j) e))

module _ (vs : List Event) (n : ℕ) (μ ρ : Meaning) (es : List Event) (t : Traced vs n μ ρ es) (x : ℕ) (xs : List ℕ) (held : AllByRecursion (λ u. u < length vs) (x ∷ xs)) (i : ℕ) (node : is_node n i ≡ true) where
  module _ (f : ℕ → ℕ → ℕ) (associative : (a b c : ℕ) → f (f a b) c ≡ f a (f b c)) (ms : List ℕ) (members : ms ≡ x ∷ xs) (r : Row) where
    -- rows joined by f
    at_joined : (of : ℕ → Row) → ((u : ℕ) → length (of u).counts ≡ 16) → r ≡ or_zeros (joined_all (op f associative) (map of ms)) → at_node r i ≡ joined f (λ u. at_node (of u) i) x xs
    at_joined of sixteen e = go i node
      where
        all : r ≡ or_zeros (joined_all (op f associative) (map of (x ∷ xs)))
        all = e ∙ ap (λ (us : List ℕ). or_zeros (joined_all (op f associative) (map of us))) members

        go : (k : ℕ) → is_node n k ≡ true → at_node r k ≡ joined f (λ u. at_node (of u) k) x xs
        go zero h = absurd (false≢true h)
        go (suc j) h = joint_rows f associative of sixteen (x ∷ xs) r all j (omega (arith, node-low n (suc j) h, t.nodes))

    pub at-past : r ≡ or_zeros (joined_all (op f associative) (map (count_row μ) ms)) → at_node r i ≡ joined f (λ u. fore vs u i) x xs
    at-past e =
        at_joined (count_row μ) (λ u. length-row (λ j. or_zero (counted μ u j)) 16) e
        ∙ joined_like f _ _ x xs (all_held (λ u l. at_row (λ j. or_zero (counted μ u j)) n i t.nodes node ∙ count-fore vs n μ ρ es t u i l node) (x ∷ xs) held)

    pub at_future : r ≡ or_zeros (joined_all (op f associative) (map (row_from_last ρ (length es)) ms)) → at_node r i ≡ joined f (λ u. aft vs u i) x xs
    at_future e =
        at_joined (row_from_last ρ (length es)) (λ u. length-row (λ j. or_zero (counted ρ ((length es) - 1 - u) j)) 16) e
        ∙ joined_like f _ _ x xs (all_held (λ u l. at_row (λ j. or_zero (counted ρ ((length es) - 1 - u) j)) n i t.nodes node ∙ count-aft vs n μ ρ es t u i l node) (x ∷ xs) held)

    own-long : (u : ℕ) → length (own_row_of μ es u).counts ≡ 16
    own-long u = elim (cases_Bool (ltb u (length es))) [ inl s ↦ rw s (length-row (own_count μ (get_or es u (Event.Local 0)) u) 16) | inr s ↦ rw s ]

    -- the counts of a member at its own nodes are its indexes
    own-index : (u : ℕ) → u < length vs → present (at_node (own_row_of μ es u) i) ≡ index vs i u
    own-index u l =
        let v : Event = get_or es u (Event.Local 0) in
        let stamped = index_is_stamp vs u i v (event_kept vs n μ ρ es t u l) in
        let low : ltb u (length es) ≡ true = lt-ltb u (length es) (omega (arith, long vs n μ ρ es t)) in
        ap (λ (q : Row). present (at_node q i)) (cond-true _ (own_row μ v u) _ low) ∙ ap present (at_row (own_count μ v u) n i t.nodes node)
        ∙ elim (cases_Bool (stands v i)) [
          | inl s ↦
              let some : index vs i u ≡ Some (fore vs u i) = stamped ∙ cond-true _ _ _ s in
              let (k, next, _) = position-entry (events_at vs i) u (fore vs u i) some in
              rw s (ap present (count-fore vs n μ ρ es t u i l node) ∙ present_suc (fore vs u i) k next ∙ sym some)
          | inr s ↦ rw (s, stamped, s)
        ]

    pub at_own : (g : ℕ → ℕ → ℕ) → ((a b : ℕ) → present (f a b) ≡ merged g (present a) (present b)) →
        r ≡ or_zeros (joined_all (op f associative) (map (own_row_of μ es) ms)) → present (at_node r i) ≡ joined_if g (index vs i) (x ∷ xs)
    at_own g keeps e = ap present (at_joined (own_row_of μ es) own-long e) ∙ present-joined f g keeps _ (index vs i) x xs (all_held own-index (x ∷ xs) held)

  -- a count from the end of a column, as an index from its front
  pub at_end : (ends counts r : Row) (c : ℕ) → ends ≡ lengths-row μ ρ (length es) → at_node counts i ≡ c →
      ((j : ℕ) → j < 16 → get_or r.counts j 0 ≡ from_column_end (get_or ends.counts j 0) (get_or counts.counts j 0)) → at_node r i ≡ from_end vs i c
  at_end ends counts r c e same turned =
      let column : at_node ends i ≡ length (events_at vs i) =
      ap (λ (q : Row). at_node q i) e ∙ at_row (column_length μ ρ (length es)) n i t.nodes node ∙ column-counted vs n μ ρ es t i node in
      let short = column_short vs i in
      let few = t.few in
      let whole = long vs n μ ρ es t in
      go i node ∙ ap₂ from_column_end column same ∙ omega arith
    where
      go : (k : ℕ) → is_node n k ≡ true → at_node r k ≡ from_column_end (at_node ends k) (at_node counts k)
      go zero h = absurd (false≢true h)
      go (suc j) h = turned j (omega (arith, node-low n (suc j) h, t.nodes))
