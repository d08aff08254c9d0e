-- Rows and columns of a list of takes mean that takes, and so do those with one more entry.
use Rattle.std.proofs.Common.{◌≡◌, ℕ, suc, ◌+◌, ◌-◌, ◌<◌, ◌≤◌, max, true, cond, ◌&&◌, ltb, List, [], ◌∷◌, ◌++◌, length, get_or, Some, None, Option, sym, refl, ap, ◌∙◌, subst, ap₂, inl, inr, add-one, arith, below_more, length-append}
use mathlib.Core.List.{is_set}
use mathlib.Core.Bool.{Bool-set}
use mathlib.Core.Logic.{∥∥₁_elim, ∥∥₁_prop}
use native.Mathlib.Bridge.{le_prop}
use native.Mathlib.Nat.{ℕ_set}
use Rattle.std.specs.Option.{option_to_list}
use Rattle.std.proofs.lemmas.List.{get_or_append_left}
use Rattle.std.proofs.Math.Seq.{get_or-append_seam}
use Rattle.std.proofs.lemmas.Bool.{cases_Bool, and_from, and_parts, le-leb, ltb-true}
use Rattle.causality.specs.Newest.{entry, tally}
use Rattle.causality.specs.Entries.{Entry, at_either, timeline, newest, latest, past, stamp, greatest, next_stamp}
use Rattle.causality.proofs.Newest.{entry_head, entry-tail}
use Rattle.causality.proofs.Pasts.{past-tail}
use Rattle.causality.proofs.Counts.{stamps_grow}
use Rattle.causality.specs.Limits.{max_nodes, is_node}
use Rattle.clock.specs.Meaning.{Held, held_at, within, next_past, appended, asked, if_given}
use Rattle.clock.specs.Arrays.{listed}
use Rattle.clock.proofs.Arrays.{length-listed, listed_like, node_bounds, node_up, Admitted}
use Rattle.clock.proofs.Takes.{held_timeline, tally-stamp, next_past-is, latest-low}
use Rattle.row_clock.specs.declared.parts.Row.{Row}
use Rattle.row_clock.specs.Laws.{reaches_past, entries_kept}
use Rattle.row_clock.specs.Rows.{no_row, no_column, cell, line_of, reaches, held_row, held_rows, Keeps, Kept, latest_of, cell_of, next_count, Filed}

-- ---- of any takes

line_low : (ts : List Entry) (i : ℕ) → length (timeline ts i) ≤ length ts
line_low [] i = omega arith
line_low (t ∷ ts) i =
    let rec = line_low ts i in
    elim (cases_Bool (at_either t.node t.partner i)) [ inl s ↦ rw s (omega arith) | inr s ↦ rw s (omega arith) ]

greatest-append : (f : ℕ → ℕ) (xs ys : List ℕ) → greatest f (xs ++ ys) ≡ max (greatest f xs) (greatest f ys)
greatest-append f [] ys = omega arith
greatest-append f (x ∷ xs) ys = omega (arith, greatest-append f xs ys)

-- ---- what rows and columns tell of their takes

module _ (rows : List Row) (columns : List (List ℕ)) (ts : List Entry) (k : Keeps rows columns ts) where
  column_len : (i : ℕ) → is_node max_nodes i ≡ true → length (get_or columns (i - 1) no_column) ≡ length (timeline ts i)
  column_len i h = sym (length-listed _ (length (get_or columns (i - 1) no_column))) ∙ ap length (k.filed i h)

  pub column-low : (i : ℕ) → is_node max_nodes i ≡ true → length (get_or columns (i - 1) no_column) ≤ (length rows)
  column-low i h = omega (arith, column_len i h, line_low ts i, k.size)

  latest_in : (o : Option ℕ) → if_given (is_node max_nodes) o ≡ true → latest_of columns o ≡ latest ts o
  latest_in None h = refl
  latest_in (Some i) h = ap newest (k.filed i h)

  pub latest-fits : (o : Option ℕ) → if_given (is_node max_nodes) o ≡ true → if_given (λ x. ltb x (length rows)) (latest_of columns o) ≡ true
  latest-fits o h = rw (latest_in o h, ← k.size) (latest-low ts o)

  cell-stamp : (i : ℕ) → is_node max_nodes i ≡ true → (o : Option ℕ) → if_given (λ x. ltb x (length rows)) o ≡ true → cell_of rows o i ≡ greatest (λ e. stamp ts e i) (option_to_list o)
  cell-stamp i h None g = refl
  cell-stamp i h (Some e) g = omega (arith, k.stamped e i (ltb-true e (length rows) g) h)

  latest-stamp : (i : ℕ) → is_node max_nodes i ≡ true → (o : Option ℕ) → if_given (is_node max_nodes) o ≡ true → cell_of rows (latest_of columns o) i ≡ greatest (λ e. stamp ts e i) (option_to_list (latest ts o))
  latest-stamp i h o g = cell-stamp i h (latest_of columns o) (latest-fits o g) ∙ ap (λ (o : Option ℕ). greatest (λ e. stamp ts e i) (option_to_list o)) (latest_in o g)

  -- the counts of a new entry are its timestamp
  next_count-stamp : (a : ℕ) (b m : Option ℕ) → Admitted (length rows) a b m → (i : ℕ) → is_node max_nodes i ≡ true →
      next_count rows columns a b (latest_of columns (Some a)) (latest_of columns b) m i ≡ next_stamp ts (asked a b m) i
  next_count-stamp a b m ok i h =
      let f : ℕ → ℕ = λ e. stamp ts e i in
      let x = option_to_list (latest ts (Some a)) in
      let y = option_to_list (latest ts b) in
      let most : greatest f (x ++ (y ++ option_to_list m)) ≡ max (greatest f x) (max (greatest f y) (greatest f (option_to_list m))) =
      greatest-append f x (y ++ option_to_list m) ∙ ap (max (greatest f x)) (greatest-append f y (option_to_list m)) in
      let high : length (get_or columns (i - 1) no_column) + 1 ≡ suc (length (timeline ts i)) = omega (arith, column_len i h) in
      let less = ap₂ max (latest-stamp i h (Some a) ok.node) (ap₂ max (latest-stamp i h b ok.partner) (cell-stamp i h m ok.held)) in
      ap₂ (cond (at_either a b i)) high (less ∙ sym most)

-- ---- one more entry

module _ (rows : List Row) (columns columns' : List (List ℕ)) (a : ℕ) (b m : Option ℕ) (row : Row) (ok : Admitted (length rows) a b m)
    (node : row.node ≡ a) (partner : row.partner ≡ b) (filed : Filed columns a b (length rows) columns')
    (counts : (i : ℕ) → i < max_nodes → get_or row.counts i 0 ≡ next_count rows columns a b (latest_of columns (Some a)) (latest_of columns b) m (i + 1)) where
  abbrev more : List Row
  more = rows ++ (row ∷ [])

  new : get_or more (length rows) no_row ≡ row
  new = get_or-append_seam rows row [] no_row

  old : (e : ℕ) → e < (length rows) → get_or more e no_row ≡ get_or rows e no_row
  old e l = get_or_append_left rows (row ∷ []) no_row e (omega arith)

  longer : length more ≡ length rows + 1
  longer = length-append rows (row ∷ [])

  keeps_more : (ts : List Entry) → Keeps rows columns ts → Keeps more columns' (asked a b m ∷ ts)
  keeps_more ts k =
      let t = asked a b m in
      let Placed : ℕ → Row → Type 0 = λ e r. (priors : List ℕ) × (entry (t ∷ ts) e ≡ Some (record { node = r.node; partner = r.partner; priors = priors })) in
      let head : entry (t ∷ ts) (length rows) ≡ Some t = ap (entry (t ∷ ts)) (sym k.size) ∙ entry_head t ts in
      record {
        size = ap suc k.size ∙ sym (add-one (length rows)) ∙ sym longer;
        placed = λ e l. below_more (λ e. Placed e (get_or more e no_row)) (length rows)
            (λ e l. let (ps, is) = k.placed e l in subst (Placed e) (sym (old e l)) (ps, entry-tail t ts e (omega (arith, k.size)) ∙ is))
            (subst (Placed (length rows)) (sym new) (option_to_list m, rw (node, partner) head))
            e (omega (arith, l, longer));
        stamped = λ e i l h. below_more (λ e. cell more e i ≡ stamp (t ∷ ts) e i) (length rows)
            (λ e l. ap (λ (r : Row). get_or r.counts (i - 1) 0) (old e l) ∙ k.stamped e i l h ∙ sym ((stamps_grow t ts i).1 e (omega (arith, k.size))))
            (let (p, q) = node_bounds max_nodes i h in
            let back : i - 1 + 1 ≡ i = omega arith in
            ap (λ (r : Row). get_or r.counts (i - 1) 0) new
            ∙ subst (λ j. get_or row.counts (i - 1) 0 ≡ next_count rows columns a b (latest_of columns (Some a)) (latest_of columns b) m j) back (counts (i - 1) (omega arith))
            ∙ next_count-stamp rows columns ts k a b m ok i h ∙ sym (stamps_grow t ts i).0 ∙ ap (λ (e : ℕ). stamp (t ∷ ts) e i) k.size) e (omega (arith, l, longer));
        filed = λ i h. filed i h ∙ ap₂ (λ (c : List ℕ) (n : ℕ). cond (at_either a b i) (n ∷ c) c) (k.filed i h) (sym k.size);
      }

  pub kept_more : Kept rows columns → Kept more columns'
  kept_more kept = ∥∥₁_elim kept ∥∥₁_prop (λ (ts, k). ∣ (asked a b m ∷ ts, keeps_more ts k) ∣₁)

  pub entries-more : Kept rows columns → listed (held_row more) ((length rows) + 1) ≡ appended (asked a b m) (held_rows rows)
  entries-more kept =
      let vs = held_rows rows in
      let rows' = more in
      let past-new : (x : ℕ) → reaches rows' (length rows) x ≡ next_past (asked a b m) vs x = λ x. ∥∥₁_elim kept (Bool-set _ _) (λ (ts, k).
      reaches_past rows' columns' (asked a b m ∷ ts) (keeps_more ts k) (length rows) x (omega (arith, longer))
      ∙ ap (λ (e : ℕ). past (asked a b m ∷ ts) e x) (sym k.size) ∙ sym (next_past-is (asked a b m) ts x)
      ∙ ap (λ (vs : List Held). next_past (asked a b m) vs x) (sym (entries_kept rows columns ts k))) in
      let held : (e : ℕ) → e < (length rows) → held_row rows' e ≡ held_row rows e = λ e l.
      let same = old e l in
      let past-old : (x : ℕ) → reaches rows' e x ≡ reaches rows e x = λ x. ∥∥₁_elim kept (Bool-set _ _) (λ (ts, k).
      reaches_past rows' columns' (asked a b m ∷ ts) (keeps_more ts k) e x (omega (arith, longer))
      ∙ past-tail (asked a b m) ts e x (omega (arith, k.size)) ∙ sym (reaches_past rows columns ts k e x l)) in
      λ i. record { node = (same i).node; partner = (same i).partner; past = λ x. past-old x i } in
      rw add-one (ap₂ (λ (v : Held) (vs : List Held). v ∷ vs)
      (λ i. record { node = (ap (λ (r : Row). r.node) new ∙ node) i; partner = (ap (λ (r : Row). r.partner) new ∙ partner) i; past = λ x. past-new x i })
      (listed_like (held_row rows') (held_row rows) (length rows) held))

  pub held_more : Kept rows columns → held_rows more ≡ appended (asked a b m) (held_rows rows)
  held_more kept = ap (listed (held_row more)) longer ∙ entries-more kept

-- ---- what a clock answers

module _ (n : ℕ) (rows : List Row) (columns : List (List ℕ)) (small : n ≤ max_nodes) (kept : Kept rows columns) where
  pub cell-tally : (e i : ℕ) → true ≡ (ltb e (length rows) && is_node n i) → cell rows e i ≡ tally (within (held_rows rows) e) (held_at (held_rows rows) i)
  cell-tally e i h = ∥∥₁_elim kept (ℕ_set _ _) (λ (ts, k).
      let (p, q) = and_parts (ltb e (length rows)) (is_node n i) (sym h) in
      k.stamped e i (ltb-true e (length rows) p) (node_up n i small q) ∙ rw (entries_kept rows columns ts k) (sym (tally-stamp ts e i)))

  pub line_held : (i : ℕ) → is_node n i ≡ true → line_of columns i ≡ held_at (held_rows rows) i
  line_held i h = ∥∥₁_elim kept (is_set ℕ_set _ _) (λ (ts, k).
      k.filed i (node_up n i small h) ∙ rw (entries_kept rows columns ts k) (sym (held_timeline ts i)))

  pub column-room : (i : ℕ) → i < max_nodes → length (get_or columns i no_column) ≤ (length rows)
  column-room i l =
      let back : i + 1 - 1 ≡ i = omega arith in
      ∥∥₁_elim kept le_prop (λ (ts, k). rw back at (column-low rows columns ts k (i + 1) (and_from _ _ (le-leb 1 (i + 1) (omega arith)) (le-leb (i + 1) max_nodes (omega arith)))))

-- ---- no entries

pub kept-none : (rows : List Row) (columns : List (List ℕ)) → rows ≡ [] → ((i : ℕ) → i < max_nodes → (get_or columns i no_column) ≡ []) → Kept rows columns
kept-none rows columns empty none = rw empty (∣ (
  [],
  record {
    size = refl;
    placed = λ e l. absurd (omega arith);
    stamped = λ e i l. absurd (omega arith);
    filed = λ i h. ap (λ (xs : List ℕ). listed (λ k. get_or xs k 0) (length xs)) (none (i - 1) (omega (arith, node_bounds max_nodes i h)));
  },
) ∣₁)
