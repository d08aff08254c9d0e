-- A take refuses, or adds one row.
use Rattle.std.proofs.Common.{◌≡◌, ℕ, ◌+◌, ◌<◌, true, List, [], ◌∷◌, ◌++◌, length, get_or, Some, Option, sym, refl, ap, ◌∙◌, arith}
use Rattle.causality.specs.Limits.{max_nodes}
use Rattle.clock.specs.Meaning.{Held, Meaning, admits, taken, number}
use Rattle.clock.proofs.Arrays.{length-listed, Admitted, admitted}
use Rattle.clock.proofs.Takes.{take_refused, take-accepted}
use Rattle.row_clock.specs.declared.parts.Row.{Row}
use Rattle.row_clock.specs.declared.RowClock.{RowClock}
use Rattle.row_clock.specs.Rows.{held_row, rows_mean, Kept, latest_of, next_count, Filed}
use Rattle.row_clock.proofs.Rows.{column-room, kept_more, held_more}
use Rattle.row_clock.proofs.RowClockClock.take.Goals as goal

pub returns-then-not-admits : goal.returns-then-not-admits
returns-then-not-admits c =
    let s = c.args.self.now in
    let (same, none) = take_refused (rows_mean s.nodes s.rows) (length s.rows) (length-listed (held_row s.rows) (length s.rows)) c.args.entry.node c.args.entry.partner c.args.entry.prior (rw c.len-e.ensures at c.if-not-admits.ensures) in
    record { after = same; value = none }

module _ (s : RowClock) (a : ℕ) (b m : Option ℕ) (h : true ≡ admits s.nodes (length s.rows) a b m) where
  ok : Admitted (length s.rows) a b m
  ok = admitted s.nodes (length s.rows) a b m s.within.1 (sym h)

  -- one more row
  grown : (x y : Option ℕ) (row : Row) (rows : List Row) (columns : List (List ℕ)) → x ≡ latest_of s.columns (Some a) → y ≡ latest_of s.columns b → row.node ≡ a → row.partner ≡ b →
      ((i : ℕ) → i < max_nodes → get_or row.counts i 0 ≡ next_count s.rows s.columns a b x y m (i + 1)) → Filed s.columns a b (length s.rows) columns →
      rows ≡ s.rows ++ (row ∷ []) →
      Kept rows columns
      × (rows_mean s.nodes rows ≡ taken (rows_mean s.nodes s.rows) a b m)
      × (Some (length s.rows) ≡ number (rows_mean s.nodes s.rows) a b m)
  grown x y row rows columns p q node partner counts filed is =
      let held = s.rows in
      let len = length held in
      let counts' : (i : ℕ) → i < max_nodes → get_or row.counts i 0 ≡ next_count held s.columns a b (latest_of s.columns (Some a)) (latest_of s.columns b) m (i + 1) =
      rw (← p, ← q) counts in
      let (after, value) = take-accepted (rows_mean s.nodes held) len (length-listed (held_row held) len) a b m h in
      rw is (
        kept_more held s.columns columns a b m row ok node partner filed counts' s.kept,
        ap (λ (vs : List Held). let s : Meaning = record { nodes = s.nodes; entries = vs } in s)
            (held_more held s.columns columns a b m row ok node partner filed counts' s.kept) ∙ after,
        value,
      )

pub file-requires : goal.file-requires
file-requires c =
    let s = c.args.self.now in
    let k = ok s c.args.entry.node c.args.entry.partner c.args.entry.prior (rw c.len-e.ensures at c.if-not-admits.ensures) in
    record { node = k.node; partner = k.partner; apart = k.apart; room = λ i l. omega (arith, column-room s.nodes s.rows s.columns s.within.1 s.kept i l, k.room) }

pub invariant_of-self : goal.invariant_of-self
invariant_of-self c =
    let s = c.args.self.now in
    let h = rw c.len-e.ensures at c.if-not-admits.ensures in
    let k = ok s c.args.entry.node c.args.entry.partner c.args.entry.prior h in
    let (kept, _, _) = grown s c.args.entry.node c.args.entry.partner c.args.entry.prior h c.latest.result c.latest-2.result _ c.push.new.self c.file.new.columns c.latest.ensures c.latest-2.ensures
    refl refl c.next_counts-counts.ensures (rw c.len-e.ensures at c.file.ensures.filed) c.push.ensures.items in
    record {
      long = c.file.ensures.long ∙ s.long;
      within = (omega (arith, k.room, c.push.ensures.len), s.within.1);
      kept = kept;
    }

pub returns : goal.returns
returns c =
    let s = c.args.self.now in
    let (_, after, value) = grown s c.args.entry.node c.args.entry.partner c.args.entry.prior (rw c.len-e.ensures at c.if-not-admits.ensures) c.latest.result c.latest-2.result _ c.push.new.self c.file.new.columns
    c.latest.ensures c.latest-2.ensures refl refl c.next_counts-counts.ensures (rw c.len-e.ensures at c.file.ensures.filed) c.push.ensures.items in
    record { after = after; value = ap Some c.len-e.ensures ∙ value }
