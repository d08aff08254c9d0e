-- What rows mean are the takes that they are of, so that the four laws hold of them. These are proofs: nothing here is believed.
use Rattle.std.proofs.Common.{◌≡◌, ℕ, suc, ◌<◌, ◌≤◌, true, eqb, List, length, get_or, Some, Decides, sym, refl, ap, ◌∙◌, inl, inr, arith}
use mathlib.Core.Logic.{∥∥₁_elim, ∥∥₁_prop}
use Rattle.std.proofs.lemmas.Bool.Decides.{same_from_decides}
use Rattle.std.proofs.lemmas.Bool.{cases_eq, eq-eqb, or_left, and_from, and_parts, le-leb, leb-true}
use Rattle.causality.specs.Newest.{Mem}
use Rattle.causality.specs.Entries.{Entry, at_either, timeline, past, at, stamp}
use Rattle.causality.proofs.Newest.{entry-some, mem-entry, entry-kth, entry-order, numbers_in, numbers_descend}
use Rattle.causality.proofs.Pasts.{own, at_low, pasts-lawful}
use Rattle.causality.proofs.Counts.{tally_le, stamps_tell}
use Rattle.clock.specs.Arrays.{listed}
use Rattle.clock.specs.Meaning.{Laws}
use Rattle.clock.specs.Takes.{entries_of}
use Rattle.clock.proofs.Takes.{OfTakes, entries_held, takes_lawful}
use Rattle.row_clock.specs.declared.parts.Row.{Row}
use Rattle.row_clock.specs.Rows.{no_row, cell, reaches, held_row, held_rows, rows_mean, Keeps, Kept}

-- an entry is the k-th of its node, where k is its own count there
own_kth : (ts : List Entry) (x i : ℕ) → Mem x (timeline ts i) → at ts i (stamp ts x i) ≡ Some x
own_kth ts x i m =
    let c = timeline ts i in
    let (n, e) = mem-entry c x m in
    let it : at ts i (suc n) ≡ Some x = entry-kth c n ∙ e in
    let low = (stamps_tell ts x i (suc n) x it).0 (own ts x (at_low ts x i m)) in
    elim (cases_eq (stamp ts x i) (suc n)) [
      | inl q ↦ rw q it
      | inr q ↦
          let (y, f) = entry-some c (suc n) (omega (arith, tally_le (past ts x) c)) in
          let h = (stamps_tell ts x i (suc (suc n)) y (entry-kth c (suc n) ∙ f)).1 (omega arith) in
          absurd (omega (
            arith,
            (pasts-lawful ts).no_higher x y h,
            entry-order c (numbers_descend (λ t. at_either t.node t.partner i) ts) n (suc n) x y e f (omega arith),
          ))
    ]

module _ (rows : List Row) (columns : List (List ℕ)) (ts : List Entry) (k : Keeps rows columns ts) where
  pub reaches_past : (e x : ℕ) → e < length rows → reaches rows e x ≡ past ts e x
  reaches_past e x l = same_from_decides _ _ (there, back) ((λ h. h), λ h. h)
    where
      i : ℕ
      i = (get_or rows x no_row).node

      tell : x ≤ e → Decides (past ts e x) (cell rows x i ≤ cell rows e i)
      tell low =
          let node = (get_or rows x no_row).placed in
          let (_, is) = k.placed x (omega arith) in
          let stands = numbers_in (λ t. at_either t.node t.partner i) ts x _ is (or_left (eqb i i) _ (eq-eqb i i refl)) in
          rw (k.stamped x i (omega arith) node, k.stamped e i l node) (stamps_tell ts e i (stamp ts x i) x (own_kth ts x i stands))

      there : reaches rows e x ≡ true → past ts e x ≡ true
      there h = let (p, q) = and_parts _ _ h in (tell (leb-true x e p)).1 (leb-true (cell rows x i) (cell rows e i) q)

      back : past ts e x ≡ true → reaches rows e x ≡ true
      back h = let (low, _) = (pasts-lawful ts).no_higher e x h in and_from _ _ (le-leb x e low) (le-leb (cell rows x i) (cell rows e i) ((tell low).0 h))

  pub entries_kept : held_rows rows ≡ entries_of ts
  entries_kept =
      ap (listed (held_row rows)) (sym k.size)
      ∙ entries_held ts (held_row rows) (λ e l. let (ps, is) = k.placed e (omega (arith, k.size)) in (ps, is, λ x. reaches_past e x (omega (arith, k.size))))

module _ (n : ℕ) (rows : List Row) (columns : List (List ℕ)) (kept : Kept rows columns) where
  pub of_takes : OfTakes (rows_mean n rows)
  of_takes = ∥∥₁_elim kept ∥∥₁_prop (λ (ts, k). ∣ (ts, entries_kept rows columns ts k) ∣₁)

  pub rows_lawful : Laws (rows_mean n rows)
  rows_lawful = takes_lawful _ of_takes
