-- The k-th entry of a node is the k-th of its column.
use Rattle.std.proofs.Common.{◌≡◌, ℕ, ◌-◌, ◌≤◌, List, slice_get, sym, ap, ap₂, ◌∙◌, arith, rules}
use Rattle.std.proofs.lemmas.List.{get_or_default}
use Rattle.std.proofs.lemmas.Bool.{cond-true}
use Rattle.causality.specs.Newest.{kth}
use Rattle.clock.proofs.Arrays.{node_bounds}
use Rattle.row_clock.specs.Rows.{no_column}
use Rattle.row_clock.proofs.Rows.{line_held}
use Rattle.row_clock.proofs.Columns.{kth_is, copied_is}
use Rattle.row_clock.proofs.RowClockClock.at.Goals as goal

pub returns : goal.returns
returns c =
    let s = c.args.self.now in
    let has = sym c.if-not-is_node.ensures in
    let (p, q) = node_bounds s.nodes c.args.i has in
    let place : c.in_ok-place.place ≡ c.args.k - 1 = search rules in
    let some : 1 ≤ c.args.k = search rules in
    let got = c.copied.ensures ∙ copied_is c.deref.result.now c.in_ok-place.place c.get.result c.get.ensures.lookup in
    let column = get_or_default s.columns (c.args.i - 1) c.index-self-i.result no_column (omega (arith, s.long, s.within)) in
    got ∙ ap₂ slice_get (c.deref.ensures.0 ∙ column) place
    ∙ kth_is _ c.args.k some
    ∙ ap (λ (l : List ℕ). kth l c.args.k) (line_held s.nodes s.rows s.columns s.within.1 s.kept c.args.i has)
    ∙ sym (cond-true _ _ _ has)
