use Rattle.std.proofs.Common.{ℕ, List, ◌++◌, drop, take, ap, ◌∙◌, arith}
use Rattle.std.proofs.lemmas.List.{get_or-take, length-take-le}
use Rattle.counting.proofs.Rows.{row_is}
use Rattle.records.specs.Summaries.{at_node}
use Rattle.summaries.proofs.rows.write_row.Goals as goal

pub returns : goal.returns
returns c =
    let n = c.args.n in
    let counts = c.args.from.now.counts in
    let front = row_is (at_node c.args.from.now) n (take n counts) (length-take-le n counts (omega (arith, c.requires.few))) (λ i l. get_or-take n counts i 0 l) in
    ap (λ (xs : List ℕ). xs ++ drop n c.args.row.now) (c.copy_from_slice.ensures.after ∙ front)
