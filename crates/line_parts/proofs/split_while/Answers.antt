use Rattle.std.proofs.Common.{ℕ, Bool, not, rules, tests}
use Rattle.std.proofs.lemmas.Iterator.{YieldsList-from_slice}
use Rattle.std.proofs.lemmas.Iterator.Search.{position_from_yields_List}
use Rattle.line_parts.proofs.Reading.{run}
use Rattle.line_parts.proofs.split_while.Goals as goal

pub returns : goal.returns
returns g c passes computes none =
    let s = c.args.s.now in
    let test : ℕ → Bool = λ b. not (passes b) in
    let e = position_from_yields_List test _ _ c.position.result c.position.ensures.ran (YieldsList-from_slice s cc) (λ x b q k. search (rules, tests, computes)) in
    rw (c.split_at.ensures.front, c.split_at.ensures.back) (run passes none s c.position.result c.unwrap_or-end.result e c.unwrap_or-end.ensures)
