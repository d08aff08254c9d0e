use Rattle.std.proofs.Common.{ℕ, Bool, eqb, rules, tests}
use Rattle.std.proofs.lemmas.Iterator.{YieldsList-from_slice}
use Rattle.std.proofs.lemmas.Iterator.Search.{position_from_yields_List}
use Rattle.job_text.proofs.Cuts.{first_end, no_end}
use Rattle.job_text.proofs.lines.line_end.Goals as goal

pub returns-in_err-ahead : goal.returns-in_err-ahead
returns-in_err-ahead c =
    let got = c.in_ok-get.ensures.lookup.0 in
    let test : ℕ → Bool = λ b. eqb b 10 in
    let found = position_from_yields_List test _ _ c.position.result c.position.ensures.ran (YieldsList-from_slice c.in_ok-get.field-0.now cc) (λ x b q k. search (rules, tests)) in
    rw c.from_residual-in_err-ahead.ensures (no_end _ _ _ got.0 got.2 c.position.result found c.in_err-ahead.was)

pub returns : goal.returns
returns c =
    let got = c.in_ok-get.ensures.lookup.0 in
    let test : ℕ → Bool = λ b. eqb b 10 in
    let found = position_from_yields_List test _ _ c.position.result c.position.ensures.ran (YieldsList-from_slice c.in_ok-get.field-0.now cc) (λ x b q k. search (rules, tests)) in
    first_end _ _ _ got.0 got.2 c.position.result found _ c.in_ok-ahead.was
