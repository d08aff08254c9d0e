use Rattle.std.proofs.Common.{◌≡◌, ℕ, suc, List, take, set, sym, ap, ◌∙◌, ap₂, add-one, arith, length-take}
use Rattle.clock.specs.Meaning.{counted}
use Rattle.history.specs.Answers.{with_row}
use Rattle.counting.specs.Counting.{or_zero}
use Rattle.counting.proofs.Rows.{row_more, row_all}
use Rattle.counting.proofs.write_counts.Goals as goal

pub loop-i-preserved : goal.loop-i-preserved
loop-i-preserved g c =
    let i = c.loop-i.i in
    let old : List ℕ = take c.args.n c.args.row.now in
    let f : ℕ → ℕ = λ j. or_zero (counted (g.C.Clock.means c.args.clock.now) c.args.e j) in
    let value : c.unwrap_or.result ≡ f (suc i) = c.unwrap_or.ensures ∙ ap or_zero c.count.ensures ∙ ap f (add-one i) in
    ap₂ (λ (xs : List ℕ) (v : ℕ). set xs i v) c.loop-i.invariant value ∙ row_more f i old c.loop-i-test.true ∙ ap (λ (n : ℕ). with_row n f old) (sym (add-one i))

pub returns : goal.returns
returns g c =
    let f : ℕ → ℕ = λ j. or_zero (counted (g.C.Clock.means c.args.clock.now) c.args.e j) in
    let all : c.loop-i.i ≡ c.args.n = omega (arith, c.loop-i-test.false, c.loop-i.auto, c.requires, length-take c.args.n c.args.row.now) in
    row_all f c.loop-i.i c.args.n c.loop-i.count-items c.args.row.now all c.requires c.loop-i.invariant
