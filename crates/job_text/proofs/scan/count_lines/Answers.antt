use Rattle.std.proofs.Common.{◌≡◌, eqb, rules, arith}
use Rattle.std.specs.List.{count_by}
use Rattle.std.proofs.lemmas.Bool.Decides.{nat_tests}
use Rattle.job_text.proofs.Counts.{ends-count, last_counts}
use Rattle.job_text.proofs.scan.count_lines.Goals as goal

pub returns : goal.returns
returns c =
    let x = c.args.text.now in
    let n : c.count-ends.result ≡ count_by (λ b. eqb b 10) x = search rules in
    let t = last_counts x c.last.result c.is_some_and-tail.result (search rules) c.is_some_and-tail.ensures (λ l k. search rules) in
    grind (arith, nat_tests, ends-count x)
