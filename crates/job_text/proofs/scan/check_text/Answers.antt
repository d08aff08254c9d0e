use Rattle.std.proofs.Common.{◌≡◌, ◌+◌, ◌<◌, None, Some, Err, [], length, refl, subst, rules, arith}
use Rattle.job_text.specs.Texts.{Begins}
use Rattle.job_text.specs.declared.scan.Fault.TheVariants.{Malformed}
use Rattle.job_text.proofs.Counts.{count_le, count-line, no_lines}
use Rattle.job_text.proofs.Cuts.{cut_shorter}
use Rattle.job_text.proofs.Texts.{begin_more, none-line, none_tail}
use Rattle.job_text.proofs.scan.check_text.Goals as goal

pub returns-in_err-ok_or : goal.returns-in_err-ok_or
returns-in_err-ok_or c =
    let cut = c.in-Some.ensures.steps in
    let none : c.read_line.result ≡ None = search rules in
    let unread = rw none at c.read_line.ensures in
    let is : c.from_residual.result ≡ Err (Malformed (c.loop-line.good + 1)) = search rules in
    rw is (record { bytes = search rules; few = search rules; good = _; next = refl; rest = _; before = c.loop-line.invariant.0; some = search (rules, cut_shorter); none = none-line cut unread })

pub loop-line-preserved : goal.loop-line-preserved
loop-line-preserved c =
    let cut = c.in-Some.ensures.steps in
    let some : c.read_line.result ≡ Some c.in_ok-ok_or.field-0 = search rules in
    let read = rw some at c.read_line.ensures in
    (begin_more c.in_ok-ok_or.field-0 c.loop-line.invariant.0 read cut, count-line c.loop-line.good cut c.loop-line.invariant.1)

pub returns-then-from-lines : goal.returns-then-from-lines
returns-then-from-lines c =
    let (read, left) = c.loop-line.invariant in
    let none : c.loop-line.line-iterator ≡ [] = no_lines _ (omega arith) in
    record { bytes = search rules; few = search rules; all = subst (Begins c.args.text.now c.loop-line.good) none read }

pub returns-else-from-lines : goal.returns-else-from-lines
returns-else-from-lines c =
    let (read, left) = c.loop-line.invariant in
    let end = c.in-None.ensures.steps in
    let some : 0 < length c.loop-line.line-iterator = omega (arith, count_le c.loop-line.line-iterator) in
    record { bytes = search rules; few = search rules; good = _; next = refl; rest = _; before = read; some = some; none = none_tail end.clear }
