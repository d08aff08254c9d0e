use Rattle.std.proofs.Common.{◌≡◌, ◌<◌, get_or, subst, arith, rules}
use Rattle.std.proofs.lemmas.List.{get_or_past}
use Rattle.line_parts.specs.Parts.{Digit, NumberAt}
use Rattle.line_parts.proofs.Reading.{begins, few, fits, fits_not, more, number_here, start, too_large}
use Rattle.line_parts.proofs.read_number.Goals as goal
use Rattle.line_parts.proofs.read_number.Goals.{else-loop-test, then-loop-test+in_default-rest, then-loop-test+in_default-rest-2, then-loop-test+in_default-rest-3}

pub returns-in_default : goal.returns-in_default
returns-in_default c n rest h = search (rules, begins _ _ _ h)

pub loop-init : goal.loop-init
loop-init c = start c.args.s.now

pub overflow_mul-n : goal.overflow_mul-n
overflow_mul-n c = let n = few c.loop.invariant (search rules) in omega arith

pub overflow_add-n : goal.overflow_add-n
overflow_add-n c = let n = few c.loop.invariant (search rules) in omega (arith, c.from.ensures)

pub loop-preserved : goal.loop-preserved
loop-preserved c = rw c.from.ensures (more c.loop.invariant (search rules) (search rules))

pub returns-in_err-ok : goal.returns-in_err-ok
returns-in_err-ok c = rw c.from_residual.ensures (too_large c.loop.invariant (fits_not c.try_from.result (search rules) c.try_from.ensures))

pub returns : goal.returns
returns c =
    let stop : c.loop.counter < 6 → Digit (get_or c.loop.rest.now 0 0) → ⊥ = elim c.loop-test.branch [
      | else-loop-test w ↦ λ lt d. omega arith
      | then-loop-test+in_default-rest w ↦ λ lt d. search (rules, get_or_past)
      | then-loop-test+in_default-rest-2 w ↦ λ lt d. search rules
      | then-loop-test+in_default-rest-3 w ↦ λ lt d. search rules
    ] in
    let fit : (c.loop.n < 65536) × (c.loop.n ≡ c.in_ok-ok.field-0) = fits c.try_from.result (search rules) c.try_from.ensures in
    subst (λ n. NumberAt c.args.s.now n c.loop.rest.now) fit.1 (number_here c.loop.invariant (search rules) (search rules) (search rules) (search rules) stop fit.0)
