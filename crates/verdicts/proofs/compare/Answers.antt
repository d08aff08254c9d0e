use Rattle.std.proofs.Common.{sym, arith, rules}
use Rattle.std.proofs.lemmas.List.{get_or-take, length-take}
use Rattle.verdicts.proofs.Rows.{absent, missed, met, ended, none_made}
use Rattle.verdicts.proofs.compare.Goals as goal
use Rattle.verdicts.proofs.compare.Goals.{then-index-ne0+else-holds-stop, else-index-ne0}

pub loop-i-init : goal.loop-i-init
loop-i-init g c = (λ test tests. none_made c.args.stop, omega arith)

pub returns-then-holds-stop : goal.returns-then-holds-stop
returns-then-holds-stop g c =
    let a = c.args in
    let i = c.loop-i.i in
    let read = get_or-take c.min.result a.indexes.now.counts i 0 (omega (arith, length-take c.min.result a.indexes.now.counts)) in
    record {
      few = omega (arith, c.loop-i.invariant.1);
      walked = λ test tests.
          let told = tests _ _ _ (search rules) (search rules) c.holds.ensures in
          let stopped = rw (told, read) at c.if-holds-stop.true in
          sym (met a.indexes.now test a.bounds.now a.stop i c.loop-i.steps (c.loop-i.invariant.0 test tests) (rw read at c.if-index-ne0.true) stopped a.nodes (omega arith));
    }

pub loop-i-preserved : goal.loop-i-preserved
loop-i-preserved g c =
    let a = c.args in
    let i = c.loop-i.i in
    let read = get_or-take c.min.result a.indexes.now.counts i 0 (omega (arith, length-take c.min.result a.indexes.now.counts)) in
    elim c.if-index-ne0.branch [
      | then-index-ne0+else-holds-stop w ↦
          rw w.steps-is (
            λ test tests.
                let told = tests _ _ _ (search rules) (search rules) w.holds.ensures in
                let other = rw (told, read) at w.if-holds-stop.false in
                missed a.indexes.now test a.bounds.now a.stop i c.loop-i.steps (c.loop-i.invariant.0 test tests) (rw read at w.if-index-ne0.true) other,
            omega (arith, c.loop-i.invariant.1),
          )
      | else-index-ne0 w ↦
          rw w.steps-is (
            λ test tests. absent a.indexes.now test a.bounds.now a.stop i c.loop-i.steps (c.loop-i.invariant.0 test tests) (rw read at w.if-index-ne0.false),
            omega (arith, c.loop-i.invariant.1),
          )
    ]

pub returns : goal.returns
returns g c =
    let a = c.args in
    record {
      few = omega (arith, c.loop-i.invariant.1);
      walked = λ test tests. sym (ended a.indexes.now test a.bounds.now a.stop c.loop-i.i c.loop-i.steps (c.loop-i.invariant.0 test tests) a.nodes (omega arith));
    }
