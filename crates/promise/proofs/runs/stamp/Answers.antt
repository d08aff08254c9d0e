use Rattle.std.proofs.Common.{◌≡◌, length, sym, refl, ap, rules}
use Rattle.correlator.specs.Told.{history}
use Rattle.history.specs.Calls.{Call}
use Rattle.history.specs.Answers.{stamped}
use Rattle.promise.specs.declared.requests.Request.TheVariants.{Stamp}
use Rattle.promise.specs.declared.requests.Value.{Value}
use Rattle.promise.proofs.Performing.{mapped, performed, part_long, lent_left}
use Rattle.promise.proofs.runs.stamp.Goals as goal

pub returns : goal.returns
returns g c =
    let h = history c.args.c.now in
    let l = c.args.lent in
    let m = c.min-len.result in
    let here = c.min-len.ensures in
    let sixteen : length l.row.counts ≡ 16 = search rules in
    performed h h (Stamp c.args.p c.args.d l) _ (λ _. Value.Done) c.stamp-done.result (λ _. Unit {0}) _ (ap (Call.stamp c.args.p c.args.d) (sym (part_long l m here sixteen)))
    (mapped (λ _. Value.Done) (λ x v e. search rules) c.stamp-done.result c.map.result c.map.ensures.cases)
    (lent_left l m here sixteen (stamped h c.args.p c.args.d) _ c.stamp-done.ensures.stamped) (λ _ _. refl) c.stamp-done.ensures.obeys
