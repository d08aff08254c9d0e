use Rattle.std.proofs.Common.{Some, sym, ap, ◌∙◌, ap₂}
use Rattle.causality.specs.Relations.{merged}
use Rattle.gathering.proofs.Folds.{joined_parts}
use Rattle.gathering.proofs.gather_parts.Goals as goal

pub returns-in-Some-Some : goal.returns-in-Some-Some
returns-in-Some-Some g c =
    let op = g.J.Joining.op in
    ap Some c.join.ensures
    ∙ ap₂ (merged op) c.in-Some-Some.ensures c.in-Some-Some.ensures'
    ∙ sym (joined_parts op g.met.J.Joining.associative c.args.front.now c.args.back.now)
