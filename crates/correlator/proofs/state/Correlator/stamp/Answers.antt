use Rattle.std.proofs.Common.{sym, ap, ◌∙◌}
use Rattle.correlator.specs.Questions.{direction_number}
use Rattle.correlator.proofs.Questions.{stamped-forward, stamped-reverse}
use Rattle.correlator.proofs.state.Correlator.stamp.Goals as goal

pub returns-in-Forward-clause-stamped : goal.returns-in-Forward-clause-stamped
returns-in-Forward-clause-stamped g c =
    let asked = c.in_ok-direction.ensures in
    stamped-forward _ _ _ c.self.invariant _ c.self.view_is c.args.p c.args.d _ _ _ _ (sym asked.first) (rw asked.found.0 at asked.found.1) (sym asked.direction ∙ ap direction_number c.in-Forward.is) c.write_counts.ensures

pub returns-in-Reverse-clause-stamped : goal.returns-in-Reverse-clause-stamped
returns-in-Reverse-clause-stamped g c =
    let asked = c.in_ok-direction.ensures in
    stamped-reverse _ _ _ c.self.invariant _ c.self.view_is c.args.p c.args.d _ _ _ _ (sym asked.first) (rw asked.found.0 at asked.found.1) (sym asked.direction ∙ ap direction_number c.in-Reverse.is) _ (rw c.count.ensures at c.from_last.ensures) c.write_counts-in-Reverse.ensures
