use Rattle.std.proofs.Common.{sym, ◌∙◌}
use Rattle.correlator.proofs.Refusals.{meet-refusal}
use Rattle.correlator.proofs.Events.{next_meet}
use Rattle.correlator.proofs.state.Correlator.meet.Goals as goal

pub append-requires : goal.append-requires
append-requires g c = next_meet _ c.args.a c.args.b (sym (c.in_ok-check_meet.ensures ∙ meet-refusal c.self.inside.trace _ c.self.view_is c.args.a c.args.b))
