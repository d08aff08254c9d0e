use Rattle.std.proofs.Common.{sym, ◌∙◌}
use Rattle.correlator.proofs.Refusals.{local-refusal}
use Rattle.correlator.proofs.Events.{next_local}
use Rattle.correlator.proofs.state.Correlator.local.Goals as goal

pub append-requires : goal.append-requires
append-requires g c = next_local _ c.args.a (sym (c.in_ok-check_local.ensures ∙ local-refusal c.self.inside.trace _ c.self.view_is c.args.a))
