use Rattle.std.proofs.Common.{sym, ◌∙◌, rules}
use Rattle.correlator.proofs.Refusals.{send-refusal}
use Rattle.correlator.proofs.Events.{next_send}
use Rattle.correlator.proofs.state.Correlator.send.Goals as goal

pub returns-in_err-check_send : goal.returns-in_err-check_send
returns-in_err-check_send g c =
    let same = send-refusal c.self.inside.trace _ c.self.view_is c.self.invariant.posts c.args.a c.args.m in
    search rules

pub append-requires : goal.append-requires
append-requires g c =
    next_send _ c.args.a c.args.m (sym (c.in_ok-check_send.ensures ∙ send-refusal c.self.inside.trace _ c.self.view_is c.self.invariant.posts c.args.a c.args.m))

pub returns : goal.returns
returns g c =
    let free = c.in_ok-check_send.ensures ∙ send-refusal c.self.inside.trace _ c.self.view_is c.self.invariant.posts c.args.a c.args.m in
    search rules
