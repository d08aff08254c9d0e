use Rattle.std.proofs.Common.{sym, ◌∙◌, rules}
use Rattle.correlator.proofs.Refusals.{receive-refusal, sender}
use Rattle.correlator.proofs.Events.{next_receive}
use Rattle.correlator.proofs.state.Correlator.receive.Goals as goal

pub returns-in_err-sender : goal.returns-in_err-sender
returns-in_err-sender g c =
    let same = receive-refusal c.self.inside.trace _ c.self.view_is c.self.invariant.posts c.self.invariant.lawful c.args.a c.args.m in
    search rules

pub append-requires : goal.append-requires
append-requires g c =
    next_receive _ c.args.a c.args.m c.in_ok-sender.sender (sym (c.in_ok-sender.ensures.first ∙ receive-refusal c.self.inside.trace _ c.self.view_is c.self.invariant.posts c.self.invariant.lawful c.args.a c.args.m))
    (sender c.self.inside.trace _ c.self.view_is c.self.invariant.posts c.self.invariant.lawful c.args.a c.args.m c.in_ok-sender.sender c.in_ok-sender.ensures.sender)

pub returns : goal.returns
returns g c =
    let free = c.in_ok-sender.ensures.first ∙ receive-refusal c.self.inside.trace _ c.self.view_is c.self.invariant.posts c.self.invariant.lawful c.args.a c.args.m in
    search rules
