use Rattle.std.proofs.Common.{sym, refl, ◌∙◌, rules}
use Rattle.correlator.proofs.Questions.{finds}
use Rattle.correlator.proofs.state.Correlator.find.Goals as goal

pub returns-in_err-event : goal.returns-in_err-event
returns-in_err-event g c =
    let named = sym (finds _ _ _ c.self.invariant _ c.self.view_is c.args.place) in
    search rules

pub returns : goal.returns
returns g c =
    let named = sym (finds _ _ _ c.self.invariant _ c.self.view_is c.args.place) in
    (refl, named ∙ sym c.at.ensures ∙ c.in_ok-event.ensures.ok_part)
