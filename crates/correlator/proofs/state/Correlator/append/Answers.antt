use Rattle.correlator.proofs.Events.{unsent, sound_next, placed}
use Rattle.correlator.proofs.state.Correlator.append.Goals as goal

pub push-requires-clause-fresh : goal.push-requires-clause-fresh
push-requires-clause-fresh g c = unsent _ _ _ c.self.invariant _ c.self.view_is _ _ c.requires

pub invariant_of-self : goal.invariant_of-self
invariant_of-self g c =
    sound_next _ _ _ c.self.invariant _ c.self.view_is _ _ c.requires _ _ c.of-entry.ensures.node c.of-entry.ensures.partner _ (rw c.of-entry.ensures.prior at c.take.ensures.after) _ c.push.ensures.grown c.push.ensures.sets

pub returns-clause-place : goal.returns-clause-place
returns-clause-place g c =
    placed _ _ _ c.self.invariant _ c.self.view_is _ _ c.requires _ _ c.of-entry.ensures.node c.of-entry.ensures.partner _ (rw c.of-entry.ensures.prior at c.take.ensures.after) _ _ (rw c.count-number.ensures at c.count.ensures) c.unwrap_or-index.ensures
