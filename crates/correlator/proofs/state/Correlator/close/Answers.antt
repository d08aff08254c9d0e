use Rattle.correlator.proofs.Closing.{opened, sound_closed}
use Rattle.correlator.proofs.state.Correlator.close.Goals as goal

pub invariant_of-self : goal.invariant_of-self
invariant_of-self g c = sound_closed _ _ _ c.self.inside.trace _ c.self.invariant (opened c.self.inside.trace.stage c.in_ok-check_open.ensures) c.close.ensures.closed c.close.ensures.same (rw c.deref.ensures.0 at c.feed_back.ensures)
