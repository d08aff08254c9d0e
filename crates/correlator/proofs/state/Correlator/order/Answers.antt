use Rattle.correlator.proofs.Questions.{orderly}
use Rattle.correlator.proofs.state.Correlator.order.Goals as goal

pub compare-requires-clause-orderly : goal.compare-requires-clause-orderly
compare-requires-clause-orderly g c = orderly _ _ _ c.self.invariant _ c.self.view_is
