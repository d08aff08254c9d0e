use Rattle.correlator.proofs.Questions.{reached}
use Rattle.correlator.proofs.state.Correlator.reaches.Goals as goal

pub returns : goal.returns
returns g c =
    reached _ _ _ c.self.invariant _ c.self.view_is c.args.x.place c.args.y.place c.args.x.event c.args.y.event _ _ c.requires.x c.requires.y c.count.ensures c.unwrap_or.ensures
