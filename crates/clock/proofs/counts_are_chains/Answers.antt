-- Counts tell which entries chains lead to.
use Rattle.clock.proofs.Takes.{counts_are_chains}
use Rattle.clock.proofs.counts_are_chains.Goals as goal

pub returns : goal.returns
returns c = counts_are_chains
