use Rattle.causality.proofs.theorems.index_is_stamp.Goals as goal
use Rattle.causality.proofs.Indexes.{index_is_stamp}

pub returns : goal.returns
returns c = index_is_stamp
