use Rattle.std.proofs.Common.{rules}
use Rattle.job_text.proofs.Cuts.{read_all}
use Rattle.job_text.proofs.lines.Reader.at_end.Goals as goal

pub returns : goal.returns
returns c = rw (← c.self.view_is) (read_all _ _ (search rules))
