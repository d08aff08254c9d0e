use Rattle.job_text.proofs.Verdict.{one-verdict}
use Rattle.job_text.proofs.scan.one_verdict.Goals as goal

pub returns : goal.returns
returns c = one-verdict
