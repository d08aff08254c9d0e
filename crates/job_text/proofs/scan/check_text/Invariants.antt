use Rattle.std.proofs.Common.{◌≡◌, ◌+◌}
use Rattle.job_text.specs.Texts.{Begins, line_count}
use Rattle.job_text.proofs.scan.check_text.Given as goal

abbrev pub invariant-loop-line : goal.invariant-loop-line
invariant-loop-line l = Begins l.text l.good l.line-iterator × (l.good + line_count l.line-iterator ≡ line_count l.text)
