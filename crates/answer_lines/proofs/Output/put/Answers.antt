use Rattle.std.proofs.Common.{refl, rules}
use Rattle.std.proofs.lemmas.Slice.{overwrites}
use Rattle.answer_lines.proofs.Output.put.Goals as goal

pub returns : goal.returns
returns c = record { same = refl; wrote = search (rules, overwrites) }
