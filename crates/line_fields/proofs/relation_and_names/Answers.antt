use Rattle.std.proofs.Common.{refl}
use Rattle.line_parts.proofs.Naming.{name_space, same_name}
use Rattle.line_fields.specs.Fields.{relation_word}
use Rattle.line_fields.proofs.Words.{word_name}
use Rattle.line_fields.proofs.relation_and_names.Goals as goal

pub returns-in_err-relation : goal.returns-in_err-relation
returns-in_err-relation c = rw c.from_residual-in_err-relation.ensures (λ q x y nx ny e.
    c.in_err-relation.ensures q (same_name c.in_ok-word.ensures (name_space (relation_word q) _ refl (word_name q) e)).0)
