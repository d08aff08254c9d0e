use Rattle.std.proofs.Common.{drop, sym, refl, ap, ◌∙◌, rules}
use Rattle.line_parts.proofs.Reading.{whole}
use Rattle.line_parts.proofs.Naming.{name_end, name_space, same_name}
use Rattle.line_fields.proofs.Ends.{only_at_end}
use Rattle.line_fields.proofs.two_names.Goals as goal

pub returns-in_err-rest : goal.returns-in_err-rest
returns-in_err-rest c = rw c.from_residual-in_err-rest.ensures (λ p q sp sq e. c.in_err-rest.ensures _ (same_name c.in_ok-x.ensures (name_space p _ refl sp e)).1)

pub returns-in_err-y : goal.returns-in_err-y
returns-in_err-y c = rw c.from_residual-in_err-y.ensures (λ p q sp sq e.
    c.in_err-y.ensures q _ (name_end q sq (ap (drop 4) (sym c.in_ok-rest.ensures ∙ (same_name c.in_ok-x.ensures (name_space p _ refl sp e)).1))))

pub returns : goal.returns
returns c = only_at_end _ c.in_ok-y.rest.now c.then_some.ensures c.is_empty.ensures
    (λ e. let last = whole c.in_ok-y.ensures e in search (rules, last))
    (λ some p q sp sq e.
    let same = same_name c.in_ok-y.ensures (name_end q sq (ap (drop 4) (sym c.in_ok-rest.ensures ∙ (same_name c.in_ok-x.ensures (name_space p _ refl sp e)).1))) in
    search (rules, same))
