use Rattle.std.proofs.Common.{drop, sym, refl, ap, ◌∙◌, rules}
use Rattle.line_parts.proofs.Reading.{place_end, place_space, same_place, whole}
use Rattle.line_fields.proofs.Ends.{only_at_end}
use Rattle.line_fields.proofs.two_places.Goals as goal

pub returns-in_err-rest : goal.returns-in_err-rest
returns-in_err-rest c = rw c.from_residual-in_err-rest.ensures (λ p q sp sq e. c.in_err-rest.ensures _ (same_place c.in_ok-p.ensures (place_space p _ refl sp e)).1)

pub returns-in_err-q : goal.returns-in_err-q
returns-in_err-q c = rw c.from_residual-in_err-q.ensures (λ p q sp sq e.
    c.in_err-q.ensures q _ (place_end q sq (ap (drop 4) (sym c.in_ok-rest.ensures ∙ (same_place c.in_ok-p.ensures (place_space p _ refl sp e)).1))))

pub returns : goal.returns
returns c = only_at_end _ c.in_ok-q.rest.now c.then_some.ensures c.is_empty.ensures
    (λ e. let last = whole c.in_ok-q.ensures e in search (rules, last))
    (λ some p q sp sq e.
    let same = same_place c.in_ok-q.ensures (place_end q sq (ap (drop 4) (sym c.in_ok-rest.ensures ∙ (same_place c.in_ok-p.ensures (place_space p _ refl sp e)).1))) in
    search (rules, same))
