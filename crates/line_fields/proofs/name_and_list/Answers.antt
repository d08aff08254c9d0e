use Rattle.std.proofs.Common.{drop, sym, refl, ap, ◌∙◌}
use Rattle.line_parts.proofs.Naming.{name_space, same_name}
use Rattle.line_fields.proofs.name_and_list.Goals as goal

pub returns-in_err-list : goal.returns-in_err-list
returns-in_err-list c = rw c.from_residual-in_err-list.ensures (λ n ps name sound e. c.in_err-list.ensures _ (same_name c.in_ok-name.ensures (name_space n _ refl name e)).1)

pub returns-in_err-count_places : goal.returns-in_err-count_places
returns-in_err-count_places c = rw c.from_residual-in_err-count_places.ensures (λ n ps name sound e.
    c.in_err-count_places.ensures ps (record {
      sound = sound;
      is = ap (drop 4) (sym c.in_ok-list.ensures ∙ (same_name c.in_ok-name.ensures (name_space n _ refl name e)).1);
    }))
