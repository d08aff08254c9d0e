use Rattle.std.proofs.Common.{drop, sym, ap, ◌∙◌}
use Rattle.line_parts.proofs.Reading.{same_number, node_of, index_of}
use Rattle.line_parts.proofs.read_place.Goals as goal

pub returns-in_err-rest : goal.returns-in_err-rest
returns-in_err-rest c = rw c.from_residual-in_err-rest.ensures (λ p q h. c.in_err-rest.ensures _ (same_number c.in_ok-node.ensures (node_of h)).1)

pub returns-in_err-index : goal.returns-in_err-index
returns-in_err-index c = rw c.from_residual-in_err-index.ensures (λ p q h.
    c.in_err-index.ensures p.index q (index_of h _ (ap (drop 1) (sym c.in_ok-rest.ensures ∙ (same_number c.in_ok-node.ensures (node_of h)).1))))
