use Rattle.std.proofs.Common.{rules}
use Rattle.std.proofs.lemmas.List.{nil_from_length}
use Rattle.place_lists.proofs.Listing.{count-more, count_ended, no_place, no_comma, too_many}
use Rattle.place_lists.proofs.count_places.Goals as goal

pub returns-in_err-after : goal.returns-in_err-after
returns-in_err-after c = rw c.from_residual.ensures (no_place c.loop-n.invariant.1 c.in_err-after.ensures)

pub returns-then-is_empty : goal.returns-then-is_empty
returns-then-is_empty c = count_ended c.loop-n.n (search rules) c.in_ok-after.ensures c.loop-n.invariant (nil_from_length _ (search rules))

pub returns-in_err-rest : goal.returns-in_err-rest
returns-in_err-rest c = rw c.from_residual-in_err-rest.ensures (no_comma c.loop-n.invariant.1 c.in_ok-after.ensures (search rules) c.in_err-rest.ensures)

pub loop-n-preserved : goal.loop-n-preserved
loop-n-preserved c = count-more c.loop-n.n (search rules) c.in_ok-after.ensures c.loop-n.invariant c.in_ok-rest.ensures

pub returns : goal.returns
returns c = too_many c.loop-n.invariant.1 (search rules)
