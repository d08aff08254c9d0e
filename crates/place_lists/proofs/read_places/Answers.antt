use Rattle.std.proofs.Common.{arith, rules}
use Rattle.std.proofs.lemmas.List.{length-take-le, nil_from_length}
use Rattle.place_lists.proofs.Listing.{store_more, store_ended, no_place, no_comma, too_many}
use Rattle.place_lists.proofs.read_places.Goals as goal

pub returns-in_err-place : goal.returns-in_err-place
returns-in_err-place c = rw c.from_residual.ensures (no_place c.loop-k.invariant.front c.in_err-place.ensures)

pub returns-then-is_empty : goal.returns-then-is_empty
returns-then-is_empty c = store_ended c.loop-k.k (search rules) c.in_ok-place.ensures c.loop-k.places c.loop-k.invariant (nil_from_length _ (search rules))

pub returns-in_err-rest : goal.returns-in_err-rest
returns-in_err-rest c = rw c.from_residual-in_err-rest.ensures (no_comma c.loop-k.invariant.front c.in_ok-place.ensures (search rules) c.in_err-rest.ensures)

pub loop-k-preserved : goal.loop-k-preserved
loop-k-preserved c = store_more c.loop-k.k (search rules) c.in_ok-place.ensures c.loop-k.places c.loop-k.invariant c.in_ok-rest.ensures

pub returns : goal.returns
returns c =
    let long = c.loop-k.invariant.long in
    let front = length-take-le c.loop-k.k c.loop-k.places (search rules) in
    too_many c.loop-k.invariant.front (omega arith)
