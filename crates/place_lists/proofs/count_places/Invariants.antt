use Rattle.place_lists.proofs.Listing.{Counted}
use Rattle.place_lists.proofs.count_places.Given as goal

abbrev pub invariant-loop-n : goal.invariant-loop-n
invariant-loop-n l = Counted l.list l.rest l.n
