use Rattle.place_lists.proofs.Listing.{Stored}
use Rattle.place_lists.proofs.read_places.Given as goal

abbrev pub invariant-loop-k : goal.invariant-loop-k
invariant-loop-k l = Stored l.list l.rest l.initial.places l.k l.places
