-- What follows the key of a line that has several parts, as the format shows it.
--
--   relation_word r       the word of a relation
--   listing name places   NAME at=LIST
--   question r x y        REL from=NAME to=NAME
use Rattle.std.specs.Prelude.{ℕ, List, ◌++◌, codes}
use Rattle.causality.specs.declared.Place.{Place}
use Rattle.causality.specs.declared.Relation.{Relation}
use Rattle.place_lists.specs.Lists.{listed}

abbrev pub relation_word : Relation → List ℕ
relation_word Relation.R1 = codes "R1"
relation_word Relation.R2 = codes "R2"
relation_word Relation.R2P = codes "R2P"
relation_word Relation.R3 = codes "R3"
relation_word Relation.R3P = codes "R3P"
relation_word Relation.R4 = codes "R4"

abbrev pub listing : List ℕ → List Place → List ℕ
listing name places = name ++ (codes " at=" ++ listed places)

abbrev pub question : Relation → List ℕ → List ℕ → List ℕ
question r x y = relation_word r ++ (codes " from=" ++ (x ++ (codes " to=" ++ y)))
