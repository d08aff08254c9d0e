-- The limits of a trace, which numbers are nodes, and the numbers of the relations.
use Rattle.std.specs.Prelude.{ℕ, Bool, ◌&&◌, nat_le}
use Rattle.causality.specs.declared.Relation.{Relation}

abbrev pub max_nodes : ℕ
max_nodes = 16

abbrev pub max_events : ℕ
max_events = 512

-- the nodes of a trace are numbered 1 to n
abbrev pub is_node : ℕ → ℕ → Bool
is_node n i = nat_le 1 i && nat_le i n

-- the relations are numbered 1 to 6
abbrev pub is_relation : ℕ → Bool
is_relation r = nat_le 1 r && nat_le r 6

-- the number of each relation between two sets of events
abbrev pub relation_number : Relation → ℕ
relation_number Relation.R1 = 1
relation_number Relation.R2 = 2
relation_number Relation.R2P = 3
relation_number Relation.R3 = 4
relation_number Relation.R3P = 5
relation_number Relation.R4 = 6
