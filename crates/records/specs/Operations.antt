-- What the table of operations, seen as the list of its records, holds of each name, and at each position.
--
--   no_operation               what is read past the last record
--   operation_of t name        the operation of a name, if there is one
--   record_at t i              the record at position i, counted from 0 by rising name
--   operation_at t i           the operation at position i, if there is one
--   FindsOperation t name r    r is the position of the operation of a name, or none and there is no such operation
--   member_list o              the numbers of the member events
--   joint_past_of, whole_past_of, first_reach_of, joint_reach_of   the rows of the four cuts
--   cut_of o w                 the row of cut w, from 1 to 4
--   row_of cs c, cut_number c  the row of a cut, and its number
use Rattle.std.specs.Prelude.{◌≡◌, ℕ, ◌<◌, false, cond, ◌&&◌, ◌==◌, List, [], length, take, MatchResult, Some, None, Option, Result, nat_le, nat_lt, slice_index_or}
use Rattle.gathering.specs.declared.Row.{Row}
use Rattle.table.specs.Lookups.{lookup}
use Rattle.records.specs.declared.operations.Cut.{Cut}
use Rattle.records.specs.declared.operations.Cuts.{Cuts}
use Rattle.records.specs.declared.operations.UnknownCut.{UnknownCut}
use Rattle.records.specs.declared.operations.Operation.{Operation}

abbrev pub no_row : Row
no_row = record { counts = [] }

abbrev pub no_operation : Operation
no_operation = record {
  name = 0;
  len = 0;
  members = [];
  first = no_row;
  last = no_row;
  cuts = record { joint_past = no_row; whole_past = no_row; first_reach = no_row; joint_reach = no_row };
}

abbrev pub operation_of : List Operation → ℕ → Option Operation
operation_of t name = lookup (λ (o : Operation). o.name) t name

abbrev pub record_at : List Operation → ℕ → Operation
record_at t i = slice_index_or t i no_operation

abbrev pub operation_at : List Operation → ℕ → Option Operation
operation_at t i = cond (nat_lt i (length t)) (Some (record_at t i)) None

abbrev pub FindsOperation : List Operation → ℕ → Option ℕ → Type 0
FindsOperation t name None = operation_of t name ≡ None
FindsOperation t name (Some i) = (i < length t) × ((record_at t i).name ≡ name) × (operation_of t name ≡ Some (record_at t i))

abbrev pub member_list : Operation → List ℕ
member_list o = take o.len o.members

abbrev pub joint_past_of : Operation → Row
joint_past_of o = o.cuts.joint_past

abbrev pub whole_past_of : Operation → Row
whole_past_of o = o.cuts.whole_past

abbrev pub first_reach_of : Operation → Row
first_reach_of o = o.cuts.first_reach

abbrev pub joint_reach_of : Operation → Row
joint_reach_of o = o.cuts.joint_reach

abbrev pub cut_of : Operation → ℕ → Option Row
cut_of o w =
    cond (w == 1) (Some (joint_past_of o)) (cond (w == 2) (Some (whole_past_of o)) (cond (w == 3) (Some (first_reach_of o)) (cond (w == 4) (Some (joint_reach_of o)) None)))

-- ---- the cuts by name

abbrev pub row_of : Cuts → Cut → Row
row_of c Cut.JointPast = c.joint_past
row_of c Cut.WholePast = c.whole_past
row_of c Cut.FirstReach = c.first_reach
row_of c Cut.JointReach = c.joint_reach

abbrev pub cut_number : Cut → ℕ
cut_number Cut.JointPast = 1
cut_number Cut.WholePast = 2
cut_number Cut.FirstReach = 3
cut_number Cut.JointReach = 4

-- a number selects the cut that has it; any other is of no cut
abbrev pub SelectsCut : ℕ → Result Cut UnknownCut → Type 0
SelectsCut w r = MatchResult r (λ x. cut_number x ≡ w) (λ e. (e.0 ≡ w) × ((nat_le 1 w && nat_le w 4) ≡ false))
