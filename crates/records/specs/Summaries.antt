-- What the rows of an operation's record promise: the first and last indexes and the four cuts of its members, as the
-- causal theory defines them. The tests of the relations rest on this alone, and on no clock.
--
--   at_node row i        the number that a row has for node i, counted from 1
--   present k            an index, where 0 stands for none
--   Summary vs n x xs o  in the trace vs of n nodes, o is the record of the operation whose members are x and xs
use Rattle.std.specs.Prelude.{◌≡◌, ℕ, zero, suc, ◌<◌, true, cond, List, ◌∷◌, length, Some, None, Option, ◌==◌, slice_index}
use Rattle.std.specs.List.{AllByRecursion}
use Rattle.causality.specs.declared.Event.{Event}
use Rattle.causality.specs.Limits.{is_node}
use Rattle.causality.specs.Relations.{first_at, last_at, joint_past, whole_past, first_reach, joint_reach}
use Rattle.gathering.specs.declared.Row.{Row}
use Rattle.records.specs.declared.operations.Operation.{Operation}
use Rattle.records.specs.Operations.{member_list, joint_past_of, whole_past_of, first_reach_of, joint_reach_of}

abbrev pub at_node : Row → ℕ → ℕ
at_node row zero = 0
at_node row (suc i) = slice_index row.counts i

abbrev pub present : ℕ → Option ℕ
present k = cond (k == 0) None (Some k)

pub record Summary (vs : List Event) (n x : ℕ) (xs : List ℕ) (o : Operation) : Type 0 where
  pub members : member_list o ≡ x ∷ xs
  pub held : AllByRecursion (λ u. u < length vs) (x ∷ xs)
  pub firsts : (i : ℕ) → is_node n i ≡ true → present (at_node o.first i) ≡ first_at vs (x ∷ xs) i
  pub lasts : (i : ℕ) → is_node n i ≡ true → present (at_node o.last i) ≡ last_at vs (x ∷ xs) i
  pub joint_pasts : (i : ℕ) → is_node n i ≡ true → at_node (joint_past_of o) i ≡ joint_past vs x xs i
  pub whole_pasts : (i : ℕ) → is_node n i ≡ true → at_node (whole_past_of o) i ≡ whole_past vs x xs i
  pub first_reaches : (i : ℕ) → is_node n i ≡ true → at_node (first_reach_of o) i ≡ first_reach vs x xs i
  pub joint_reaches : (i : ℕ) → is_node n i ≡ true → at_node (joint_reach_of o) i ≡ joint_reach vs x xs i
