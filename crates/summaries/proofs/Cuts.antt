-- The row of a cut is the cut by its number.
use Rattle.std.proofs.Common.{◌≡◌, ℕ, true, eqb, List, Some, subst, inl, inr}
use Rattle.std.proofs.lemmas.Bool.{cases_Bool}
use Rattle.causality.specs.declared.Event.{Event}
use Rattle.causality.specs.Limits.{is_node}
use Rattle.causality.specs.Relations.{joint_past, whole_past, first_reach, joint_reach}
use Rattle.causality.proofs.Newest.{nothing}
use Rattle.gathering.specs.declared.Row.{Row}
use Rattle.history.specs.Answers.{cut_number}
use Rattle.records.specs.declared.operations.Operation.{Operation}
use Rattle.records.specs.Operations.{cut_of, joint_past_of, whole_past_of, first_reach_of, joint_reach_of}
use Rattle.records.specs.Summaries.{at_node, Summary}

module _ (vs : List Event) (n x : ℕ) (xs : List ℕ) (o : Operation) (summary : Summary vs n x xs o) (i : ℕ) (node : is_node n i ≡ true) where
  the_row : (row held : Row) (number : ℕ) → Some held ≡ Some row → at_node held i ≡ number → at_node row i ≡ number
  the_row row held number e h = let same : held ≡ row = cc in subst (λ (r : Row). at_node r i ≡ number) same h

  pub cut-is : (w : ℕ) (row : Row) → cut_of o w ≡ Some row → at_node row i ≡ cut_number vs w x xs i
  cut-is w row e =
      elim (cases_Bool (eqb w 1)) [
        | inl a ↦ rw a (the_row row (joint_past_of o) (joint_past vs x xs i) (rw a at e) (summary.joint_pasts i node))
        | inr a ↦ elim (cases_Bool (eqb w 2)) [
          | inl b ↦ rw (a, b) (the_row row (whole_past_of o) (whole_past vs x xs i) (rw (a, b) at e) (summary.whole_pasts i node))
          | inr b ↦ elim (cases_Bool (eqb w 3)) [
            | inl c ↦ rw (a, b, c) (the_row row (first_reach_of o) (first_reach vs x xs i) (rw (a, b, c) at e) (summary.first_reaches i node))
            | inr c ↦ elim (cases_Bool (eqb w 4)) [
              | inl d ↦ rw (a, b, c) (the_row row (joint_reach_of o) (joint_reach vs x xs i) (rw (a, b, c, d) at e) (summary.joint_reaches i node))
              | inr d ↦ absurd (nothing (rw (a, b, c, d) at e))
            ]
          ]
        ]
      ]
