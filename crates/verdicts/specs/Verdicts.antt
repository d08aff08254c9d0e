-- Walks over two rows of an operation's record, and what the answer of a relation between two operations is.
--
--   Tests post test             a closure answers what the test does
--   row_comparisons ks t bs n   the indexes ks compared by the test t with the bounds bs, at the nodes 1 to n that have an index
--   walk_until stop bs          the walk over comparisons that stops at the first which comes out as `stop`
--   Answers r o p n a           in any trace of n nodes where o and p are the records of two operations, a is the answer
--                               that the walk of relation r gives: the verdict and the steps
use Rattle.std.specs.Prelude.{◌≡◌, ℕ, ◌<◌, Bool, cond, List}
use Rattle.causality.specs.declared.Event.{Event}
use Rattle.causality.specs.declared.Relation.{Relation}
use Rattle.causality.specs.Limits.{relation_number}
use Rattle.gathering.specs.declared.Row.{Row}
use Rattle.records.specs.declared.operations.Operation.{Operation}
use Rattle.records.specs.Summaries.{at_node, present, Summary}
use Rattle.relating.specs.Walks.{comparisons, every_walk, some_walk, walk}

-- what a closure may answer of two numbers of a row is what the test answers
abbrev pub Tests : (ℕ → ℕ → Bool → Type 0) → (ℕ → ℕ → Bool) → Type 0
Tests post test = (k bound : ℕ) (r : Bool) → k < 65536 → bound < 65536 → post k bound r → r ≡ test k bound

abbrev pub row_comparisons : Row → (ℕ → ℕ → Bool) → Row → ℕ → List Bool
row_comparisons indexes test bounds n = comparisons (λ i. present (at_node indexes i)) (λ i k. test k (at_node bounds i)) n

abbrev pub walk_until : Bool → List Bool → Bool × ℕ
walk_until stop bs = cond stop (some_walk bs) (every_walk bs)

abbrev pub Answers : Relation → Operation → Operation → ℕ → Bool × ℕ → Type 0
Answers r o p n answer =
    (vs : List Event) (x : ℕ) (xs : List ℕ) (y : ℕ) (ys : List ℕ) → Summary vs n x xs o → Summary vs n y ys p →
    answer ≡ walk (relation_number r) vs n x xs y ys
