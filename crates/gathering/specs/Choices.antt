-- The least and the greatest of two numbers are choices by an order: lemmas, which the laws of the choosings cite. Nothing here is to be believed.
use Rattle.std.specs.Prelude.{◌≡◌, ℕ, ◌<◌, ◌≤◌, min, max, ◌⊎◌}
use Rattle.std.proofs.Common.{inl, inr, arith}
use Rattle.std.proofs.lemmas.Bool.{cases_lt}
use Rattle.gathering.specs.Gathering.{Chooses}

min-one : (x y : ℕ) → (x < y) ⊎ (y ≤ x) → (min x y ≡ x) ⊎ (min x y ≡ y)
min-one x y (inl h) = inl (omega arith)
min-one x y (inr h) = inr (omega arith)

max-one : (x y : ℕ) → (x < y) ⊎ (y ≤ x) → (max x y ≡ x) ⊎ (max x y ≡ y)
max-one x y (inl h) = inr (omega arith)
max-one x y (inr h) = inl (omega arith)

pub by_min : Chooses (λ x y. x ≤ y) min
by_min = record {
  itself = λ x. omega arith;
  chain = λ x y z h k. omega arith;
  first = λ x y. omega arith;
  second = λ x y. omega arith;
  one_of = λ x y. min-one x y (cases_lt x y);
}

pub by_max : Chooses (λ x y. y ≤ x) max
by_max = record {
  itself = λ x. omega arith;
  chain = λ x y z h k. omega arith;
  first = λ x y. omega arith;
  second = λ x y. omega arith;
  one_of = λ x y. max-one x y (cases_lt x y);
}
