-- The least of numbers, where 0 stands for none, joins in any grouping.
use Rattle.std.specs.Prelude.{◌≡◌, ℕ}
use Rattle.std.proofs.Common.{arith}
use Rattle.std.proofs.lemmas.Bool.Decides.{nat_tests}
use Rattle.gathering.specs.Gathering.{earliest}

pub earliest_associative : (x y z : ℕ) → earliest (earliest x y) z ≡ earliest x (earliest y z)
earliest_associative x y z = grind (arith, nat_tests)
