-- What follows where no refusal holds.
use Rattle.std.proofs.Common.{◌≡◌, ℕ, Bool, false, List, [], ◌∷◌, Some, None, inl, inr, arith}
use Rattle.std.specs.List.{AllByRecursion}
use Rattle.std.proofs.lemmas.Bool.{cases_Bool}
use Rattle.history.specs.declared.refusal.Refusal.{Refusal}
use Rattle.history.specs.Calls.{first_that}

-- every test failed
pub passed : (ts : List (Bool × Refusal)) → first_that ts ≡ None → AllByRecursion (λ t. t.0 ≡ false) ts
passed [] e = tt
passed ((b, n) ∷ ts) e =
    elim (cases_Bool b) [
      | inl s ↦ let held : Some n ≡ None = rw s at e in let z : ◌≡◌ {A = ℕ} 0 1 = cc in absurd (omega arith)
      | inr s ↦ (s, passed ts (rw s at e))
    ]
