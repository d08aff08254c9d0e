-- What is made of each item by a function.
use Rattle.std.proofs.Common.{◌≡◌, ℕ, zero, suc, ◌+◌, ◌<◌, ◌≤◌, get_or, subst, inl, inr, arith, List, [], ◌∷◌, map, fold, refl, ap₂, ◌∙◌}
use Rattle.std.specs.List.{AllZip}
use Rattle.std.specs.Array.{IsFromFnResult, IsFromFnResultFrom}
use Rattle.std.specs.Fn.{Called, Mut}
use Rattle.std.specs.Option.{unwrap_or}
use Rattle.std.proofs.lemmas.Bool.{cases_eq}
use Rattle.gathering.specs.Gathering.{joined_all}

pub made_map : {X T : Type 0} (R : X → T → Type 0) (of : X → T) (xs : List X) (made : List T) → AllZip R xs made → ((x : X) (y : T) → R x y → y ≡ of x) → made ≡ map of xs
made_map R of [] [] each is = refl
made_map R of [] (y ∷ ys) each is = absurd each
made_map R of (x ∷ xs) [] each is = absurd each
made_map {T = T} R of (x ∷ xs) (y ∷ ys) (h, each) is = ap₂ (λ (z : T) (zs : List T). z ∷ zs) (is x y h) (made_map R of xs ys each is)

-- ---- pairs that are made of one thing each

-- each is made of what R makes
pub made_twice : {X T : Type 0} (R : X → T → Type 0) (Q : X → T × T → Type 0) → ((x : X) (p : T × T) → Q x p → (r : T) × R x r × (p ≡ (r, r))) →
    (xs : List X) (made : List (T × T)) → AllZip Q xs made → (rs : List T) × AllZip R xs rs × (made ≡ map (λ r. (r, r)) rs)
made_twice R Q of [] [] each = ([], tt, refl)
made_twice R Q of [] (y ∷ ys) each = absurd each
made_twice R Q of (x ∷ xs) [] each = absurd each
made_twice {T = T} R Q of (x ∷ xs) (p ∷ ps) (h, each) =
    let (r, met, is) = of x p h in
    let (rs, all, rest) = made_twice R Q of xs ps each in
    (r ∷ rs, (met, all), ap₂ (λ (z : T × T) (zs : List (T × T)). z ∷ zs) is rest)

module _ {T : Type 0} (f g : T → T → T) where
  abbrev pub both : T × T → T × T → T × T
  both x y = (f x.0 y.0, g x.1 y.1)

  folded_both : (a b : T) (rs : List T) → fold both (a, b) (map (λ r. (r, r)) rs) ≡ (fold f a rs, fold g b rs)
  folded_both a b [] = refl
  folded_both a b (r ∷ rs) = folded_both (f a r) (g b r) rs

  pub joined_both : (zero_of : T) (rs : List T) → unwrap_or (joined_all both (map (λ r. (r, r)) rs)) (zero_of, zero_of) ≡ (unwrap_or (joined_all f rs) zero_of, unwrap_or (joined_all g rs) zero_of)
  joined_both z [] = refl
  joined_both z (r ∷ rs) = folded_both r r rs

-- ---- an array that is made by a closure that stays as it is

module _ {F B : Type 0} (g : Mut F (ℕ × Unit {0}) B) (f : F) (ys : List B) (of : ℕ → B) (top : ℕ)
    (same : (i : ℕ) (y : B) (q : F) → i < top → Called g f (i, tt) y q → (q ≡ f) × (y ≡ of i)) where
  from_each : (n k : ℕ) → k + n ≡ top → IsFromFnResultFrom g f ys k n → (i : ℕ) (d : B) → k ≤ i → i < top → get_or ys i d ≡ of i
  from_each zero k end each i d low high = absurd (omega arith)
  from_each (suc n) k end (q, y, at, called, rest) i d low high =
      let (stays, is) = same k y q (omega arith) called in
      elim (cases_eq i k) [
        | inl e ↦ rw e (at.1 d ∙ is)
        | inr e ↦ from_each n (k + 1) (omega arith) (subst (λ p. IsFromFnResultFrom g p ys (k + 1) n) stays rest) i d (omega arith) high
      ]

  pub made_at : IsFromFnResult g f ys top → (i : ℕ) (d : B) → i < top → get_or ys i d ≡ of i
  made_at made i d l = from_each top 0 (omega arith) made.each i d (omega arith) l
