-- Elements joined: one more, and two parts.
use Rattle.std.proofs.Common.{◌≡◌, List, [], ◌∷◌, ◌++◌, Some, Option, MatchOption, fold, refl, sym, ap, ◌∙◌}
use Rattle.std.proofs.lemmas.List.{append-nil}
use Rattle.std.proofs.lemmas.List.Sums.{fold_push}
use Rattle.causality.specs.Relations.{merged}
use Rattle.gathering.specs.Gathering.{joined_all}

-- one more element is joined behind the others
pub joined_push : {X : Type 0} (op : X → X → X) (xs : List X) (all : Option X) (x r : X) → all ≡ joined_all op xs →
    MatchOption all (r ≡ x) (λ before. r ≡ op before x) → Some r ≡ joined_all op (xs ++ x ∷ [])
joined_push op [] all x r e h = ap Some (rw e at h)
joined_push op (y ∷ ys) all x r e h = let step : r ≡ op (fold op y ys) x = rw e at h in ap Some (step ∙ sym (fold_push op y ys x))

-- ---- an associative joining may be grouped in any way

module _ {X : Type 0} (op : X → X → X) (associative : (x y z : X) → op (op x y) z ≡ op x (op y z)) where
  pub folded_out : (z y : X) (ys : List X) → fold op (op z y) ys ≡ op z (fold op y ys)
  folded_out z y [] = refl
  folded_out z y (w ∷ ws) = ap (λ v. fold op v ws) (associative z y w) ∙ folded_out z (op y w) ws

  folded_parts : (x : X) (xs : List X) (y : X) (ys : List X) → fold op x (xs ++ (y ∷ ys)) ≡ op (fold op x xs) (fold op y ys)
  folded_parts x [] y ys = folded_out x y ys
  folded_parts x (w ∷ ws) y ys = folded_parts (op x w) ws y ys

  pub joined_parts : (xs ys : List X) → joined_all op (xs ++ ys) ≡ merged op (joined_all op xs) (joined_all op ys)
  joined_parts [] ys = refl
  joined_parts (x ∷ xs) [] = ap (λ zs. Some (fold op x zs)) (append-nil xs)
  joined_parts (x ∷ xs) (y ∷ ys) = ap Some (folded_parts x xs y ys)
