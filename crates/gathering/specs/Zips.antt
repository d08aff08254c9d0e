-- Lists joined place by place: lemmas, which the law of the joining of rows cites. Nothing here is to be believed.
use Rattle.std.specs.Prelude.{◌≡◌, ℕ, zero, suc, ◌<◌, min, List, [], ◌∷◌, length, slice_index, slice_index_or, refl}
use Rattle.std.proofs.Common.{sym, ap, ◌∙◌, arith}
use Rattle.std.proofs.lemmas.List.{ext_get_or}
use Rattle.gathering.specs.Gathering.{zipped}

module _ (f : ℕ → ℕ → ℕ) where
  pub zipped_assoc : ((x y z : ℕ) → f (f x y) z ≡ f x (f y z)) → (xs ys zs : List ℕ) → zipped f (zipped f xs ys) zs ≡ zipped f xs (zipped f ys zs)
  zipped_assoc law [] ys zs = refl
  zipped_assoc law (x ∷ xs) [] zs = refl
  zipped_assoc law (x ∷ xs) (y ∷ ys) [] = refl
  zipped_assoc law (x ∷ xs) (y ∷ ys) (z ∷ zs) = rw (law x y z) (ap (λ l. f x (f y z) ∷ l) (zipped_assoc law xs ys zs))

  pub length-zipped : (xs ys : List ℕ) → length (zipped f xs ys) ≡ min (length xs) (length ys)
  length-zipped [] ys = omega arith
  length-zipped (x ∷ xs) [] = omega arith
  length-zipped (x ∷ xs) (y ∷ ys) = omega (arith, length-zipped xs ys)

  pub get_or-zipped : (xs ys : List ℕ) (k d : ℕ) → k < length xs → k < length ys → slice_index_or (zipped f xs ys) k d ≡ f (slice_index_or xs k d) (slice_index_or ys k d)
  get_or-zipped [] ys k d h w = absurd (omega arith)
  get_or-zipped (x ∷ xs) [] k d h w = absurd (omega arith)
  get_or-zipped (x ∷ xs) (y ∷ ys) zero d h w = refl
  get_or-zipped (x ∷ xs) (y ∷ ys) (suc k) d h w = get_or-zipped xs ys k d (omega arith) (omega arith)

  -- a list that has f of the numbers at each place
  pub same_zipped : (xs ys zs : List ℕ) → length xs ≡ length ys → length zs ≡ length xs →
      ((i : ℕ) → i < length xs → slice_index zs i ≡ f (slice_index xs i) (slice_index ys i)) → zs ≡ zipped f xs ys
  same_zipped xs ys zs h w at =
      let long : length (zipped f xs ys) ≡ length xs = length-zipped xs ys ∙ omega arith in
      ext_get_or 0 zs (zipped f xs ys) (omega arith) (λ i l. at i (omega arith) ∙ sym (get_or-zipped xs ys i 0 (omega arith) (omega arith)))
