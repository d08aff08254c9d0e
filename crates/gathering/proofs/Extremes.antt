-- What is gathered place by place, by a choice that goes by an order, is first by that order at each place.
use Rattle.std.proofs.Common.{◌≡◌, ℕ, zero, suc, ◌<◌, min, List, [], ◌∷◌, length, get_or, Option, MatchOption, fold, sym, refl, ap, ◌∙◌, subst, inl, inr, arith}
use Rattle.std.specs.Option.{IfSome}
use Rattle.gathering.specs.declared.Row.{Row}
use Rattle.gathering.specs.Gathering.{Chooses, Extreme, joined_all, zipped}
use Rattle.gathering.specs.Zips.{length-zipped, get_or-zipped}

module _ {before : ℕ → ℕ → Type 0} {f : ℕ → ℕ → ℕ} (rule : Chooses before f) {X : Type 0} (op : X → X → X) (counts : X → List ℕ) (places : (x y : X) → counts (op x y) ≡ zipped f (counts x) (counts y)) (k : ℕ) where
  abbrev at : X → ℕ
  at x = get_or (counts x) k 0

  -- the place k of what is joined
  joined : (x y : X) → k < length (counts (op x y)) → (k < length (counts x)) × (at (op x y) ≡ f (at x) (at y))
  joined x y h =
      let long : length (counts (op x y)) ≡ min (length (counts x)) (length (counts y)) = ap length (places x y) ∙ length-zipped f (counts x) (counts y) in
      (omega arith, ap (λ l. get_or l k 0) (places x y) ∙ get_or-zipped f (counts x) (counts y) k 0 (omega arith) (omega arith))

  within : (a : X) (xs : List X) → k < length (counts (fold op a xs)) → k < length (counts a)
  within a [] h = h
  within a (x ∷ xs) h = (joined a x (within (op a x) xs h)).0

  bound : (a : X) (xs : List X) → k < length (counts (fold op a xs)) → before (at (fold op a xs)) (at a)
  bound a [] h = rule.itself (at a)
  bound a (x ∷ xs) h =
      let j = (joined a x (within (op a x) xs h)).1 in
      rule.chain _ (at (op a x)) _ (bound (op a x) xs h) (subst (λ m. before m (at a)) (sym j) (rule.first (at a) (at x)))

  bounds : (a : X) (xs : List X) → k < length (counts (fold op a xs)) → (j : ℕ) (d : X) → j < length (a ∷ xs) → before (at (fold op a xs)) (at (get_or (a ∷ xs) j d))
  bounds a xs h zero d w = bound a xs h
  bounds a [] h (suc j) d w = absurd (omega arith)
  bounds a (x ∷ xs) h (suc zero) d w =
      let j = (joined a x (within (op a x) xs h)).1 in
      rule.chain _ (at (op a x)) _ (bound (op a x) xs h) (subst (λ m. before m (at x)) (sym j) (rule.second (at a) (at x)))
  bounds a (x ∷ xs) h (suc (suc j)) d w = bounds (op a x) xs h (suc j) d (omega arith)

  some : (a : X) (xs : List X) → k < length (counts (fold op a xs)) → (j : ℕ) × (j < length (a ∷ xs)) × ((d : X) → at (get_or (a ∷ xs) j d) ≡ at (fold op a xs))
  some a [] h = (0, omega arith, λ d. refl)
  some a (x ∷ xs) h = go (some (op a x) xs h)
    where
      e : at (op a x) ≡ f (at a) (at x)
      e = (joined a x (within (op a x) xs h)).1

      go : (j : ℕ) × (j < length (op a x ∷ xs)) × ((d : X) → at (get_or (op a x ∷ xs) j d) ≡ at (fold op (op a x) xs)) → (j : ℕ) × (j < length (a ∷ x ∷ xs)) × ((d : X) → at (get_or (a ∷ x ∷ xs) j d) ≡ at (fold op (op a x) xs))
      go (zero, w, s) = elim (rule.one_of (at a) (at x)) [ inl p ↦ (0, omega arith, λ d. sym (e ∙ p) ∙ s d) | inr p ↦ (1, omega arith, λ d. sym (e ∙ p) ∙ s d) ]
      go (suc j, w, s) = (suc (suc j), omega arith, s)

  pub extreme : (a : X) (xs : List X) → k < length (counts (fold op a xs)) → Extreme before at (a ∷ xs) (at (fold op a xs))
  extreme a xs h = (bounds a xs h, some a xs h)

pub gathered_extreme : {before : ℕ → ℕ → Type 0} {f : ℕ → ℕ → ℕ} → Chooses before f →
    (rows : List Row) (r : Option Row) → r ≡ joined_all (λ x y. record { counts = zipped f x.counts y.counts }) rows →
    IfSome r (λ x. length x.counts ≡ 16) →
    MatchOption r (length rows ≡ 0) (λ row. (k : ℕ) → k < 16 → Extreme before (λ x. get_or x.counts k 0) rows (get_or row.counts k 0))
gathered_extreme rule [] r e h = rw e refl
gathered_extreme {f = f} rule (a ∷ xs) r e h =
    let op : Row → Row → Row = λ x y. record { counts = zipped f x.counts y.counts } in
    let long : length (fold op a xs).counts ≡ 16 = rw e at h in
    rw e (λ k l. extreme rule op (λ x. x.counts) (λ x y. refl) k a xs (omega arith))
