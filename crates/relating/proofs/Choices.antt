-- The least, and the greatest, of two sets are equal where each number that one has the other has too.
use Rattle.std.proofs.Common.{◌≡◌, ℕ, ◌≤◌, min, max, ◌⊎◌, List, [], ◌∷◌, Some, None, Option, refl, ap, subst, inl, inr, arith}
use Rattle.std.proofs.lemmas.Bool.{cases_lt}
use Rattle.causality.specs.Newest.{Mem}
use Rattle.causality.specs.Relations.{joined, merged, joined_if}
use Rattle.causality.proofs.Newest.{nothing}

-- f chooses the one of two numbers that wins by W
pub record Chooses (f : ℕ → ℕ → ℕ) (W : ℕ → ℕ → Type 0) : Type 0 where
  pub one_of : (a b : ℕ) → (f a b ≡ a) ⊎ (f a b ≡ b)
  pub wins : (a b : ℕ) → W (f a b) a × W (f a b) b
  pub itself : (a : ℕ) → W a a
  pub through : (a b c : ℕ) → W a b → W b c → W a c
  pub one_way : (a b : ℕ) → W a b → W b a → a ≡ b

pub min_chooses : Chooses min (λ a b. a ≤ b)
min_chooses = record {
  one_of = λ a b. elim (cases_lt a b) [ inl l ↦ inl (omega arith) | inr l ↦ inr (omega arith) ];
  wins = λ a b. omega arith;
  itself = λ a. omega arith;
  through = λ a b c l m. omega arith;
  one_way = λ a b l m. omega arith;
}

pub max_chooses : Chooses max (λ a b. b ≤ a)
max_chooses = record {
  one_of = λ a b. elim (cases_lt a b) [ inl l ↦ inr (omega arith) | inr l ↦ inl (omega arith) ];
  wins = λ a b. omega arith;
  itself = λ a. omega arith;
  through = λ a b c l m. omega arith;
  one_way = λ a b l m. omega arith;
}

-- each number that `of` gives of xs, of' gives of xs'
abbrev pub Found : (ℕ → Option ℕ) → List ℕ → (ℕ → Option ℕ) → List ℕ → Type 0
Found of xs of' xs' = (u k : ℕ) → Mem u xs → of u ≡ Some k → (u' : ℕ) × Mem u' xs' × (of' u' ≡ Some k)

module _ (f : ℕ → ℕ → ℕ) (W : ℕ → ℕ → Type 0) (chooses : Chooses f W) where
  merged_out : (o p : Option ℕ) (k : ℕ) → merged f o p ≡ Some k → (o ≡ Some k) ⊎ (p ≡ Some k)
  merged_out None p k e = inr e
  merged_out (Some a) None k e = inl e
  merged_out (Some a) (Some b) k e = elim (chooses.one_of a b) [ inl h ↦ inl (cc) | inr h ↦ inr (cc) ]

  merged-left : (a : ℕ) (p : Option ℕ) → (k : ℕ) × (merged f (Some a) p ≡ Some k) × W k a
  merged-left a None = (a, refl, chooses.itself a)
  merged-left a (Some b) = (f a b, refl, (chooses.wins a b).0)

  merged-right : (o : Option ℕ) (b : ℕ) → (k : ℕ) × (merged f o (Some b) ≡ Some k) × W k b
  merged-right None b = (b, refl, chooses.itself b)
  merged-right (Some a) b = (f a b, refl, (chooses.wins a b).1)

  joined_out : (of : ℕ → Option ℕ) (xs : List ℕ) (k : ℕ) → joined_if f of xs ≡ Some k → (u : ℕ) × Mem u xs × (of u ≡ Some k)
  joined_out of [] k e = absurd (nothing e)
  joined_out of (x ∷ xs) k e =
      elim (merged_out (of x) (joined_if f of xs) k e) [
        | inl h ↦ (x, inl refl, h)
        | inr h ↦ let (u, m, g) = joined_out of xs k h in (u, inr m, g)
      ]

  joined_in : (of : ℕ → Option ℕ) (xs : List ℕ) (u j : ℕ) → Mem u xs → of u ≡ Some j → (k : ℕ) × (joined_if f of xs ≡ Some k) × W k j
  joined_in of [] u j m g = absurd m
  joined_in of (x ∷ xs) u j (inl e) g = let here : of x ≡ Some j = rw e g in rw here (merged-left j (joined_if f of xs))
  joined_in of (x ∷ xs) u j (inr m) g =
      let (k, e, w) = joined_in of xs u j m g in
      let (k', e', w') = merged-right (of x) k in
      (k', rw e e', chooses.through k' k j w' w)

  same_options : (o p : Option ℕ) → ((k : ℕ) → o ≡ Some k → (j : ℕ) × (p ≡ Some j) × W j k) → ((j : ℕ) → p ≡ Some j → (k : ℕ) × (o ≡ Some k) × W k j) → o ≡ p
  same_options None None there back = refl
  same_options None (Some j) there back = absurd (nothing (back j refl).1)
  same_options (Some k) None there back = absurd (nothing (there k refl).1)
  same_options (Some k) (Some j) there back =
      let (j', e, w) = there k refl in
      let (k', e', w') = back j refl in
      let j-is : j' ≡ j = cc in
      let k-is : k' ≡ k = cc in
      ap Some (chooses.one_way k j (subst (λ z. W z j) k-is w') (subst (λ z. W z k) j-is w))

  carried : (of of' : ℕ → Option ℕ) (xs xs' : List ℕ) → Found of xs of' xs' → (k : ℕ) → joined_if f of xs ≡ Some k → (j : ℕ) × (joined_if f of' xs' ≡ Some j) × W j k
  carried of of' xs xs' found k e =
      let (u, m, g) = joined_out of xs k e in
      let (u', m', g') = found u k m g in
      joined_in of' xs' u' k m' g'

  pub same-joined_if : (of of' : ℕ → Option ℕ) (xs xs' : List ℕ) → Found of xs of' xs' → Found of' xs' of xs → joined_if f of xs ≡ joined_if f of' xs'
  same-joined_if of of' xs xs' there back = same_options _ _ (carried of of' xs xs' there) (carried of' of xs' xs back)

  joined_always : (of : ℕ → ℕ) (x : ℕ) (xs : List ℕ) → joined_if f (λ u. Some (of u)) (x ∷ xs) ≡ Some (joined f of x xs)
  joined_always of x [] = refl
  joined_always of x (u ∷ us) = rw (joined_always of u us)

  pub same-joined : (of of' : ℕ → ℕ) (x : ℕ) (xs : List ℕ) (x' : ℕ) (xs' : List ℕ) →
      Found (λ u. Some (of u)) (x ∷ xs) (λ u. Some (of' u)) (x' ∷ xs') → Found (λ u. Some (of' u)) (x' ∷ xs') (λ u. Some (of u)) (x ∷ xs) → joined f of x xs ≡ joined f of' x' xs'
  same-joined of of' x xs x' xs' there back =
      let e = same-joined_if (λ u. Some (of u)) (λ u. Some (of' u)) (x ∷ xs) (x' ∷ xs') there back in
      cc (joined_always of x xs, joined_always of' x' xs')
