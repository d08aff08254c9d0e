-- Sets of events against a number for each node.
--
-- An event stands at one place or more: index i x is its place at node i, if it stands there. R i k c compares a place k at
-- node i with a number c, as k ≤ c for a past. Where the comparison tells what stands in relation T to each member of a set,
-- the least or the greatest number of the members tells what stands so to all of them, or to some.
use Rattle.std.proofs.Common.{◌≡◌, ℕ, ◌⊎◌, ◌↔◌, List, [], ◌∷◌, Some, None, Option, refl, subst, inl, inr}
use Rattle.std.specs.List.{AllByRecursion}
use Rattle.causality.specs.Newest.{Any, Mem}
use Rattle.causality.specs.Relations.{joined, merged, joined_if, AtEvery, AtSome}
use Rattle.causality.proofs.Newest.{nothing}

-- P holds of what f joins exactly if it holds of both, or of either
abbrev pub Meets : (ℕ → Type 0) → (ℕ → ℕ → ℕ) → Type 0
Meets P f = (a b : ℕ) → P (f a b) ↔ (P a × P b)

abbrev pub Joins : (ℕ → Type 0) → (ℕ → ℕ → ℕ) → Type 0
Joins P f = (a b : ℕ) → P (f a b) ↔ (P a ⊎ P b)

-- ---- the numbers of all members, joined

module _ (P : ℕ → Type 0) (f : ℕ → ℕ → ℕ) (Q : ℕ → Type 0) (of : ℕ → ℕ) where
  all-joined : Meets P f → (x : ℕ) (xs : List ℕ) → ((u : ℕ) → Mem u (x ∷ xs) → Q u ↔ P (of u)) → AllByRecursion Q (x ∷ xs) ↔ P (joined f of x xs)
  all-joined m x [] each = let e = each x (inl refl) in ((λ h. e.0 h.0), λ h. (e.1 h, tt))
  all-joined m x (u ∷ us) each =
      let e = each x (inl refl) in
      let rec = all-joined m u us (λ w k. each w (inr k)) in
      let both = m (of x) (joined f of u us) in
      ((λ h. both.1 (e.0 h.0, rec.0 h.1)), λ h. let (a, b) = both.0 h in (e.1 a, rec.1 b))

  any_joined : Joins P f → (x : ℕ) (xs : List ℕ) → ((u : ℕ) → Mem u (x ∷ xs) → Q u ↔ P (of u)) → Any Q (x ∷ xs) ↔ P (joined f of x xs)
  any_joined m x [] each = let e = each x (inl refl) in ((λ h. elim h [ inl a ↦ e.0 a | inr z ↦ absurd z ]), λ h. inl (e.1 h))
  any_joined m x (u ∷ us) each =
      let e = each x (inl refl) in
      let rec = any_joined m u us (λ w k. each w (inr k)) in
      let either = m (of x) (joined f of u us) in (
        (λ h. either.1 (elim h [ inl a ↦ inl (e.0 a) | inr b ↦ inr (rec.0 b) ])),
        λ h. elim (either.0 h) [ inl a ↦ inl (e.1 a) | inr b ↦ inr (rec.1 b) ],
      )

-- ---- the places at one node, joined

abbrev IfAll : (ℕ → Type 0) → Option ℕ → Type 0
IfAll P o = (k : ℕ) → o ≡ Some k → P k

abbrev IfAny : (ℕ → Type 0) → Option ℕ → Type 0
IfAny P o = (k : ℕ) × (o ≡ Some k) × P k

module _ (P : ℕ → Type 0) (f : ℕ → ℕ → ℕ) where
  if_all_some : (k : ℕ) → P k → IfAll P (Some k)
  if_all_some k h j e = let same : k ≡ j = cc in subst P same h

  if_any_some : (k : ℕ) → IfAny P (Some k) → P k
  if_any_some k (j, e, h) = let same : j ≡ k = cc in subst P same h

  all-merged : Meets P f → (o p : Option ℕ) → IfAll P (merged f o p) ↔ (IfAll P o × IfAll P p)
  all-merged m None p = ((λ h. ((λ k e. absurd (nothing e)), h)), λ h. h.1)
  all-merged m (Some k) None = ((λ h. (h, λ j e. absurd (nothing e))), λ h. h.0)
  all-merged m (Some k) (Some j) = (
    (λ h. let (a, b) = (m k j).0 (h (f k j) refl) in (if_all_some k a, if_all_some j b)),
    λ (a, b). if_all_some (f k j) ((m k j).1 (a k refl, b j refl)),
  )

  any_merged : Joins P f → (o p : Option ℕ) → IfAny P (merged f o p) ↔ (IfAny P o ⊎ IfAny P p)
  any_merged m None p = ((λ h. inr h), λ h. elim h [ inl (k, e, _) ↦ absurd (nothing e) | inr b ↦ b ])
  any_merged m (Some k) None = ((λ h. inl h), λ h. elim h [ inl a ↦ a | inr (j, e, _) ↦ absurd (nothing e) ])
  any_merged m (Some k) (Some j) = (
    (λ h. elim ((m k j).0 (if_any_some (f k j) h)) [ inl a ↦ inl (k, refl, a) | inr b ↦ inr (j, refl, b) ]),
    λ h. (f k j, refl, (m k j).1 (elim h [ inl a ↦ inl (if_any_some k a) | inr b ↦ inr (if_any_some j b) ])),
  )

-- ---- a set against a number for each node

module _ (index : ℕ → ℕ → Option ℕ) (R : ℕ → ℕ → ℕ → Type 0) where
  -- the numbers c tell of each place whether C holds of the event there
  abbrev pub Measures : (ℕ → Type 0) → (ℕ → ℕ) → Type 0
  Measures C c = (x i k : ℕ) → index i x ≡ Some k → C x ↔ R i k (c i)

  abbrev pub Placed : ℕ → Type 0
  Placed x = (i : ℕ) × (k : ℕ) × (index i x ≡ Some k)

  module _ (C : ℕ → Type 0) (c : ℕ → ℕ) (measures : Measures C c) (f : ℕ → ℕ → ℕ) where
    pub every_node : ((i d : ℕ) → Meets (λ k. R i k d) f) → (xs : List ℕ) → AllByRecursion Placed xs → AllByRecursion C xs ↔ AtEvery (λ i. joined_if f (index i) xs) (λ i k. R i k (c i))
    every_node m [] placed = ((λ _ i k e. absurd (nothing e)), λ _. tt)
    every_node m (x ∷ xs) ((i, k, e), placed) =
        let rec = every_node m xs placed in
        let both : (j : ℕ) → IfAll (λ n. R j n (c j)) (joined_if f (index j) (x ∷ xs)) ↔ (IfAll (λ n. R j n (c j)) (index j x) × IfAll (λ n. R j n (c j)) (joined_if f (index j) xs)) = λ j.
        all-merged (λ n. R j n (c j)) f (m j (c j)) (index j x) (joined_if f (index j) xs) in (
          (λ h j. (both j).1 ((λ n g. (measures x j n g).0 h.0), rec.0 h.1 j)),
          λ g. ((measures x i k e).1 (((both i).0 (g i)).0 k e), rec.1 (λ j. ((both j).0 (g j)).1)),
        )

    pub some-node : ((i d : ℕ) → Joins (λ k. R i k d) f) → (xs : List ℕ) → AllByRecursion Placed xs → Any C xs ↔ AtSome (λ i. joined_if f (index i) xs) (λ i k. R i k (c i))
    some-node m [] placed = ((λ h. absurd h), λ h. absurd (nothing h.2))
    some-node m (x ∷ xs) ((i, k, e), placed) =
        let rec = some-node m xs placed in
        let either : (j : ℕ) → IfAny (λ n. R j n (c j)) (joined_if f (index j) (x ∷ xs)) ↔ (IfAny (λ n. R j n (c j)) (index j x) ⊎ IfAny (λ n. R j n (c j)) (joined_if f (index j) xs)) = λ j.
        any_merged (λ n. R j n (c j)) f (m j (c j)) (index j x) (joined_if f (index j) xs) in (
          (λ h. elim h [
            | inl a ↦ let (n, g, r) = (either i).1 (inl (k, e, (measures x i k e).0 a)) in (i, n, g, r)
            | inr b ↦ let (j, n, g, r) = rec.0 b in let (n', g', r') = (either j).1 (inr (n, g, r)) in (j, n', g', r')
          ]),
          λ (j, n, g, r). elim ((either j).0 (n, g, r)) [ inl (n', g', r') ↦ inl ((measures x j n' g').1 r') | inr (n', g', r') ↦ inr (rec.1 (j, n', g', r')) ],
        )

  -- T u x: x stands in relation T to the member u of a set; `of u` measures it
  module _ (T : ℕ → ℕ → Type 0) (of : ℕ → ℕ → ℕ) (s : ℕ) (ss : List ℕ) (each : (u : ℕ) → Mem u (s ∷ ss) → Measures (T u) (of u)) (f : ℕ → ℕ → ℕ) where
    pub to_all : ((i k : ℕ) → Meets (R i k) f) → Measures (λ x. AllByRecursion (λ u. T u x) (s ∷ ss)) (λ i. joined f (λ u. of u i) s ss)
    to_all m x i k e = all-joined (R i k) f (λ u. T u x) (λ u. of u i) (m i k) s ss (λ u h. each u h x i k e)

    pub to_any : ((i k : ℕ) → Joins (R i k) f) → Measures (λ x. Any (λ u. T u x) (s ∷ ss)) (λ i. joined f (λ u. of u i) s ss)
    to_any m x i k e = any_joined (R i k) f (λ u. T u x) (λ u. of u i) (m i k) s ss (λ u h. each u h x i k e)
