-- What a search, an insertion and a changed record mean for look-ups.
use Rattle.std.proofs.Common.{◌≡◌, ℕ, zero, suc, ◌+◌, ◌<◌, ◌≤◌, cond, eqb, List, [], ◌∷◌, length, get_or, take, set, Some, None, sym, refl, ap, ◌∙◌, inl, inr, arith}
use Rattle.std.proofs.lemmas.List.{get_or-set_same, get_or-set_other, get_or-take, length-set, length-take, length-take-le}
use Rattle.std.specs.Ordering.{is_lt, nat_cmp}
use Rattle.std.specs.declared.cmp.Ordering.{Ordering}
use Rattle.std.proofs.lemmas.Bool.{cases_Bool, cases_eq, eq-eqb, ne_eqb, eqb-true, eqb-false}
use Rattle.std.proofs.lemmas.Bool.Decides.{nat_tests}
use Rattle.std.proofs.lemmas.Cmp.{nat_cmp_total, ranked}
use Rattle.table.specs.Tables.{Rising, Lacks, placed}
use Rattle.table.specs.Lookups.{lookup}
use Rattle.table.proofs.Searching.{far}

pub nothing : {X : Type 0} {x : X} → Some x ≡ None → ⊥
nothing e = let z : ◌≡◌ {A = ℕ} 0 1 = cc in omega arith

less : (x y : ℕ) → nat_cmp x y ≡ Ordering.Less → x < y
less x y e = ranked x y _ (sym e)

is_less : (x y : ℕ) → x < y → nat_cmp x y ≡ Ordering.Less
is_less x y h = grind (arith, nat_tests)

module _ {X : Type 0} (key : X → ℕ) where
  abbrev pub Up : List X → Type 0
  Up xs = Rising nat_cmp key xs

  pub lacks_lookup : (xs : List X) (k : ℕ) → Lacks key k xs → lookup key xs k ≡ None
  lacks_lookup [] k lacks = refl
  lacks_lookup (x ∷ xs) k lacks =
      rw (ne_eqb (key x) k (λ e. lacks 0 x (omega arith) e)) (lacks_lookup xs k (λ i d l e. lacks (suc i) d (omega arith) e))

  pub lookup_lacks : (xs : List X) (k : ℕ) → lookup key xs k ≡ None → Lacks key k xs
  lookup_lacks [] k e i d l f = omega arith
  lookup_lacks (x ∷ xs) k e zero d l f = nothing (rw (eq-eqb (key x) k f) at e)
  lookup_lacks (x ∷ xs) k e (suc i) d l f =
      elim (cases_Bool (eqb (key x) k)) [ inl s ↦ nothing (rw s at e) | inr s ↦ lookup_lacks xs k (rw s at e) i d (omega arith) f ]

  -- the record at i has the key k, and none before it
  abbrev pub First : List X → ℕ → ℕ → X → Type 0
  First xs i k d = ((j : ℕ) → j < i → key (get_or xs j d) ≡ k → ⊥) × (i < length xs) × (key (get_or xs i d) ≡ k)

  pub first_at : (xs : List X) → Up xs → (i k : ℕ) (d : X) → i < length xs → key (get_or xs i d) ≡ k → First xs i k d
  first_at xs up i k d l e =
      ((λ j h f. omega (arith, e, f, less (key (get_or xs j d)) (key (get_or xs i d)) (far nat_cmp nat_cmp_total key xs up j i d h l))), l, e)

  pub first-lookup : (xs : List X) (i k : ℕ) (d : X) → First xs i k d → lookup key xs k ≡ Some (get_or xs i d)
  first-lookup [] i k d (first, l, e) = absurd (omega arith)
  first-lookup (x ∷ xs) zero k d (first, l, e) = rw (eq-eqb (key x) k e)
  first-lookup (x ∷ xs) (suc i) k d (first, l, e) =
      rw (ne_eqb (key x) k (first 0 (omega arith))) (first-lookup xs i k d ((λ j h. first (suc j) (omega arith)), omega arith, e))

  pub lookup-placed : (x : X) (xs : List X) (m : ℕ) → lookup key xs (key x) ≡ None →
      lookup key (placed nat_cmp key x xs) m ≡ cond (eqb (key x) m) (Some x) (lookup key xs m)
  lookup-placed x [] m e = refl
  lookup-placed x (y ∷ ys) m e =
      elim (cases_Bool (is_lt (nat_cmp (key x) (key y)))) [
        | inl s ↦ rw s refl
        | inr s ↦ rw s (
            elim (cases_Bool (eqb (key y) (key x))) [
              | inl t ↦ absurd (nothing (rw t at e))
              | inr t ↦ rw (lookup-placed x ys m (rw t at e)) (
                  elim (cases_Bool (eqb (key y) m)) [
                    | inl u ↦ rw (u, ne_eqb (key x) m (λ f. eqb-false _ _ t (eqb-true _ _ u ∙ sym f)))
                    | inr u ↦ rw u refl
                  ])
            ])
      ]

  pub lookup-set : (xs : List X) (i k m : ℕ) (d s : X) → First xs i k d → key s ≡ k → lookup key (set xs i s) m ≡ cond (eqb k m) (Some s) (lookup key xs m)
  lookup-set [] i k m d s (first, l, e) f = absurd (omega arith)
  lookup-set (x ∷ xs) zero k m d s (first, l, e) f = rw (f, e) (elim (cases_Bool (eqb k m)) [ inl u ↦ rw u refl | inr u ↦ rw u refl ])
  lookup-set (x ∷ xs) (suc i) k m d s (first, l, e) f =
      rw (lookup-set xs i k m d s ((λ j h. first (suc j) (omega arith)), omega arith, e) f) (
      elim (cases_Bool (eqb (key x) m)) [
        | inl u ↦ rw (u, ne_eqb k m (λ q. first 0 (omega arith) (eqb-true _ _ u ∙ sym q)))
        | inr u ↦ rw u refl
      ])

  -- a record that is changed and keeps its key leaves the order as it was
  module _ (xs : List X) (i : ℕ) (y : X) (within : i < length xs) (same : (d : X) → key (get_or xs i d) ≡ key y) where
    key_set : (k : ℕ) (d : X) → key (get_or (set xs i y) k d) ≡ key (get_or xs k d)
    key_set k d = elim (cases_eq k i) [ inl e ↦ rw e (ap key (get_or-set_same xs i y d within) ∙ sym (same d)) | inr ne ↦ ap key (get_or-set_other xs i k y d ne) ]

    pub rising-set : (len : ℕ) → Up (take len xs) → Up (take len (set xs i y))
    rising-set len up k d h =
        let long : length (take len (set xs i y)) ≡ length (take len xs) = simp (length-take, length-set) in
        let top : k + 1 < len = omega (arith, length-take len xs) in
        let a = ap key (get_or-take len (set xs i y) k d (omega arith)) ∙ (key_set k d ∙ sym (ap key (get_or-take len xs k d (omega arith)))) in
        let b = ap key (get_or-take len (set xs i y) (k + 1) d top) ∙ (key_set (k + 1) d ∙ sym (ap key (get_or-take len xs (k + 1) d top))) in
        is_less (key (get_or (take len (set xs i y)) k d)) (key (get_or (take len (set xs i y)) (k + 1) d)) (omega (arith, a, b, less (key (get_or (take len xs) k d)) (key (get_or (take len xs) (k + 1) d)) (up k d (omega arith))))

pub take-set : {X : Type 0} (n : ℕ) (xs : List X) (i : ℕ) (s : X) → take n (set xs i s) ≡ set (take n xs) i s
take-set zero xs i s = refl
take-set (suc n) [] i s = refl
take-set (suc n) (x ∷ xs) zero s = refl
take-set (suc n) (x ∷ xs) (suc i) s = ap (λ ys. x ∷ ys) (take-set n xs i s)

-- ---- a table as the first `len` records of an array

module _ {X : Type 0} (key : X → ℕ) (records : List X) (len : ℕ) (within : len ≤ length records) (rising : Up key (take len records)) where
  pub inside : (i : ℕ) → i < length (take len records) → i < len
  inside i h = omega (arith, length-take-le len records within)

  module _ (i k : ℕ) (d : X) (low : i < length (take len records)) (here : (e : X) → key (get_or (take len records) i e) ≡ k) where
    here-first : First key (take len records) i k d
    here-first = first_at key (take len records) rising i k d low (here d)

    pub found-lookup : Some (get_or records i d) ≡ lookup key (take len records) k
    found-lookup = ap Some (sym (get_or-take len records i d (inside i low))) ∙ sym (first-lookup key (take len records) i k d here-first)

    -- the record found, changed to one of the same key
    pub changed_lookup : (y : X) → key y ≡ k → (m : ℕ) → lookup key (take len (set records i y)) m ≡ cond (eqb k m) (Some y) (lookup key (take len records) m)
    changed_lookup y e m = ap (λ (xs : List X). lookup key xs m) (take-set len records i y) ∙ lookup-set key (take len records) i k m d y here-first e

    pub changed_rising : (y : X) → key y ≡ k → Up key (take len (set records i y))
    changed_rising y e =
        let low' : i < length records = omega (arith, inside i low) in
        rising-set key records i y low' (λ f. ap key (sym (get_or-take len records i f (inside i low))) ∙ here f ∙ sym e) len rising
