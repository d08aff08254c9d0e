-- The verdict of a walk over comparisons, and of the six walks.
use Rattle.std.proofs.Common.{◌≡◌, ℕ, zero, suc, ◌≤◌, Bool, true, false, leb, List, [], ◌∷◌, Some, None, Decides, Option, refl, inl, inr, arith}
use Rattle.std.proofs.lemmas.Bool.{cases_eq, leb-true, le-leb, false≢true}
use Rattle.std.proofs.lemmas.Bool.Decides.{Decides-like}
use Rattle.causality.specs.declared.Event.{Event}
use Rattle.causality.specs.Newest.{Mem}
use Rattle.causality.specs.Traces.{events_at}
use Rattle.causality.specs.Relations.{AtEvery, AtSome, first_at, last_at, joint_past, whole_past, first_reach, joint_reach, Six}
use Rattle.causality.proofs.Newest.{any_left, any_right, any_cases}
use Rattle.causality.proofs.Relations.{relations_by_cuts, indexed_nodes}
use Rattle.relating.specs.Walks.{at_index, comparisons, every_walk, some_walk, walk, Holds, WalksDecide}

-- ---- walks over any comparisons

every_walk_decides : (bs : List Bool) → Decides (every_walk bs).0 ((b : Bool) → Mem b bs → b ≡ true)
every_walk_decides [] = ((λ _ b m. absurd m), λ _. refl)
every_walk_decides (true ∷ bs) =
    let rec = every_walk_decides bs in
    ((λ h b m. elim m [ inl e ↦ rw (← e) refl | inr l ↦ rec.0 h b l ]), λ h. rec.1 (λ b m. h b (inr m)))
every_walk_decides (false ∷ bs) = ((λ h. absurd (false≢true h)), λ h. h false (inl refl))

some_walk_decides : (bs : List Bool) → Decides (some_walk bs).0 (Mem true bs)
some_walk_decides [] = ((λ h. absurd (false≢true h)), λ m. absurd m)
some_walk_decides (true ∷ bs) = ((λ _. inl refl), λ _. refl)
some_walk_decides (false ∷ bs) =
    let rec = some_walk_decides bs in
    ((λ h. inr (rec.0 h)), λ m. elim m [ inl e ↦ absurd (false≢true e) | inr l ↦ rec.1 l ])

-- ---- the comparisons of the nodes 1 to n

at_index_out : (o : Option ℕ) (test : ℕ → Bool) (b : Bool) → Mem b (at_index o test) → (k : ℕ) × (o ≡ Some k) × (test k ≡ b)
at_index_out None test b m = absurd m
at_index_out (Some k) test b m = elim m [ inl e ↦ (k, refl, e) | inr z ↦ absurd z ]

module _ (o : ℕ → Option ℕ) (test : ℕ → ℕ → Bool) where
  comparisons_in : (n i k : ℕ) → 1 ≤ i → i ≤ n → o i ≡ Some k → Mem (test i k) (comparisons o test n)
  comparisons_in zero i k l m e = absurd (omega arith)
  comparisons_in (suc n) i k l m e =
      elim (cases_eq (suc n) i) [
        | inl h ↦ any_right _ (comparisons o test n) _ (rw h (rw e (inl refl)))
        | inr h ↦ any_left _ (comparisons o test n) _ (comparisons_in n i k l (omega arith) e)
      ]

  comparisons_out : (n : ℕ) (b : Bool) → Mem b (comparisons o test n) → (i : ℕ) × (k : ℕ) × (o i ≡ Some k) × (test i k ≡ b)
  comparisons_out zero b m = absurd m
  comparisons_out (suc n) b m =
      elim (any_cases _ (comparisons o test n) _ m) [
        | inl l ↦ comparisons_out n b l
        | inr l ↦ let (k, e, t) = at_index_out (o (suc n)) (test (suc n)) b l in (suc n, k, e, t)
      ]

  module _ (P : ℕ → ℕ → Type 0) (each : (i k : ℕ) → Decides (test i k) (P i k)) (n : ℕ) (within : (i k : ℕ) → o i ≡ Some k → (1 ≤ i) × (i ≤ n)) where
    every_decides : Decides (every_walk (comparisons o test n)).0 (AtEvery o P)
    every_decides =
        let walked = every_walk_decides (comparisons o test n) in (
          (λ h i k e. let (l, m) = within i k e in (each i k).0 (walked.0 h (test i k) (comparisons_in n i k l m e))),
          λ h. walked.1 (λ b m. let (i, k, e, t) = comparisons_out n b m in rw (← t) ((each i k).1 (h i k e))),
        )

    some_decides : Decides (some_walk (comparisons o test n)).0 (AtSome o P)
    some_decides =
        let walked = some_walk_decides (comparisons o test n) in (
          (λ h. let (i, k, e, t) = comparisons_out n true (walked.0 h) in (i, k, e, (each i k).0 t)),
          λ (i, k, e, p). let (l, m) = within i k e in walked.1 (rw ((each i k).1 p) at (comparisons_in n i k l m e)),
        )

-- ---- the six walks

decides_leb : (a b : ℕ) → Decides (leb a b) (a ≤ b)
decides_leb a b = (leb-true a b, le-leb a b)

module _ (vs : List Event) (n : ℕ) (nodes : (i x : ℕ) → Mem x (events_at vs i) → (1 ≤ i) × (i ≤ n)) where
  firsts : (xs : List ℕ) (i k : ℕ) → first_at vs xs i ≡ Some k → (1 ≤ i) × (i ≤ n)
  firsts xs i k e = let (u, _, m) = indexed_nodes vs xs i k (inl e) in nodes i u m

  lasts : (xs : List ℕ) (i k : ℕ) → last_at vs xs i ≡ Some k → (1 ≤ i) × (i ≤ n)
  lasts xs i k e = let (u, _, m) = indexed_nodes vs xs i k (inr e) in nodes i u m

  six_decide : (x : ℕ) (xs : List ℕ) (y : ℕ) (ys : List ℕ) → Six vs x xs y ys → (r : ℕ) → 1 ≤ r → r ≤ 6 → Decides (walk r vs n x xs y ys).0 (Holds r vs x xs y ys)
  six_decide x xs y ys six zero l m = absurd (omega arith)
  six_decide x xs y ys six (suc zero) l m = Decides-like _ six.r1.1 six.r1.0 (every_decides _ _ _ (λ i k. decides_leb k (joint_past vs y ys i)) n (lasts (x ∷ xs)))
  six_decide x xs y ys six (suc (suc zero)) l m = Decides-like _ six.r2.1 six.r2.0 (every_decides _ _ _ (λ i k. decides_leb k (whole_past vs y ys i)) n (lasts (x ∷ xs)))
  six_decide x xs y ys six (suc (suc (suc zero))) l m = Decides-like _ six.r2p.1 six.r2p.0 (some_decides _ _ _ (λ i k. decides_leb (joint_reach vs x xs i) k) n (lasts (y ∷ ys)))
  six_decide x xs y ys six (suc (suc (suc (suc zero)))) l m = Decides-like _ six.r3.1 six.r3.0 (some_decides _ _ _ (λ i k. decides_leb k (joint_past vs y ys i)) n (firsts (x ∷ xs)))
  six_decide x xs y ys six (suc (suc (suc (suc (suc zero))))) l m = Decides-like _ six.r3p.1 six.r3p.0 (every_decides _ _ _ (λ i k. decides_leb (first_reach vs x xs i) k) n (firsts (y ∷ ys)))
  six_decide x xs y ys six (suc (suc (suc (suc (suc (suc zero)))))) l m = Decides-like _ six.r4.1 six.r4.0 (some_decides _ _ _ (λ i k. decides_leb k (whole_past vs y ys i)) n (firsts (x ∷ xs)))
  six_decide x xs y ys six (suc (suc (suc (suc (suc (suc (suc r))))))) l m = absurd (omega arith)

pub walks_decide : WalksDecide
walks_decide vs orderly n nodes x xs y ys lx ly = six_decide vs n nodes x xs y ys (relations_by_cuts vs orderly x xs y ys lx ly)
