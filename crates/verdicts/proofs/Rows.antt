-- Walks that go on behind the comparisons made so far, and the comparisons of two rows.
use Rattle.std.proofs.Common.{◌≡◌, ℕ, zero, suc, ◌+◌, ◌<◌, ◌≤◌, min, Bool, true, false, cond, not, List, [], ◌∷◌, ◌++◌, length, get_or, Option, sym, refl, ap, ◌∙◌, ap₂, inl, inr, append_assoc, add-one, arith}
use mathlib.Core.Bool.{beq}
use Rattle.std.proofs.lemmas.List.{append-nil, get_or_past}
use Rattle.std.proofs.lemmas.Bool.{cases_eq, cases_lt, and_from, le-leb, ne_eqb, true≢false, false≢true}
use Rattle.causality.specs.Limits.{is_node}
use Rattle.gathering.specs.declared.Row.{Row}
use Rattle.records.specs.Summaries.{at_node, present}
use Rattle.relating.specs.Walks.{at_index, comparisons, one_more}
use Rattle.relating.proofs.Agreements.{comparisons_agree}
use Rattle.verdicts.specs.Verdicts.{row_comparisons, walk_until}

-- ---- walks over any comparisons

-- a walk that was not stopped goes on with what follows
goes_on : (stop : Bool) (bs cs : List Bool) → (walk_until stop bs).0 ≡ not stop →
    walk_until stop (bs ++ cs) ≡ ((walk_until stop cs).0, (walk_until stop bs).1 + (walk_until stop cs).1)
goes_on true [] cs e = ap (λ (k : ℕ). ((walk_until true cs).0, k)) (omega arith)
goes_on true (true ∷ bs) cs e = absurd (true≢false e)
goes_on true (false ∷ bs) cs e = ap one_more (goes_on true bs cs e) ∙ ap (λ (k : ℕ). ((walk_until true cs).0, k)) (omega arith)
goes_on false [] cs e = ap (λ (k : ℕ). ((walk_until false cs).0, k)) (omega arith)
goes_on false (true ∷ bs) cs e = ap one_more (goes_on false bs cs e) ∙ ap (λ (k : ℕ). ((walk_until false cs).0, k)) (omega arith)
goes_on false (false ∷ bs) cs e = absurd (false≢true e)

-- a comparison stops the walk if it comes out as `stop`
first_step : (stop b : Bool) (cs : List Bool) → walk_until stop (b ∷ cs) ≡ cond (beq b stop) (stop, 1) (one_more (walk_until stop cs))
first_step true true cs = refl
first_step true false cs = refl
first_step false true cs = refl
first_step false false cs = refl

pub none_made : (stop : Bool) → walk_until stop [] ≡ (not stop, 0)
none_made true = refl
none_made false = refl

-- ---- comparisons of rows

module _ (indexes : Row) (c : ℕ → ℕ → Bool) (bounds : Row) where
  abbrev index_at : ℕ → ℕ
  index_at i = get_or indexes.counts i 0

  abbrev test_at : ℕ → Bool
  test_at i = c (index_at i) (get_or bounds.counts i 0)

  abbrev compared_to : ℕ → List Bool
  compared_to n = row_comparisons indexes c bounds n

  one-compared : (i : ℕ) → (index_at i ≡ 0 → ⊥) → compared_to (i + 1) ≡ compared_to i ++ (test_at i ∷ [])
  one-compared i some = rw (add-one, ne_eqb (index_at i) 0 some) refl

  none-compared : (i : ℕ) → index_at i ≡ 0 → compared_to (suc i) ≡ compared_to i
  none-compared i none = rw (none, append-nil) refl

  -- the comparisons at n nodes begin with those at the first m
  begin : (m n : ℕ) → m ≤ n → (rest : List Bool) × (compared_to n ≡ compared_to m ++ rest)
  begin m zero l = let e : m ≡ 0 = omega arith in ([], rw e refl)
  begin m (suc n) l =
      elim (cases_eq m (suc n)) [
        | inl e ↦ ([], rw e (sym (append-nil _)))
        | inr e ↦
            let (rest, same) = begin m n (omega arith) in
            let more = at_index (present (index_at n)) (λ k. c k (get_or bounds.counts n 0)) in
            (rest ++ more, rw same (append_assoc (compared_to m) rest more))
      ]

  -- behind the end of the row no comparison is made
  within-row : (n : ℕ) → compared_to n ≡ compared_to (min (length indexes.counts) n)
  within-row zero = let e : min (length indexes.counts) 0 ≡ 0 = omega arith in rw e refl
  within-row (suc n) =
      elim (cases_lt n (length indexes.counts)) [
        | inl l ↦ let e : min (length indexes.counts) (suc n) ≡ suc n = omega arith in rw e refl
        | inr l ↦
            let e : min (length indexes.counts) (suc n) ≡ min (length indexes.counts) n = omega arith in
            rw e (none-compared n (get_or_past indexes.counts n 0 l) ∙ within-row n)
      ]

  -- a walk that was not stopped at the first i nodes, and made `steps` comparisons there
  module _ (stop : Bool) (i steps : ℕ) (so_far : walk_until stop (compared_to i) ≡ (not stop, steps)) where
    onward : (cs : List Bool) (v : Bool) (k : ℕ) → walk_until stop cs ≡ (v, k) → walk_until stop (compared_to i ++ cs) ≡ (v, steps + k)
    onward cs v k e = goes_on stop (compared_to i) cs (ap (λ (a : Bool × ℕ). a.0) so_far) ∙ ap₂ (λ (a b : Bool × ℕ). (b.0, a.1 + b.1)) so_far e

    pub absent : index_at i ≡ 0 → walk_until stop (compared_to (i + 1)) ≡ (not stop, steps)
    absent none = rw (add-one, none-compared i none) so_far

    pub missed : (index_at i ≡ 0 → ⊥) → beq (test_at i) stop ≡ false → walk_until stop (compared_to (i + 1)) ≡ (not stop, steps + 1)
    missed some other =
        rw (one-compared i some) (onward (test_at i ∷ []) (not stop) 1 (rw (first_step stop (test_at i) [], other, none_made stop) refl))

    pub met : (index_at i ≡ 0 → ⊥) → beq (test_at i) stop ≡ true → (n : ℕ) → i < n → walk_until stop (compared_to n) ≡ (stop, steps + 1)
    met some same n l =
        let (rest, split) = begin (i + 1) n (omega arith) in
        rw (split, one-compared i some, append_assoc) (onward (test_at i ∷ rest) stop 1 (rw (first_step stop (test_at i) rest, same) refl))

    pub ended : (n : ℕ) → i ≡ min (length indexes.counts) n → walk_until stop (compared_to n) ≡ (not stop, steps)
    ended n e = rw (within-row n, ← e) so_far

-- rows that have the indexes and bounds of a trace at its nodes have its comparisons
pub rows_compared : {o : ℕ → Option ℕ} {bound : ℕ → ℕ} (n : ℕ) (indexes : Row) (c : ℕ → ℕ → Bool) (bounds : Row) →
    ((i : ℕ) → is_node n i ≡ true → present (at_node indexes i) ≡ o i) → ((i : ℕ) → is_node n i ≡ true → at_node bounds i ≡ bound i) →
    row_comparisons indexes c bounds n ≡ comparisons o (λ i k. c k (bound i)) n
rows_compared {o} n indexes c bounds index_is bound-is =
    let node : (i : ℕ) → 1 ≤ i → i ≤ n → is_node n i ≡ true = λ i l m. and_from _ _ (le-leb 1 i l) (le-leb i n m) in
    comparisons_agree _ o _ _ n (λ i l m. (index_is i (node i l m), λ k. ap (c k) (bound-is i (node i l m))))
