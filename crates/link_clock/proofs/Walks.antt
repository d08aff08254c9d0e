-- A walk back from an entry meets its past.
use Rattle.std.proofs.Common.{◌≡◌, ℕ, zero, suc, ◌+◌, ◌<◌, ◌≤◌, Bool, true, false, cond, ◌&&◌, ◌||◌, ◌≢◌, List, [], ◌∷◌, length, get_or, set, replicate, sym, refl, ap, ◌∙◌, inl, inr, add-one, arith, length-set}
use mathlib.Core.Bool.{or_assoc, or_comm, or-false}
use Rattle.std.specs.List.{AllByRecursion}
use Rattle.std.proofs.lemmas.List.{get_or-set_same, get_or-set_other, get_or-replicate, length-replicate}
use Rattle.std.proofs.lemmas.Bool.{cases_Bool, cases_eq, ne_eqb}
use Rattle.causality.specs.Newest.{tally}
use Rattle.causality.specs.Entries.{at_either, timeline, in_some, past}
use Rattle.causality.proofs.Pasts.{pasts-lawful}
use Rattle.clock.specs.Meaning.{max_entries}
use Rattle.link_clock.specs.declared.Link.{Link}
use Rattle.link_clock.specs.Links.{no_link, takes_of, all_takes, before, marked, visited, met, reached, Walked}
use Rattle.link_clock.proofs.Links.{length_takes, earlier-all, Linked}

-- ---- tests

or_turn : (a b c : Bool) → (a || (b || c)) ≡ ((b || a) || c)
or_turn a b c = sym (or_assoc a b c) ∙ ap (λ (d : Bool). d || c) (or_comm a b)

or_twice : (a b c : Bool) → (a || c) ≡ (a || ((b && a) || c))
or_twice true b c = refl
or_twice false true c = refl
or_twice false false c = refl

-- ---- what marks reach

length_marked : (marks : List Bool) (xs : List ℕ) → length (marked marks xs) ≡ length marks
length_marked marks [] = refl
length_marked marks (x ∷ xs) = length_marked (set marks x true) xs ∙ length-set marks x true

module _ (p : ℕ → ℕ → Bool) (y : ℕ) where
  -- no mark below k, or none that matters
  reached-none : (marks : List Bool) (k : ℕ) → ((z : ℕ) → z < k → (get_or marks z false && p z y) ≡ false) → reached p marks k y ≡ false
  reached-none marks zero h = refl
  reached-none marks (suc k) h = rw (h k (omega arith)) (reached-none marks k (λ z l. h z (omega arith)))

  reached-past : (marks : List Bool) (x k : ℕ) → k ≤ x → reached p (set marks x true) k y ≡ reached p marks k y
  reached-past marks x zero l = refl
  reached-past marks x (suc k) l =
      let ne : k ≢ x = omega arith in
      rw (get_or-set_other marks x k true false ne, reached-past marks x k (omega arith))

  reached-set : (marks : List Bool) (x k : ℕ) → x < k → k ≤ length marks → reached p (set marks x true) k y ≡ (p x y || reached p marks k y)
  reached-set marks x zero l h = absurd (omega arith)
  reached-set marks x (suc k) l h =
      elim (cases_eq k x) [
        | inl q ↦ rw (q, get_or-set_same marks x true false (omega arith), reached-past marks x x (omega arith)) (or_twice (p x y) (get_or marks x false) (reached p marks x y))
        | inr q ↦ rw (get_or-set_other marks x k true false q, reached-set marks x k (omega arith) (omega arith)) (or_turn (get_or marks k false && p k y) (p x y) (reached p marks k y) ∙ or_assoc (p x y) _ _)
      ]

  reached-marked : (k : ℕ) (xs : List ℕ) → AllByRecursion (λ x. x < k) xs → (marks : List Bool) → k ≤ length marks → reached p (marked marks xs) k y ≡ (in_some p xs y || reached p marks k y)
  reached-marked k [] all marks h = refl
  reached-marked k (x ∷ xs) (l, all) marks h =
      reached-marked k xs all (set marks x true) (omega (arith, length-set marks x true))
      ∙ ap (λ (b : Bool). in_some p xs y || b) (reached-set marks x k l h)
      ∙ or_turn (in_some p xs y) (p x y) (reached p marks k y)

-- ---- counting a set that holds nothing above e

tally_older : (links : List Link) (p : ℕ → Bool) (e i : ℕ) → ((z : ℕ) → e < z → p z ≡ false) → (k : ℕ) → e < k →
    tally p (timeline (takes_of links k) i) ≡ tally p (timeline (takes_of links (suc e)) i)
tally_older links p e i high zero l = absurd (omega arith)
tally_older links p e i high (suc k) l =
    elim (cases_eq e k) [
      | inl q ↦ rw q
      | inr q ↦
          let rec = tally_older links p e i high k (omega arith) in
          elim (cases_Bool (at_either (get_or links k no_link).entry.node (get_or links k no_link).entry.partner i)) [
            | inl s ↦ rw (s, length_takes links k, high k (omega arith)) rec
            | inr s ↦ rw s rec
          ]
    ]

-- one count more where a mark stands
one_hit : (b : Bool) (n : ℕ) → cond (b && true) 1 0 + n ≡ cond b (suc n) n
one_hit true n = omega arith
one_hit false n = omega arith

no_hit : (b : Bool) (n : ℕ) → cond (b && false) 1 0 + n ≡ n
no_hit true n = omega arith
no_hit false n = omega arith

-- ---- the walk

module _ (links : List Link) (e i : ℕ) (linked : Linked links (length links)) (e-low : e < length links) (small : length links ≤ max_entries) where
  abbrev P : ℕ → ℕ → Bool
  P = past (all_takes links)

  high : (z y : ℕ) → z < y → P z y ≡ false
  high z y l = elim (cases_Bool (P z y)) [ inl h ↦ absurd (omega (arith, (pasts-lawful (all_takes links)).no_higher z y h)) | inr h ↦ h ]

  pub walked_start : Walked links e i (set (replicate max_entries false) e true) (e + 1) 0
  walked_start = record {
    size = length-set (replicate max_entries false) e true ∙ length-replicate max_entries false;
    low = omega arith;
    small = omega arith;
    left = λ y l.
        let none = reached-none P y (replicate max_entries false) (suc e) (λ z l. rw (get_or-replicate max_entries z false false (omega arith))) in
        rw (add-one, reached-set P y (replicate max_entries false) e (suc e) (omega arith) (omega (arith, length-replicate max_entries false)), none) (or-false (P e y));
    counted = rw add-one (omega (arith, tally_older links (P e) e i (λ z. high e z) (length links) e-low));
  }

  module _ (marks : List Bool) (z count : ℕ) (w : Walked links e i marks (suc z) count) where
    -- an entry is marked when the walk comes to it exactly if it lies in the past
    told : get_or marks z false ≡ P e z
    told =
        let own = (pasts-lawful (all_takes links)).own z (omega (arith, length_takes links (length links), w.low)) in
        let rest = reached-none P z marks z (λ y l. elim (cases_Bool (get_or marks y false)) [ inl s ↦ rw (s, high y z l) | inr s ↦ rw s ]) in
        elim (cases_Bool (get_or marks z false)) [
          | inl s ↦ let h = w.left z (omega arith) in s ∙ rw (s, own) at h
          | inr s ↦ let h = w.left z (omega arith) in s ∙ rw (s, rest) at h
        ]

    counted-more : cond (met links marks z i) 1 0 + tally (P e) (timeline (takes_of links z) i) ≡ tally (P e) (timeline (takes_of links (suc z)) i)
    counted-more =
        elim (cases_Bool (at_either (get_or links z no_link).entry.node (get_or links z no_link).entry.partner i)) [
          | inl s ↦ rw (s, length_takes links z, ← told) (one_hit (get_or marks z false) _)
          | inr s ↦ rw s (no_hit (get_or marks z false) _)
        ]

    left-more : (y : ℕ) → y < z → reached P (visited links marks z) z y ≡ P e y
    left-more y l =
        let link = get_or links z no_link in
        let here = w.left y (omega arith) in
        elim (cases_Bool (get_or marks z false)) [
          | inl s ↦
              let on : (P z y || reached P marks z y) ≡ P e y = rw s at here in
              let step : P z y ≡ in_some P (before link) y = linked.step z y (omega (arith, w.low)) ∙ rw (ne_eqb y z (omega arith)) in
              rw s (reached-marked P y z (before link) (earlier-all z link (linked.low z (omega (arith, w.low)))) marks (omega (arith, w.size)) ∙ rw step at on)
          | inr s ↦ rw s (rw s at here)
        ]

    pub walked_step : Walked links e i (visited links marks z) z (count + cond (met links marks z i) 1 0)
    walked_step = record {
      size = elim (cases_Bool (get_or marks z false)) [ inl s ↦ rw s (length_marked marks (before (get_or links z no_link)) ∙ w.size) | inr s ↦ rw s w.size ];
      low = omega (arith, w.low);
      small = elim (cases_Bool (get_or marks z false && at_either (get_or links z no_link).entry.node (get_or links z no_link).entry.partner i)) [
        | inl s ↦ rw s (omega (arith, w.small))
        | inr s ↦ rw s (omega (arith, w.small))
      ];
      left = left-more;
      counted = omega (arith, w.counted, counted-more);
    }
