-- The entries of a node, from the oldest up, are its timeline turned round.
use Rattle.std.proofs.Common.{◌≡◌, ℕ, zero, suc, ◌+◌, ◌<◌, ◌≤◌, Bool, List, [], ◌∷◌, length, get_or, drop, map, slice_get, Some, None, refl, ap, ◌∙◌, sym, inl, inr, add-one, arith, drop-cons}
use mathlib.Core.List.{reverse_aux}
use Rattle.std.specs.List.{filter, enumerate_from}
use Rattle.std.specs.Option.{option_map}
use Rattle.std.proofs.lemmas.Bool.{cases_Bool}
use Rattle.std.proofs.lemmas.Bool.Decides.{nat_tests}
use Rattle.std.proofs.lemmas.List.{drop_all}
use Rattle.causality.specs.Newest.{entry}
use Rattle.causality.specs.Entries.{at_either, timeline, at}
use Rattle.causality.proofs.Newest.{entry_head, entry-tail, entry-kth, entry-mem}
use Rattle.causality.proofs.Pasts.{at_low}
use Rattle.link_clock.specs.declared.Link.{Link}
use Rattle.link_clock.specs.Links.{no_link, takes_of, all_takes}
use Rattle.link_clock.proofs.Links.{length_takes}

-- ---- lists turned round

entry-none : (xs : List ℕ) (n : ℕ) → length xs ≤ n → entry xs n ≡ None
entry-none [] n l = refl
entry-none (x ∷ xs) n l = let rec = entry-none xs n (omega arith) in grind (arith, nat_tests, rec)

entry-below : (xs acc : List ℕ) (n : ℕ) → n < length acc → entry (reverse_aux xs acc) n ≡ entry acc n
entry-below [] acc n l = refl
entry-below (x ∷ xs) acc n l = entry-below xs (x ∷ acc) n (omega arith) ∙ entry-tail x acc n l

entry-turned : (xs acc : List ℕ) (n : ℕ) → entry (reverse_aux xs acc) (length acc + n) ≡ slice_get xs n
entry-turned [] acc n = entry-none acc (length acc + n) (omega arith)
entry-turned (x ∷ xs) acc zero =
    let same : length acc + 0 ≡ length acc = omega arith in
    ap (entry (reverse_aux xs (x ∷ acc))) same ∙ entry-below xs (x ∷ acc) (length acc) (omega arith) ∙ entry_head x acc
entry-turned (x ∷ xs) acc (suc n) =
    let same : length acc + suc n ≡ length (x ∷ acc) + n = omega arith in
    ap (entry (reverse_aux xs (x ∷ acc))) same ∙ entry-turned xs (x ∷ acc) n

get-map : {X Y : Type 0} (f : X → Y) (xs : List X) (n : ℕ) → option_map f (slice_get xs n) ≡ slice_get (map f xs) n
get-map f [] n = refl
get-map f (x ∷ xs) zero = refl
get-map f (x ∷ xs) (suc n) = get-map f xs n

-- ---- the entries at node i

module _ (links : List Link) (i : ℕ) where
  abbrev pub stands_at : ℕ × Link → Bool
  stands_at p = at_either p.1.entry.node p.1.entry.partner i

  -- the numbers of those from k on
  abbrev from : ℕ → List ℕ
  from k = map (λ p. p.0) (filter stands_at (enumerate_from k (drop k links)))

  turned : (j k : ℕ) → k + j ≡ length links → timeline (all_takes links) i ≡ reverse_aux (from k) (timeline (takes_of links k) i)
  turned zero k e =
      let end : k ≡ length links = omega arith in
      rw (drop_all k links (omega arith)) (ap (λ n. timeline (takes_of links n) i) (sym end))
  turned (suc j) k e =
      let rec = turned j (suc k) (omega arith) in
      elim (cases_Bool (stands_at (k, get_or links k no_link))) [
        | inl s ↦ rw (drop-cons links k no_link (omega arith), add-one, s) (rw (s, length_takes links k) at rec)
        | inr s ↦ rw (drop-cons links k no_link (omega arith), add-one, s) (rw s at rec)
      ]

  pub found-at : (n : ℕ) → option_map (λ p. p.0) (slice_get (filter stands_at (enumerate_from 0 links)) n) ≡ at (all_takes links) i (n + 1)
  found-at n =
      let up : n ≡ length {A = ℕ} [] + n = omega arith in
      get-map (λ p. p.0) (filter stands_at (enumerate_from 0 links)) n
      ∙ sym (ap (λ c. entry c n) (turned (length links) 0 (omega arith)) ∙ ap (entry (reverse_aux (from 0) [])) up ∙ entry-turned (from 0) [] n)
      ∙ sym (entry-kth (timeline (all_takes links) i) n)
      ∙ ap (at (all_takes links) i) (sym (add-one n))

  pub found-low : (n x : ℕ) → at (all_takes links) i (n + 1) ≡ Some x → x < length links
  found-low n x e =
      let ts = all_takes links in
      let there = sym (entry-kth (timeline ts i) n) ∙ ap (at ts i) (sym (add-one n)) ∙ e in
      omega (arith, at_low ts x i (entry-mem (timeline ts i) n x there), length_takes links (length links))
