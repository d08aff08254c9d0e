-- Lists kept newest first: their numbers, what a test picks of them, and the same lists turned round.
use Rattle.std.proofs.Common.{◌≡◌, ℕ, suc, ◌+◌, ◌-◌, ◌<◌, Bool, true, false, eqb, ◌⊎◌, List, [], ◌∷◌, ◌++◌, reverse, length, Some, None, sym, refl, ap, ◌∙◌, subst, inl, inr, append_assoc, arith, length-append}
use mathlib.Core.List.{reverse_aux, reverse-append}
use Rattle.std.specs.List.{AllByRecursion}
use Rattle.std.proofs.lemmas.List.{length-reverse}
use Rattle.std.proofs.ByRecursion.{All-weaker}
use Rattle.std.proofs.lemmas.Bool.{cases_Bool, cases_eq, cases_order, eq-eqb}
use Rattle.std.proofs.lemmas.Bool.Decides.{nat_tests}
use Rattle.causality.specs.Newest.{entry, kth, picked, numbers, tally, Any, Mem}

pub nothing : {X : Type 0} {x : X} → None ≡ Some x → ⊥
nothing e = let z : ◌≡◌ {A = ℕ} 0 1 = cc in omega arith

-- ---- elements by number

module _ {X : Type 0} where
  pub entry_head : (x : X) (xs : List X) → entry (x ∷ xs) (length xs) ≡ Some x
  entry_head x xs = rw (eq-eqb (length xs) (length xs) refl)

  pub entry-tail : (x : X) (xs : List X) (n : ℕ) → n < length xs → entry (x ∷ xs) n ≡ entry xs n
  entry-tail x xs n h = grind (arith, nat_tests)

  pub entry-low : (xs : List X) (n : ℕ) (x : X) → entry xs n ≡ Some x → n < length xs
  entry-low [] n x e = absurd (nothing e)
  entry-low (y ∷ ys) n x e = let rec = entry-low ys n x in grind (arith, nat_tests, rec)

  -- an element is the newest, or one of the rest
  pub entry_cases : (x : X) (xs : List X) (n : ℕ) (y : X) → entry (x ∷ xs) n ≡ Some y → ((n ≡ length xs) × (x ≡ y)) ⊎ ((n < length xs) × (entry xs n ≡ Some y))
  entry_cases x xs n y e = let low = entry-low xs n y in grind (arith, nat_tests, low)

  pub entry_up : (x : X) (xs : List X) (n : ℕ) (y : X) → entry xs n ≡ Some y → entry (x ∷ xs) n ≡ Some y
  entry_up x xs n y e = entry-tail x xs n (entry-low xs n y e) ∙ e

  pub entry-some : (xs : List X) (n : ℕ) → n < length xs → (x : X) × (entry xs n ≡ Some x)
  entry-some [] n l = absurd (omega arith)
  entry-some (x ∷ xs) n l =
      elim (cases_eq n (length xs)) [
        | inl h ↦ (x, rw h (entry_head x xs))
        | inr h ↦ let (y, f) = entry-some xs n (omega arith) in (y, entry_up x xs n y f)
      ]

  pub all-entry : (P : X → Type 0) (xs : List X) (n : ℕ) (x : X) → AllByRecursion P xs → entry xs n ≡ Some x → P x
  all-entry P [] n x all e = absurd (nothing e)
  all-entry P (y ∷ ys) n x (h, all) e =
      elim (entry_cases y ys n x e) [ inl (_, same) ↦ subst P same h | inr (_, f) ↦ all-entry P ys n x all f ]

  pub entry-mem : (xs : List X) (n : ℕ) (x : X) → entry xs n ≡ Some x → Mem x xs
  entry-mem [] n x e = absurd (nothing e)
  entry-mem (y ∷ ys) n x e = elim (entry_cases y ys n x e) [ inl (_, same) ↦ inl same | inr (_, f) ↦ inr (entry-mem ys n x f) ]

  pub mem-entry : (xs : List X) (x : X) → Mem x xs → (n : ℕ) × (entry xs n ≡ Some x)
  mem-entry [] x m = absurd m
  mem-entry (y ∷ ys) x (inl e) = (length ys, entry_head y ys ∙ ap Some e)
  mem-entry (y ∷ ys) x (inr m) = let (n, e) = mem-entry ys x m in (n, entry_up y ys n x e)

  -- the k-th is number k - 1
  pub kth-entry : (xs : List X) (k : ℕ) (x : X) → kth xs k ≡ Some x → (0 < k) × (entry xs (k - 1) ≡ Some x)
  kth-entry xs k x e = grind (arith, nat_tests)

  pub entry-kth : (xs : List X) (n : ℕ) → kth xs (suc n) ≡ entry xs n
  entry-kth xs n = let k : suc n - 1 ≡ n = omega arith in let z : eqb (suc n) 0 ≡ false = grind (arith, nat_tests) in rw (k, z)

-- ---- elements of joined lists

module _ {X : Type 0} (P : X → Type 0) where
  pub any_left : (xs ys : List X) → Any P xs → Any P (xs ++ ys)
  any_left (x ∷ xs) ys (inl h) = inl h
  any_left (x ∷ xs) ys (inr h) = inr (any_left xs ys h)
  any_left [] ys h = absurd h

  pub any_right : (xs ys : List X) → Any P ys → Any P (xs ++ ys)
  any_right [] ys h = h
  any_right (x ∷ xs) ys h = inr (any_right xs ys h)

  pub any_cases : (xs ys : List X) → Any P (xs ++ ys) → Any P xs ⊎ Any P ys
  any_cases [] ys h = inr h
  any_cases (x ∷ xs) ys (inl h) = inl (inl h)
  any_cases (x ∷ xs) ys (inr h) = elim (any_cases xs ys h) [ inl k ↦ inl (inr k) | inr k ↦ inr k ]

-- ---- a list around one of its elements

module _ {X : Type 0} where
  pub entry_split : (xs : List X) (n : ℕ) (x : X) → entry xs n ≡ Some x → (newer : List X) × (older : List X) × (xs ≡ newer ++ (x ∷ older)) × (length older ≡ n)
  entry_split [] n x e = absurd (nothing e)
  entry_split (y ∷ ys) n x e =
      elim (entry_cases y ys n x e) [
        | inl (h, same) ↦ ([], ys, ap (λ z. z ∷ ys) same, sym h)
        | inr (_, f) ↦ let (newer, older, split, number) = entry_split ys n x f in (y ∷ newer, older, ap (λ zs. y ∷ zs) split, number)
      ]

  pub reverse_split : (newer older : List X) (x : X) → reverse (newer ++ (x ∷ older)) ≡ reverse older ++ (x ∷ reverse newer)
  reverse_split newer older x =
      reverse-append newer (x ∷ older) ∙ ap (λ zs. zs ++ reverse newer) (reverse-append (x ∷ []) older) ∙ append_assoc (reverse older) (x ∷ []) (reverse newer)

  module _ {Y : Type 0} (f : X → List X → Y) (p : X → Bool) where
    pub length-picked : (xs : List X) → length (picked f p xs) ≡ tally p xs
    length-picked [] = refl
    length-picked (x ∷ xs) = elim (cases_Bool (p x)) [ inl h ↦ rw h (ap suc (length-picked xs)) | inr h ↦ rw h (length-picked xs) ]

    -- what is picked of an element stands behind as many as are picked of those older than it
    pub picked_split : (newer older : List X) (x : X) → p x ≡ true → entry (picked f p (newer ++ (x ∷ older))) (tally p older) ≡ Some (f x older)
    picked_split [] older x h = rw h (rw (← length-picked older) (entry_head (f x older) (picked f p older)))
    picked_split (y ∷ ys) older x h =
        let rec = picked_split ys older x h in
        elim (cases_Bool (p y)) [ inl k ↦ rw k (entry_up (f y (ys ++ (x ∷ older))) (picked f p (ys ++ (x ∷ older))) (tally p older) (f x older) rec) | inr k ↦ rw k rec ]

module _ {X : Type 0} (p : X → Bool) where
  pub tally-append : (xs ys : List X) → tally p (xs ++ ys) ≡ tally p xs + tally p ys
  tally-append [] ys = omega arith
  tally-append (x ∷ xs) ys =
      let rec = tally-append xs ys in
      elim (cases_Bool (p x)) [ inl h ↦ rw h (omega arith) | inr h ↦ rw h rec ]

  tally_turned : (xs ys : List X) → tally p (reverse_aux xs ys) ≡ tally p xs + tally p ys
  tally_turned [] ys = omega arith
  tally_turned (x ∷ xs) ys =
      let rec = tally_turned xs (x ∷ ys) in
      rec ∙ elim (cases_Bool (p x)) [ inl h ↦ rw h (omega arith) | inr h ↦ rw h ]

  pub tally-reverse : (xs : List X) → tally p (reverse xs) ≡ tally p xs
  tally-reverse xs = tally_turned xs [] ∙ omega arith

-- ---- the numbers of the elements that pass

-- each number is above all behind it
abbrev pub Descending : List ℕ → Type 0
Descending [] = Unit {0}
Descending (z ∷ zs) = AllByRecursion (λ x. x < z) zs × Descending zs

pub entry-order : (c : List ℕ) → Descending c → (m n x y : ℕ) → entry c m ≡ Some x → entry c n ≡ Some y → m < n → x < y
entry-order [] d m n x y e f l = absurd (nothing e)
entry-order (z ∷ zs) (top, d) m n x y e f l =
    elim (entry_cases z zs m x e) [
      | inl (h, _) ↦ absurd (omega (arith, entry-low (z ∷ zs) n y f))
      | inr (_, e') ↦ elim (entry_cases z zs n y f) [
        | inl (_, same) ↦ subst (λ w. x < w) same (all-entry (λ w. w < z) zs m x top e')
        | inr (_, f') ↦ entry-order zs d m n x y e' f' l
      ]
    ]

pub entry-once : (c : List ℕ) → Descending c → (m n x : ℕ) → entry c m ≡ Some x → entry c n ≡ Some x → m ≡ n
entry-once c d m n x e f =
    elim (cases_order m n) [
      | inl h ↦ h
      | inr (inl l) ↦ absurd (omega (arith, entry-order c d m n x x e f l))
      | inr (inr l) ↦ absurd (omega (arith, entry-order c d n m x x f e l))
    ]

module _ {X : Type 0} (p : X → Bool) where
  pub numbers_out : (xs : List X) (n : ℕ) → Mem n (numbers p xs) → (x : X) × (entry xs n ≡ Some x) × (p x ≡ true)
  numbers_out [] n m = absurd m
  numbers_out (y ∷ ys) n m =
      elim (cases_Bool (p y)) [
        | inl h ↦ elim (rw h at m) [
          | inl e ↦ (y, rw (← e) (entry_head y ys), h)
          | inr r ↦ let (x, e, k) = numbers_out ys n r in (x, entry_up y ys n x e, k)
        ]
        | inr h ↦ let (x, e, k) = numbers_out ys n (rw h at m) in (x, entry_up y ys n x e, k)
      ]

  pub numbers_up : (y : X) (ys : List X) (n : ℕ) → Mem n (numbers p ys) → Mem n (numbers p (y ∷ ys))
  numbers_up y ys n m = elim (cases_Bool (p y)) [ inl h ↦ rw h (inr m) | inr h ↦ rw h m ]

  pub numbers_in : (xs : List X) (n : ℕ) (x : X) → entry xs n ≡ Some x → p x ≡ true → Mem n (numbers p xs)
  numbers_in [] n x e h = absurd (nothing e)
  numbers_in (y ∷ ys) n x e h =
      elim (entry_cases y ys n x e) [
        | inl (k, same) ↦ let here : p y ≡ true = rw same h in rw here (inl (sym k))
        | inr (_, f) ↦ numbers_up y ys n (numbers_in ys n x f h)
      ]

  pub numbers_down : (y : X) (ys : List X) (n : ℕ) → n < length ys → Mem n (numbers p (y ∷ ys)) → Mem n (numbers p ys)
  numbers_down y ys n l m = let (x, e, h) = numbers_out (y ∷ ys) n m in numbers_in ys n x (sym (entry-tail y ys n l) ∙ e) h

  pub numbers-low : (xs : List X) (n : ℕ) → Mem n (numbers p xs) → n < length xs
  numbers-low xs n m = let (x, e, _) = numbers_out xs n m in entry-low xs n x e

  below : (xs : List X) → AllByRecursion (λ n. n < length xs) (numbers p xs)
  below [] = tt
  below (x ∷ xs) =
      let older = All-weaker (λ n. n < length xs) (λ n. n < suc (length xs)) (λ n h. omega arith) (numbers p xs) (below xs) in
      elim (cases_Bool (p x)) [ inl h ↦ rw h (omega arith, older) | inr h ↦ rw h older ]

  pub numbers_descend : (xs : List X) → Descending (numbers p xs)
  numbers_descend [] = tt
  numbers_descend (x ∷ xs) = elim (cases_Bool (p x)) [ inl h ↦ rw h (below xs, numbers_descend xs) | inr h ↦ rw h (numbers_descend xs) ]

  -- a number stands behind as many as those of the older elements that pass
  pub numbers_split : (newer older : List X) (x : X) (n : ℕ) → entry (numbers p (newer ++ (x ∷ older))) n ≡ Some (length older) → p x ≡ true → n ≡ tally p older
  numbers_split newer older x n e h =
      entry-once _ (numbers_descend (newer ++ (x ∷ older))) n (tally p older) (length older) e (picked_split (λ _ us. length us) p newer older x h)

-- ---- the list turned round

module _ {X : Type 0} where
  pub entry_middle : (newer older : List X) (x : X) → entry (newer ++ (x ∷ older)) (length older) ≡ Some x
  entry_middle [] older x = entry_head x older
  entry_middle (y ∷ ys) older x = entry_up y (ys ++ (x ∷ older)) (length older) x (entry_middle ys older x)

  turned_middle : (newer older : List X) (x : X) → length (newer ++ (x ∷ older)) - 1 - length older ≡ length (reverse newer)
  turned_middle newer older x = omega (arith, length-append newer (x ∷ older), length-reverse newer)

  pub entry_turned : (xs : List X) (n : ℕ) (x : X) → entry xs n ≡ Some x → entry (reverse xs) (length xs - 1 - n) ≡ Some x
  entry_turned xs n x e = let (newer, older, split, number) = entry_split xs n x e in rw (← number) (subst (λ ys. entry (reverse ys) (length ys - 1 - length older) ≡ Some x) (sym split) (turn newer older))
    where
      turn : (newer older : List X) → entry (reverse (newer ++ (x ∷ older))) (length (newer ++ (x ∷ older)) - 1 - length older) ≡ Some x
      turn newer older = rw (turned_middle newer older x, reverse_split newer older x) (entry_middle (reverse older) (reverse newer) x)

  -- the n-th of those that pass is the n-th from their end
  pub numbers_turned : (p : X → Bool) (xs : List X) (n x : ℕ) → entry (numbers p xs) n ≡ Some x → entry (numbers p (reverse xs)) (tally p xs - 1 - n) ≡ Some (length xs - 1 - x)
  numbers_turned p xs n x e =
      let (v, f, h) = numbers_out p xs x (entry-mem (numbers p xs) n x e) in
      let (newer, older, split, number) = entry_split xs x v f in
      rw (← number) (subst (λ ys. entry (numbers p (reverse ys)) (tally p ys - 1 - n) ≡ Some (length ys - 1 - length older)) (sym split)
      (turn v h newer older (subst (λ ys. entry (numbers p ys) n ≡ Some (length older)) split (e ∙ ap Some (sym number)))))
    where
      turn : (v : X) → p v ≡ true → (newer older : List X) → entry (numbers p (newer ++ (v ∷ older))) n ≡ Some (length older) →
          entry (numbers p (reverse (newer ++ (v ∷ older)))) (tally p (newer ++ (v ∷ older)) - 1 - n) ≡ Some (length (newer ++ (v ∷ older)) - 1 - length older)
      turn v h newer older e =
          let total : tally p (newer ++ (v ∷ older)) ≡ tally p newer + suc (tally p older) = tally-append p newer (v ∷ older) ∙ rw h refl in
          let k : tally p (newer ++ (v ∷ older)) - 1 - n ≡ tally p (reverse newer) = omega (arith, total, tally-reverse p newer, numbers_split p newer older v n e h) in
          rw (k, turned_middle newer older v, reverse_split newer older v) (picked_split (λ _ us. length us) p (reverse older) (reverse newer) v h)
