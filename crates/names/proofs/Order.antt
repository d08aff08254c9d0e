-- The order of packed names is that of the names.
use Rattle.std.proofs.Common.{◌≡◌, ℕ, zero, suc, ◌+◌, ◌*◌, ◌^◌, ◌<◌, ◌≤◌, true, false, ◌&&◌, ◌||◌, eqb, ltb, leb, List, [], ◌∷◌, length, sym, refl, ap, ◌∙◌, inl, inr, mul-pos, arith, rules}
use native.Mathlib.Nat.{one-le-pow, pow-succ'}
use lib.Arith.{digits_lt}
use Rattle.std.proofs.lemmas.Slice.Eq.{compares_Decides}
use Rattle.std.proofs.lemmas.Bool.{and_parts, or_parts, both_ways, cases_Bool, cases_lt, cases_order, eq-eqb, ne_eqb, eqb-true, lt-ltb, le-ltb, ltb-false, leb-true}
use Rattle.std.proofs.lemmas.Bool.Decides.{nat_tests}
use Rattle.history.specs.History.{is_letter, all_letters, is_name, same_name}
use Rattle.names.specs.Names.{value, packed, comes_before, PackingOrders, PackingKeeps, PackingTells}

weight_pos : (n : ℕ) → 0 < 256 ^ n
weight_pos n = one-le-pow n 256 (omega arith)

letter_some : (b : ℕ) → is_letter b ≡ true → 0 < b
letter_some b h = grind (arith, nat_tests)

letter_fits : (b : ℕ) → is_letter b ≡ true → b < 256
letter_fits b h = grind (arith, nat_tests)

value-fits : (n : ℕ) (bs : List ℕ) → all_letters bs ≡ true → value n bs < 256 ^ n
value-fits zero bs h = weight_pos 0
value-fits (suc n) [] h = weight_pos (suc n)
value-fits (suc n) (b ∷ bs) h =
    let (f, g) = and_parts (is_letter b) (all_letters bs) h in
    rw pow-succ' (digits_lt (letter_fits b f) (value-fits n bs g))

-- two numbers by their first digits and what the rest say
digit_order : (w x y p q : ℕ) → p < w → q < w → ltb (x * w + p) (y * w + q) ≡ (ltb x y || (eqb x y && ltb p q))
digit_order w x y p q f g =
    elim (cases_order x y) [
      | inl e ↦ rw (e, le-ltb y y (omega arith), eq-eqb y y refl) (
          elim (cases_lt p q) [ inl h ↦ rw (lt-ltb p q h) (lt-ltb _ _ (omega arith)) | inr h ↦ rw (le-ltb p q h) (le-ltb _ _ (omega arith)) ])
      | inr o ↦ elim o [
        | inl h ↦ rw (lt-ltb x y h) (lt-ltb _ _ (omega (arith, digits_lt h f)))
        | inr h ↦ rw (le-ltb x y (omega arith), ne_eqb x y (omega arith)) (le-ltb _ _ (omega (arith, digits_lt h g)))
      ]
    ]

value-order : (n : ℕ) (xs ys : List ℕ) → all_letters xs ≡ true → all_letters ys ≡ true → length xs ≤ n → length ys ≤ n →
    ltb (value n xs) (value n ys) ≡ comes_before xs ys
value-order zero [] [] f g h k = refl
value-order zero xs (y ∷ ys) f g h k = absurd (omega arith)
value-order zero (x ∷ xs) [] f g h k = absurd (omega arith)
value-order (suc n) [] [] f g h k = refl
value-order (suc n) (x ∷ xs) [] f g h k = le-ltb _ 0 (omega arith)
value-order (suc n) [] (y ∷ ys) f g h k =
    lt-ltb 0 _ (omega (arith, mul-pos (letter_some y (and_parts (is_letter y) (all_letters ys) g).0) (weight_pos n)))
value-order (suc n) (x ∷ xs) (y ∷ ys) f g h k =
    let f' = (and_parts (is_letter x) (all_letters xs) f).1 in
    let g' = (and_parts (is_letter y) (all_letters ys) g).1 in
    digit_order (256 ^ n) x y _ _ (value-fits n xs f') (value-fits n ys g')
    ∙ ap (λ t. ltb x y || (eqb x y && t)) (value-order n xs ys f' g' (omega arith) (omega arith))

name_letters : (bs : List ℕ) → is_name bs ≡ true → (all_letters bs ≡ true) × (length bs ≤ 8)
name_letters bs h =
    let (f, g) = and_parts (leb (length bs) 8) (all_letters bs) (and_parts (leb 1 (length bs)) _ h).1 in (g, leb-true (length bs) 8 f)

pub orders : PackingOrders
orders x y f g =
    let (fl, fs) = name_letters x f in
    let (gl, gs) = name_letters y g in
    value-order 8 x y fl gl fs gs

-- of two lists neither of which comes first
connected : (xs ys : List ℕ) → comes_before xs ys ≡ false → comes_before ys xs ≡ false → xs ≡ ys
connected [] [] f g = refl
connected [] (y ∷ ys) f g = absurd (both_ways true f refl)
connected (x ∷ xs) [] f g = absurd (both_ways true g refl)
connected (x ∷ xs) (y ∷ ys) f g =
    let (f0, f1) = or_parts (ltb x y) (eqb x y && comes_before xs ys) f in
    let (g0, g1) = or_parts (ltb y x) (eqb y x && comes_before ys xs) g in
    let e : x ≡ y = omega (arith, ltb-false x y f0, ltb-false y x g0) in
    let f2 : comes_before xs ys ≡ false = rw (eq-eqb x y e) at f1 in
    let g2 : comes_before ys xs ≡ false = rw (eq-eqb y x (sym e)) at g1 in
    let r = connected xs ys f2 g2 in
    cc

pub keeps : PackingKeeps
keeps x y f g e = connected x y (sym (orders x y f g) ∙ le-ltb _ _ (omega arith)) (sym (orders y x g f) ∙ le-ltb _ _ (omega arith))

pub tells_same : PackingTells
tells_same x y f g =
    let same = compares_Decides same_name (search rules) x y in
    elim (cases_Bool (eqb (packed x) (packed y))) [
      | inl s ↦ s ∙ sym (same.1 (keeps x y f g (eqb-true _ _ s)))
      | inr s ↦ elim (cases_Bool (same_name x y)) [
        | inl t ↦ absurd (both_ways _ s (eq-eqb _ _ (ap packed (same.0 t))))
        | inr t ↦ s ∙ sym t
      ]
    ]
