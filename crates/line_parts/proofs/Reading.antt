-- Numbers and places at the front of a list: there is at most one, and the digits in front spell it.
use Rattle.std.proofs.Common.{◌≡◌, ℕ, ◌+◌, ◌-◌, ◌*◌, ◌<◌, ◌≤◌, Bool, true, false, not, cond, ltb, List, [], ◌∷◌, ◌++◌, Option, Some, None, Result, Ok, Err, length, get_or, take, drop, decimal, sym, refl, ap, ◌∙◌, inl, inr, subst, append_assoc, append-nil, add-zero, one-add, arith, length-append, length-drop, take-append-drop}
use Rattle.causality.specs.declared.Place.{Place}
use Rattle.std.specs.Option.{unwrap_or}
use Rattle.std.specs.Result.{OkIff, result_ok}
use Rattle.std.specs.Str.Parse.{AllDigits, digits_value, digits_value_after}
use Rattle.std.specs.List.{AllByRecursion, position_or_len}
use Rattle.std.proofs.lemmas.Fmt.{decimal-digits_value, digits_value-decimal, digits_decimal, decimal_digit, decimal_nonempty, first_decimal, decimal_injective, length-decimal-le}
use Rattle.std.proofs.lemmas.Int.Digits.{digits_value_more}
use Rattle.std.proofs.lemmas.List.{drop-drop, get_or-drop, get_or-take, get_or_append_left, length-take-le, take_more, take_rest}
use Rattle.std.proofs.lemmas.Str.{digit_value_digit}
use Rattle.std.proofs.ByRecursion.{All-from_get_or, All-push}
use Rattle.std.proofs.lemmas.Str.Parse.{digit_at, digits_value_short, numerals_by_value, tells_digits, IsNumeralModel}
use Rattle.std.specs.Char.{digit_value}
use Rattle.std.proofs.lemmas.Bool.{both_ways, cases_Bool, cases_lt, lt-ltb, le-ltb}
use Rattle.std.proofs.lemmas.List.Sums.{prefix_len-le-length}
use Rattle.line_parts.specs.Parts.{At, Digit, NumberAt, PlaceAt, Run, Small, SoundPlace, placed}

own : IsNumeralModel (AllDigits 10) (digits_value 10)
own = numerals_by_value (AllDigits 10) tells_digits

own_digits : (ds : List ℕ) → AllByRecursion Digit ds → AllDigits 10 ds
own_digits [] all = tt
own_digits (d ∷ ds) all = (omega (arith, digit_value_digit d all.0), own_digits ds all.1)

-- Values at the front.

pub all_digits : (n : ℕ) → Small n → AllByRecursion Digit (decimal n)
all_digits n small = All-from_get_or Digit (decimal n) 0 (λ i lt. digit_at (decimal n) i (digits_decimal own n (let s = small.1 in omega arith)) lt)

-- two longest runs of one class in one list are one
pub same_run : (C : ℕ → Type 0) (xs ys p q : List ℕ) → AllByRecursion C xs → AllByRecursion C ys → (C (get_or p 0 0) → ⊥) → (C (get_or q 0 0) → ⊥) → xs ++ p ≡ ys ++ q → (xs ≡ ys) × (p ≡ q)
same_run C [] [] p q cx cy sp sq e = (refl, e)
same_run C [] (y ∷ ys) p q cx cy sp sq e = absurd (sp (subst C (sym (ap (λ l. get_or l 0 0) e)) cy.0))
same_run C (x ∷ xs) [] p q cx cy sp sq e = absurd (sq (subst C (ap (λ l. get_or l 0 0) e) cx.0))
same_run C (x ∷ xs) (y ∷ ys) p q cx cy sp sq e =
    let r = same_run C xs ys p q cx.1 cy.1 sp sq (ap (drop 1) e) in
    let h : x ≡ y = ap (λ l. get_or l 0 0) e in
    ((λ i. h i ∷ r.0 i), r.1)

-- a list begins with at most one number
pub same_number : {s : List ℕ} {n m : ℕ} {p q : List ℕ} → NumberAt s n p → NumberAt s m q → (n ≡ m) × (p ≡ q)
same_number {n = n} {m = m} {p = p} {q = q} a b =
    let r = same_run Digit (decimal n) (decimal m) p q (all_digits n a.sound) (all_digits m b.sound) a.stops b.stops (sym a.spelt ∙ b.spelt) in
    let small = a.sound.1 in
    let small' = b.sound.1 in
    (decimal_injective n m (omega arith) (omega arith) r.0, r.1)

-- a place is two numbers
pub node_of : {s : List ℕ} {p : Place} {rest : List ℕ} → PlaceAt s p rest → NumberAt s p.node (46 ∷ (decimal p.index ++ rest))
node_of {p = p} {rest = rest} h = record {
  sound = h.sound.0;
  spelt = h.spelt ∙ append_assoc (decimal p.node) (46 ∷ decimal p.index) rest;
  stops = λ d. let l = d.0 in omega arith;
}

pub index_of : {s : List ℕ} {p : Place} {rest : List ℕ} → PlaceAt s p rest → (t : List ℕ) → t ≡ decimal p.index ++ rest → NumberAt t p.index rest
index_of h t e = record { sound = h.sound.1; spelt = e; stops = h.stops }

-- a list begins with at most one place
pub same_place : {s : List ℕ} {p q : Place} {a b : List ℕ} → PlaceAt s p a → PlaceAt s q b → (p ≡ q) × (a ≡ b)
same_place {p = p} {q = q} {a = a} {b = b} h k =
    let n = same_number (node_of h) (node_of k) in
    let on : decimal p.index ++ a ≡ decimal q.index ++ b = ap (drop 1) n.1 in
    let m = same_number (index_of h _ refl) (index_of k _ on) in
    ((λ i. record { node = n.0 i; index = m.0 i }), m.1)

module _ {A : Type 0} {Good : A → Type 0} {spell : A → List ℕ} {Goes_on : ℕ → Type 0} where
  -- a value with nothing behind it
  pub at_end : {s : List ℕ} → (Goes_on 0 → ⊥) → (v : A) → Good v → s ≡ spell v → At Good spell Goes_on s v []
  at_end stop v sound e = record { sound = sound; spelt = e ∙ sym (append-nil (spell v)); stops = stop }

  -- a value with a space behind it
  pub at_space : {s : List ℕ} → (Goes_on 32 → ⊥) → (v : A) (rest : List ℕ) → get_or rest 0 0 ≡ 32 → Good v → s ≡ spell v ++ rest → At Good spell Goes_on s v rest
  at_space stop v rest space sound e = record { sound = sound; spelt = e; stops = λ d. stop (subst Goes_on space d) }

  -- a value that was read to the end
  pub whole : {s rest : List ℕ} {v : A} → At Good spell Goes_on s v rest → rest ≡ [] → s ≡ spell v
  whole {v = v} h e = h.spelt ∙ ap (λ l. spell v ++ l) e ∙ append-nil (spell v)

pub no_digit : (b : ℕ) → b < 48 → Digit b → ⊥
no_digit b lt d = let l = d.0 in omega arith

pub number_end : {s : List ℕ} (n : ℕ) → Small n → s ≡ decimal n → NumberAt s n []
number_end = at_end (no_digit 0 (omega arith))

pub number_space : {s : List ℕ} (n : ℕ) (rest : List ℕ) → get_or rest 0 0 ≡ 32 → Small n → s ≡ decimal n ++ rest → NumberAt s n rest
number_space = at_space (no_digit 32 (omega arith))

pub place_end : {s : List ℕ} (p : Place) → SoundPlace p → s ≡ placed p → PlaceAt s p []
place_end = at_end (no_digit 0 (omega arith))

pub place_space : {s : List ℕ} (p : Place) (rest : List ℕ) → get_or rest 0 0 ≡ 32 → SoundPlace p → s ≡ placed p ++ rest → PlaceAt s p rest
place_space = at_space (no_digit 32 (omega arith))

-- what such a key begins begins with a space too
pub keyed : (key rest : List ℕ) → get_or key 0 0 ≡ 32 → get_or (key ++ rest) 0 0 ≡ 32
keyed [] rest space = absurd (omega arith)
keyed (k ∷ key) rest space = space

short : (n : ℕ) → Small n → length (decimal n) ≤ 5
short n (pos, small) = length-decimal-le 5 n (omega arith) (omega arith) (omega arith)

-- the digits of a value that fits spell it
spells : (ds : List ℕ) (n : ℕ) → AllByRecursion Digit ds → 0 < length ds → 49 ≤ get_or ds 0 0 → n ≡ digits_value 10 ds → n < 65536 → Small n × (ds ≡ decimal n)
spells ds n all some lo is fits =
    let spelt : decimal n ≡ ds = ap decimal is ∙ decimal-digits_value own ds (own_digits ds all) some (λ e. absurd (omega arith)) (omega arith) in (
      elim (cases_lt 0 n) [
        | inl lt ↦ (lt, fits)
        | inr le ↦ absurd (let zero : n ≡ 0 = omega arith in let e = ap (λ l. get_or l 0 0) (sym spelt ∙ ap decimal zero ∙ decimal_digit 0 (omega arith)) in omega arith)
      ],
      sym spelt,
    )

after_ge : (a : ℕ) (ds : List ℕ) → a ≤ digits_value_after 10 a ds
after_ge a [] = omega arith
after_ge a (d ∷ ds) = let r = after_ge (a * 10 + digit_value d) ds in omega arith

-- digits in front are worth no more than all of them
front_le : (xs ys p q : List ℕ) (a : ℕ) → AllByRecursion Digit xs → (Digit (get_or q 0 0) → ⊥) → xs ++ p ≡ ys ++ q → digits_value_after 10 a xs ≤ digits_value_after 10 a ys
front_le [] ys p q a all stop e = after_ge a ys
front_le (x ∷ xs) [] p q a all stop e = absurd (stop (subst Digit (ap (λ l. get_or l 0 0) e) all.0))
front_le (x ∷ xs) (y ∷ ys) p q a all stop e =
    let h : x ≡ y = ap (λ l. get_or l 0 0) e in
    subst (λ z. digits_value_after 10 (a * 10 + digit_value x) xs ≤ digits_value_after 10 (a * 10 + digit_value z) ys) h (front_le xs ys p q (a * 10 + digit_value x) all.1 stop (ap (drop 1) e))

-- a number begins with 1 to 9
pub begins : (s : List ℕ) (m : ℕ) (rest : List ℕ) → NumberAt s m rest → (0 < length s) × (49 ≤ get_or s 0 0) × (get_or s 0 0 ≤ 57)
begins s m rest h =
    let pos = h.sound.0 in
    let small = h.sound.1 in
    let some = decimal_nonempty m (omega arith) in
    let here : get_or s 0 0 ≡ get_or (decimal m) 0 0 = ap (λ l. get_or l 0 0) h.spelt ∙ get_or_append_left (decimal m) rest 0 0 some in
    let d = digit_at (decimal m) 0 (digits_decimal own m (omega arith)) some in
    (omega (arith, ap length h.spelt, length-append (decimal m) rest), omega (arith, first_decimal m pos (omega arith)), omega arith)

-- The loop over the digits: i of them are read, n is their value, and `rest` is left.

pub record Sofar (s rest : List ℕ) (i n : ℕ) : Type 0 where
  pub within : i ≤ length s
  pub left : rest ≡ drop i s
  pub digits : AllByRecursion Digit (take i s)
  pub is : n ≡ digits_value 10 (take i s)

pub start : (s : List ℕ) → Sofar s s 0 0
start s = record { within = omega arith; left = refl; digits = tt; is = refl }

module _ {s rest : List ℕ} {i n : ℕ} (h : Sofar s rest i n) where
  read_length : length (take i s) ≡ i
  read_length = length-take-le i s h.within

  first_left : get_or rest 0 0 ≡ get_or s i 0
  first_left = ap (λ l. get_or l 0 0) h.left ∙ get_or-drop i s 0 0 ∙ ap (λ k. get_or s k 0) (add-zero i)

  pub few : i ≤ 6 → n < 1000000
  few le = let is = h.is in omega (arith, digits_value_short own (take i s) 6 (own_digits (take i s) h.digits) (omega (arith, read_length)))

  -- one more digit
  pub more : 0 < length rest → Digit (get_or rest 0 0) → Sofar s (take (length rest - 1) (drop 1 rest)) (i + 1) (n * 10 + (get_or rest 0 0 - 48))
  more some d =
      let lt : i < length s = omega (arith, ap length h.left, length-drop i s) in
      let is = h.is in
      record {
        within = omega arith;
        left = take_rest rest 1 ∙ ap (drop 1) h.left ∙ drop-drop 1 i s;
        digits = subst (AllByRecursion Digit) (sym (take_more s i 0 lt)) (All-push Digit (take i s) (get_or s i 0) h.digits (subst Digit first_left d));
        is = omega (arith, digits_value_more 10 s i lt, digit_value_digit (get_or rest 0 0) d, ap digit_value first_left);
      }

  -- their value is a number where it fits and no digit is left
  pub number_here : i ≤ 6 → 0 < length s → 49 ≤ get_or s 0 0 → get_or s 0 0 ≤ 57 → (i < 6 → Digit (get_or rest 0 0) → ⊥) → n < 65536 → NumberAt s n rest
  number_here le some lo hi stop fits = elim (cases_lt 0 i) [
    | inl pos ↦
        let long = read_length in
        let read = spells (take i s) n h.digits (omega arith) (subst (λ x. 49 ≤ x) (sym (get_or-take i s 0 0 pos)) lo) h.is fits in
        record {
          sound = read.0;
          spelt = sym (take-append-drop i s) ∙ ap (λ l. l ++ drop i s) read.1 ∙ ap (λ l. decimal n ++ l) (sym h.left);
          stops = stop (omega (arith, ap length read.1, short n read.0));
        }
    | inr zero ↦ absurd (let none : i ≡ 0 = omega arith in stop (omega arith) (subst Digit (sym first_left) (subst (λ k. Digit (get_or s k 0)) (sym none) (omega arith, hi))))
  ]

  -- and where it does not fit, no number stands in front
  pub too_large : 65536 ≤ n → (m : ℕ) (t : List ℕ) → NumberAt s m t → ⊥
  too_large big m t k =
      let small = k.sound.1 in
      omega (arith, h.is, front_le (take i s) (decimal m) (drop i s) t 0 h.digits k.stops (take-append-drop i s ∙ k.spelt), digits_value-decimal own m (omega arith))

-- what `ok` keeps fits, and what it drops doesn't
pub fits : {E : Type 0} {n v : ℕ} (r : Result ℕ E) → Some n ≡ result_ok r → OkIff r (v < 65536) v → (v < 65536) × (v ≡ n)
fits (Ok x) e f = (f.0, cc)
fits (Err x) e f = absurd cc

pub fits_not : {E : Type 0} {v : ℕ} (r : Result ℕ E) → None ≡ result_ok r → OkIff r (v < 65536) v → 65536 ≤ v
fits_not (Ok x) e f = absurd cc
fits_not {v = v} (Err x) e f = elim (cases_lt v 65536) [ inl lt ↦ absurd (f lt) | inr le ↦ le ]

-- ---- the longest run of one class in front

-- how long it is, as `position` and `unwrap_or` tell
abbrev pub run_len : (ℕ → Bool) → List ℕ → ℕ
run_len test s = position_or_len (λ b. not (test b)) s

module _ (test : ℕ → Bool) (none : test 0 ≡ false) where
  run_cut : (s : List ℕ) → AllByRecursion (λ b. test b ≡ true) (take (run_len test s) s) × (test (get_or (drop (run_len test s) s) 0 0) ≡ true → ⊥)
  run_cut [] = (tt, λ y. both_ways _ none y)
  run_cut (b ∷ s) =
      elim (cases_Bool (test b)) [
        | inl y ↦ let r = run_cut s in rw (y, one-add) ((y, r.0), r.1)
        | inr n ↦ rw n (tt, λ y. both_ways _ n y)
      ]

  pub run : (s : List ℕ) (r : Option ℕ) (n : ℕ) → r ≡ cond (ltb (run_len test s) (length s)) (Some (run_len test s)) None → n ≡ unwrap_or r (length s) → Run (λ b. test b ≡ true) s (take n s) (drop n s)
  run s r n e f =
      let le = prefix_len-le-length (λ b. not (not (test b))) s in
      let at : n ≡ run_len test s = elim (cases_lt (run_len test s) (length s)) [
        | inl h ↦ let some = rw (lt-ltb _ _ h) at e in f ∙ ap (λ o. unwrap_or o (length s)) some
        | inr h ↦ let past = rw (le-ltb _ _ h) at e in f ∙ ap (λ o. unwrap_or o (length s)) past ∙ (let same : length s ≡ run_len test s = omega arith in same)
      ] in
      let r = run_cut s in
      record { whole = take-append-drop n s; all = rw at r.0; stops = rw at r.1 }
