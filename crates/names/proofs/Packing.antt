-- A name in eight places, and the number that they write.
use Rattle.std.proofs.Common.{◌≡◌, ℕ, zero, suc, ◌+◌, ◌*◌, ◌^◌, ◌<◌, ◌≤◌, true, false, ◌&&◌, leb, List, [], ◌∷◌, ◌++◌, length, get_or, drop, replicate, sym, refl, ◌∙◌, inl, inr, arith}
use Rattle.std.specs.List.{list_all}
use Rattle.std.proofs.lemmas.List.{at_drop_more, drop_all, get_or_past, get_or-drop}
use Rattle.std.proofs.lemmas.List.Recursion.{same_from_clauses}
use Rattle.std.proofs.lemmas.Bool.{and_left, and_right, cases_lt, lt-leb, le-leb}
use Rattle.history.specs.History.{is_letter, all_letters, is_name}
use Rattle.names.specs.Names.{value, packed}

-- ---- what is a name

pub no_name : (bs : List ℕ) → (1 ≤ length bs → length bs ≤ 8 → ⊥) → is_name bs ≡ false
no_name bs unfit = elim (cases_lt (length bs) 1) [
  | inl h ↦ and_left (leb 1 (length bs)) _ (lt-leb 1 (length bs) h)
  | inr some ↦ elim (cases_lt 8 (length bs)) [
    | inl h ↦ and_right (leb 1 (length bs)) _ (and_left (leb (length bs) 8) _ (lt-leb (length bs) 8 h))
    | inr few ↦ absurd (unfit some few)
  ]
]

pub no_letters : (bs : List ℕ) → all_letters bs ≡ false → is_name bs ≡ false
no_letters bs h = and_right (leb 1 (length bs)) _ (and_right (leb (length bs) 8) _ h)

pub a_name : (bs : List ℕ) → 0 < length bs → length bs ≤ 8 → all_letters bs ≡ true → is_name bs ≡ true
a_name bs f g h = rw (le-leb 1 (length bs) f, le-leb (length bs) 8 g, h)

-- what `all` answers of the bytes
pub each_letter : (bs : List ℕ) → list_all is_letter bs ≡ all_letters bs
each_letter bs = same_from_clauses (list_all is_letter) all_letters (λ b t. is_letter b && t) refl (λ _ _. refl) (λ _ _. refl) bs

-- ---- a name in front of zeros

abbrev pub zeros : ℕ → List ℕ
zeros n = replicate n 0

no-byte : (n k : ℕ) → get_or (zeros n) k 0 ≡ 0
no-byte zero k = get_or_past (zeros 0) k 0 (omega arith)
no-byte (suc n) zero = refl
no-byte (suc n) (suc k) = no-byte n k

pub padded : (bs : List ℕ) (n m k : ℕ) → get_or (bs ++ drop m (zeros n)) k 0 ≡ get_or bs k 0
padded [] n m k = get_or-drop m (zeros n) k 0 ∙ no-byte n (m + k) ∙ sym (get_or_past (zeros 0) k 0 (omega arith))
padded (b ∷ bs) n m zero = refl
padded (b ∷ bs) n m (suc k) = padded bs n m k

-- ---- the number of the places

value_none : (n : ℕ) → value n [] ≡ 0
value_none zero = refl
value_none (suc n) = refl

value-next : (bs : List ℕ) (n i : ℕ) → value (suc n) (drop i bs) ≡ get_or bs i 0 * 256 ^ n + value n (drop (i + 1) bs)
value-next bs n i =
    elim (cases_lt i (length bs)) [
      | inl h ↦ at_drop_more (value (suc n)) bs i 0 h
      | inr h ↦ rw (get_or_past bs i 0 h, drop_all i bs h, drop_all (i + 1) bs (omega arith), value_none n) (omega arith)
    ]

pub places_number : (bs places : List ℕ) → ((k : ℕ) → get_or places k 0 ≡ get_or bs k 0) →
    get_or places 0 0 * 72057594037927936 + get_or places 1 0 * 281474976710656 + get_or places 2 0 * 1099511627776 + get_or places 3 0 * 4294967296 + get_or places 4 0 * 16777216 + get_or places 5 0 * 65536 + get_or places 6 0 * 256 + get_or places 7 0 ≡ packed bs
places_number bs places same =
    rw (same 0, same 1, same 2, same 3, same 4, same 5, same 6, same 7) (
    omega (arith, value-next bs 7 0, value-next bs 6 1, value-next bs 5 2, value-next bs 4 3, value-next bs 3 4, value-next bs 2 5, value-next bs 1 6, value-next bs 0 7))
