-- Rows that are written number by number.
use Rattle.std.proofs.Common.{◌≡◌, ℕ, zero, suc, ◌<◌, ◌≤◌, List, [], ◌∷◌, ◌++◌, length, get_or, take, drop, set, sym, refl, ap, ◌∙◌, subst, ap₂, append_assoc, arith, length-append, drop-cons, inl, inr}
use Rattle.std.proofs.Math.Seq.{get_or-append_seam}
use Rattle.std.proofs.lemmas.Bool.{cases_eq}
use Rattle.std.proofs.lemmas.List.{append-nil, drop_all, length-take-le, ext_get_or, get_or_append_left}
use Rattle.history.specs.Answers.{row}

pub length-row : (f : ℕ → ℕ) (n : ℕ) → length (row f n) ≡ n
length-row f zero = refl
length-row f (suc n) = length-append (row f n) (f (suc n) ∷ []) ∙ omega (arith, length-row f n)

pub get_or-row : (f : ℕ → ℕ) (n i : ℕ) → i < n → get_or (row f n) i 0 ≡ f (suc i)
get_or-row f zero i l = absurd (omega arith)
get_or-row f (suc n) i l =
    elim (cases_eq i n) [
      | inl e ↦ ap (λ (k : ℕ). get_or (row f n ++ (f (suc n) ∷ [])) k 0) (e ∙ sym (length-row f n)) ∙ get_or-append_seam (row f n) (f (suc n)) [] 0 ∙ ap (λ (k : ℕ). f (suc k)) (sym e)
      | inr e ↦ get_or_append_left (row f n) (f (suc n) ∷ []) 0 i (omega (arith, length-row f n)) ∙ get_or-row f n i (omega arith)
    ]

-- a list that has f of each node is the row of f
pub row_is : (f : ℕ → ℕ) (n : ℕ) (xs : List ℕ) → length xs ≡ n → ((i : ℕ) → i < n → get_or xs i 0 ≡ f (suc i)) → xs ≡ row f n
row_is f n xs long at = ext_get_or 0 xs (row f n) (long ∙ sym (length-row f n)) (λ i l. at i (omega arith) ∙ sym (get_or-row f n i (omega arith)))

pub row_like : (f g : ℕ → ℕ) (n : ℕ) → ((i : ℕ) → 1 ≤ i → i ≤ n → f i ≡ g i) → row f n ≡ row g n
row_like f g zero h = refl
row_like f g (suc n) h = ap₂ (λ (xs : List ℕ) (y : ℕ). xs ++ (y ∷ [])) (row_like f g n (λ i l k. h i l (omega arith))) (h (suc n) (omega arith) (omega arith))

set-behind : {X : Type 0} (xs ys : List X) (y v : X) → set (xs ++ (y ∷ ys)) (length xs) v ≡ xs ++ (v ∷ ys)
set-behind [] ys y v = refl
set-behind {X} (x ∷ xs) ys y v = ap (λ (zs : List X). x ∷ zs) (set-behind xs ys y v)

pub row_more : (f : ℕ → ℕ) (i : ℕ) (old : List ℕ) → i < length old → set (row f i ++ drop i old) i (f (suc i)) ≡ row f (suc i) ++ drop (suc i) old
row_more f i old low =
    ap (λ (zs : List ℕ). set (row f i ++ zs) i (f (suc i))) (drop-cons old i 0 low)
    ∙ subst (λ (n : ℕ). set (row f i ++ (get_or old i 0 ∷ drop (suc i) old)) n (f (suc i)) ≡ row f i ++ (f (suc i) ∷ drop (suc i) old)) (length-row f i) (set-behind (row f i) (drop (suc i) old) (get_or old i 0) (f (suc i)))
    ∙ sym (append_assoc (row f i) (f (suc i) ∷ []) (drop (suc i) old))

-- a row written in the front of an array, whose rest stays
pub row_all : (f : ℕ → ℕ) (i n : ℕ) (xs old : List ℕ) → i ≡ n → n ≤ length old → xs ≡ row f i ++ drop i (take n old) → xs ++ drop n old ≡ row f n ++ drop n old
row_all f i n xs old e low is =
    let front : row f i ++ drop i (take n old) ≡ row f n =
    rw (e, drop_all n (take n old) (omega (arith, length-take-le n old low))) (append-nil (row f n)) in
    ap (λ (zs : List ℕ). zs ++ drop n old) (is ∙ front)
