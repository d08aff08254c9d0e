-- Records in rising order of their keys, over any total order of keys that tells apart all that is not the same.
--
--   Rising cmp key xs       each record's key is before the next one's
--   Lacks key k xs          no record has the key k
--   Found key k xs i        the record at position i has the key k
--   Stands key k xs r       r is the position of the record with key k, or none and no record has it
--   Gap cmp key k xs i      the keys before position i are before k, and those from i on are after it
--   placed cmp key x xs     xs with x before the first record whose key comes after its own
use Rattle.std.specs.Prelude.{◌≡◌, ℕ, ◌+◌, ◌<◌, ◌≤◌, cond, List, [], ◌∷◌, length, Some, None, Option, ◌≢◌, slice_index_or}
use Rattle.std.specs.declared.cmp.Ordering.{Ordering}
use Rattle.std.specs.Ordering.{is_lt}

abbrev pub Rising : {X K : Type 0} → (K → K → Ordering) → (X → K) → List X → Type 0
Rising {X} cmp key xs = (i : ℕ) (d : X) → i + 1 < length xs → cmp (key (slice_index_or xs i d)) (key (slice_index_or xs (i + 1) d)) ≡ Ordering.Less

abbrev pub Lacks : {X K : Type 0} → (X → K) → K → List X → Type 0
Lacks {X} key k xs = (i : ℕ) (d : X) → i < length xs → key (slice_index_or xs i d) ≢ k

abbrev pub Found : {X K : Type 0} → (X → K) → K → List X → ℕ → Type 0
Found {X} key k xs i = (i < length xs) × ((d : X) → key (slice_index_or xs i d) ≡ k)

abbrev pub Stands : {X K : Type 0} → (X → K) → K → List X → Option ℕ → Type 0
Stands key k xs None = Lacks key k xs
Stands key k xs (Some i) = Found key k xs i

abbrev pub Gap : {X K : Type 0} → (K → K → Ordering) → (X → K) → K → List X → ℕ → Type 0
Gap {X} cmp key k xs i =
    (i ≤ length xs)
    × ((j : ℕ) (d : X) → j < i → cmp (key (slice_index_or xs j d)) k ≡ Ordering.Less)
    × ((j : ℕ) (d : X) → i ≤ j → j < length xs → cmp (key (slice_index_or xs j d)) k ≡ Ordering.Greater)

abbrev pub placed : {X K : Type 0} → (K → K → Ordering) → (X → K) → X → List X → List X
placed cmp key x [] = x ∷ []
placed cmp key x (y ∷ ys) = cond (is_lt (cmp (key x) (key y))) (x ∷ y ∷ ys) (y ∷ placed cmp key x ys)
