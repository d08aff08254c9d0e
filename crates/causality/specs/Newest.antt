-- Lists kept newest first, as a trace grows: an element's number is how many elements are older than it.
-- A number therefore never changes when the list grows, and the newest element's number is the length of the rest.
--
--   entry xs n      the element of number n, from 0 and the oldest
--   kth xs k        the k-th element, from 1 and the oldest
--   picked f p xs   what f makes of each element that passes p and of the elements older than it
--   numbers p xs    the numbers of the elements that pass p
--   tally p xs      how many elements pass p
--   has p xs        some element passes p
--   Any P xs        P holds of some element (of each is the library's, as AllByRecursion)
--   Mem x xs        x is an element
use Rattle.std.specs.Prelude.{◌≡◌, ℕ, suc, ◌-◌, Bool, false, cond, ◌||◌, ◌⊎◌, List, [], ◌∷◌, length, Some, None, Option, ◌==◌}

abbrev pub entry : {X : Type 0} → List X → ℕ → Option X
entry [] n = None
entry (x ∷ xs) n = cond (n == length xs) (Some x) (entry xs n)

abbrev pub kth : {X : Type 0} → List X → ℕ → Option X
kth xs k = cond (k == 0) None (entry xs (k - 1))

abbrev pub picked : {X Y : Type 0} → (X → List X → Y) → (X → Bool) → List X → List Y
picked f p [] = []
picked f p (x ∷ xs) = cond (p x) (f x xs ∷ picked f p xs) (picked f p xs)

abbrev pub numbers : {X : Type 0} → (X → Bool) → List X → List ℕ
numbers p xs = picked (λ _ older. length older) p xs

abbrev pub tally : {X : Type 0} → (X → Bool) → List X → ℕ
tally p [] = 0
tally p (x ∷ xs) = cond (p x) (suc (tally p xs)) (tally p xs)

abbrev pub has : {X : Type 0} → (X → Bool) → List X → Bool
has p [] = false
has p (x ∷ xs) = p x || has p xs

abbrev pub Any : {X : Type 0} → (X → Type 0) → List X → Type 0
Any P [] = ⊥
Any P (x ∷ xs) = P x ⊎ Any P xs

abbrev pub Mem : {X : Type 0} → X → List X → Type 0
Mem x xs = Any (λ y. y ≡ x) xs
