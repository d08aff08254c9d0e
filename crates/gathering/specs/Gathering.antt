-- What a joining makes of a list, and rows joined number by number.
--
--   joined_all op xs     all of xs joined, from the first on; none of an empty list
--   zipped f xs ys       f of the numbers at each place
--   earliest x y         the least of two numbers, where 0 stands for none
--   Chooses before f     f keeps one of two numbers: the one that is first by `before`
--   Extreme before at rows m   m is first, by `before`, among the numbers that `at` gives of the rows, and is one of them
use Rattle.std.specs.Prelude.{◌≡◌, ℕ, ◌<◌, min, cond, ◌⊎◌, ◌==◌, List, [], ◌∷◌, length, Some, None, fold, Option, slice_index_or}

abbrev pub joined_all : {X : Type 0} → (X → X → X) → List X → Option X
joined_all op [] = None
joined_all op (x ∷ xs) = Some (fold op x xs)

abbrev pub zipped : (ℕ → ℕ → ℕ) → List ℕ → List ℕ → List ℕ
zipped f [] ys = []
zipped f (x ∷ xs) [] = []
zipped f (x ∷ xs) (y ∷ ys) = f x y ∷ zipped f xs ys

-- m is first, by `before`, among the numbers that `at` gives of the rows, and is one of them
abbrev pub Extreme : {X : Type 0} → (ℕ → ℕ → Type 0) → (X → ℕ) → List X → ℕ → Type 0
Extreme {X} before at rows m =
    ((j : ℕ) (d : X) → j < length rows → before m (at (slice_index_or rows j d))) × ((j : ℕ) × (j < length rows) × ((d : X) → at (slice_index_or rows j d) ≡ m))

-- f keeps one of two numbers, the one that is first by `before`
pub record Chooses (before : ℕ → ℕ → Type 0) (f : ℕ → ℕ → ℕ) : Type 0 where
  pub itself : (x : ℕ) → before x x
  pub chain : (x y z : ℕ) → before x y → before y z → before x z
  pub first : (x y : ℕ) → before (f x y) x
  pub second : (x y : ℕ) → before (f x y) y
  pub one_of : (x y : ℕ) → (f x y ≡ x) ⊎ (f x y ≡ y)

abbrev pub earliest : ℕ → ℕ → ℕ
earliest x y = cond (x == 0) y (cond (y == 0) x (min x y))
