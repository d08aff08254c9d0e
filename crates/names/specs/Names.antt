-- Names as numbers of eight bytes, and the order of names.
--
--   value n bs         the number that the first n places of bs write to the base 256, with a zero at each place past the end
--   packed name        the number of a name: eight places
--   comes_before x y   x is a proper front of y, or the first byte that differs is smaller in x
--   PackingOrders      names are in order just where their numbers are
--   PackingKeeps       different names have different numbers
--   PackingTells       names are the same just where their numbers are
use Rattle.std.specs.Prelude.{◌≡◌, ℕ, zero, suc, ◌+◌, ◌*◌, ◌^◌, Bool, true, false, ◌&&◌, ◌||◌, List, [], ◌∷◌, ◌==◌, nat_lt}
use Rattle.history.specs.History.{is_name, same_name}

abbrev pub value : ℕ → List ℕ → ℕ
value zero bs = 0
value (suc n) [] = 0
value (suc n) (b ∷ bs) = b * 256 ^ n + value n bs

abbrev pub packed : List ℕ → ℕ
packed name = value 8 name

abbrev pub comes_before : List ℕ → List ℕ → Bool
comes_before xs [] = false
comes_before [] (y ∷ ys) = true
comes_before (x ∷ xs) (y ∷ ys) = nat_lt x y || (x == y && comes_before xs ys)

abbrev pub PackingOrders : Type 0
PackingOrders = (x y : List ℕ) → is_name x ≡ true → is_name y ≡ true → nat_lt (packed x) (packed y) ≡ comes_before x y

abbrev pub PackingKeeps : Type 0
PackingKeeps = (x y : List ℕ) → is_name x ≡ true → is_name y ≡ true → packed x ≡ packed y → x ≡ y

abbrev pub PackingTells : Type 0
PackingTells = (x y : List ℕ) → is_name x ≡ true → is_name y ≡ true → (packed x == packed y) ≡ same_name x y
