-- Where a line ends: at the byte 0A, which is 10. Stated by index where a line's end is looked for, and by list where a text is cut.
use Rattle.std.specs.Prelude.{◌≡◌, ℕ, ◌<◌, ◌≤◌, Option, MatchOption, List, ◌∷◌, ◌++◌, length, ◌≢◌, slice_index, slice_index_or}
use Rattle.std.specs.Borrow.{Bor}
use Rattle.std.specs.List.{AllByRecursion}

-- no 0A stands from i up to j
abbrev pub Clear : List ℕ → ℕ → ℕ → Type 0
Clear text i j = (k : ℕ) → i ≤ k → k < j → slice_index text k ≢ 10

-- the first 0A at or behind `from` stands at e
pub record FirstEnd (text : List ℕ) (from e : ℕ) : Type 0 where
  pub behind : from ≤ e
  pub inside : e < length text
  pub ends : slice_index_or text e 0 ≡ 10
  pub first : Clear text from e

-- no 0A stands among the bytes
abbrev pub NoEnd : List ℕ → Type 0
NoEnd bs = AllByRecursion (λ b. b ≢ 10) bs

-- bs is a line, the 0A that ends it, and rest
pub record Cut (bs line rest : List ℕ) : Type 0 where
  pub clear : NoEnd line
  pub is : bs ≡ line ++ (10 ∷ rest)

-- bs has no 0A, and rest is all of it
pub record Uncut (bs rest : List ℕ) : Type 0 where
  pub clear : NoEnd bs
  pub is : rest ≡ bs

-- what a call for the next line answers, of the bytes that were left and those that are: none where no 0A was left, and then nothing is read
abbrev pub NextLine : List ℕ → Option (Bor (List ℕ)) → List ℕ → Type 0
NextLine left line rest = MatchOption line (Uncut left rest) (λ x. Cut left x.now rest)
