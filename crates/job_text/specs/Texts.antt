-- What the check of a text answers, in the words of the format: the text is spelt by a list of sound lines, each with its 0A.
use Rattle.std.specs.Prelude.{◌≡◌, ℕ, ◌+◌, ◌<◌, ◌≤◌, cond, ◌⊎◌, List, [], ◌∷◌, ◌++◌, length, Ok, Err, Result, ◌==◌, ◌≢◌}
use Rattle.std.specs.List.{AllByRecursion}
use Rattle.line_forms.specs.Forms.{Sound, written}
use Rattle.line_forms.specs.declared.forms.Line.{Line}
use Rattle.job_text.specs.declared.scan.Fault.{Fault}
use Rattle.job_text.specs.declared.scan.Fault.TheVariants.{TooLong, Malformed}

-- the bytes of a list of lines
abbrev pub spelt : List Line → List ℕ
spelt [] = []
spelt (l ∷ ls) = written l ++ (10 ∷ spelt ls)

-- how many bytes are 0A
abbrev pub ends : List ℕ → ℕ
ends [] = 0
ends (b ∷ bs) = cond (b == 10) 1 0 + ends bs

-- 1 if the text is not empty and does not end in 0A
abbrev pub tail : List ℕ → ℕ
tail [] = 0
tail (b ∷ []) = cond (b == 10) 0 1
tail (b ∷ c ∷ bs) = tail (c ∷ bs)

-- how many lines a text has; a last line without its 0A counts
abbrev pub line_count : List ℕ → ℕ
line_count text = ends text + tail text

-- the most bytes and the most lines of a text
abbrev pub max_bytes : ℕ
max_bytes = 32768

abbrev pub max_lines : ℕ
max_lines = 1024

abbrev pub TooMuch : List ℕ → Type 0
TooMuch text = (max_bytes < length text) ⊎ (max_lines < line_count text)

-- n sound lines, and then rest
pub record Begins (text : List ℕ) (n : ℕ) (rest : List ℕ) : Type 0 where
  pub lines : List Line
  pub sound : AllByRecursion Sound lines
  pub count : length lines ≡ n
  pub is : text ≡ spelt lines ++ rest

-- the text is n sound lines, and not too long
pub record Lawful (text : List ℕ) (n : ℕ) : Type 0 where
  pub bytes : length text ≤ max_bytes
  pub few : n ≤ max_lines
  pub all : Begins text n []

-- no sound line with its 0A stands in front
abbrev pub NoLine : List ℕ → Type 0
NoLine rest = (l : Line) (more : List ℕ) → Sound l → rest ≢ written l ++ (10 ∷ more)

-- line n is the first that is malformed, and the text is not too long
pub record Breaks (text : List ℕ) (n : ℕ) : Type 0 where
  pub bytes : length text ≤ max_bytes
  pub few : line_count text ≤ max_lines
  pub good : ℕ
  pub next : n ≡ good + 1
  pub rest : List ℕ
  pub before : Begins text good rest
  pub some : 0 < length rest
  pub none : NoLine rest

-- what the check says of a text
abbrev pub Checked : List ℕ → Result ℕ Fault → Type 0
Checked text (Ok n) = Lawful text n
Checked text (Err TooLong) = TooMuch text
Checked text (Err (Malformed n)) = Breaks text n

-- that determines its answer, so each answer is given exactly if what it says holds
abbrev pub OneVerdict : Type 0
OneVerdict = (text : List ℕ) (r s : Result ℕ Fault) → Checked text r → Checked text s → r ≡ s
