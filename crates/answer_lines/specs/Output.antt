-- What a writer does to its output, and the bytes of each line of an answer, as the format shows them.
--
--   line_room         the most bytes of a line
--   HasRoom o         an output has room for a line behind what is written
--   Wrote ..          what was written stays, the bytes follow it, and what lies behind is as it was
--   Writes old bs new   the same of an output, which is still the same memory
--   refused_line      line=L refused=R
--   refused_text      refused=R
--   word o            the word of an order
--   order_line        line=L answer=W
--   yes_or_no b       the word of a verdict
--   verdict_line      line=L answer=V steps=S
use Rattle.std.specs.Prelude.{◌≡◌, ℕ, ◌+◌, ◌≤◌, Bool, true, false, List, [], ◌∷◌, ◌++◌, length, take, drop, codes, decimal}
use Rattle.answer_lines.specs.declared.Output.{Output}
use Rattle.causality.specs.declared.CausalOrder.{CausalOrder}
use Rattle.causality.specs.declared.CausalOrder.TheVariants.{Before, After, Same, Concurrent}

abbrev pub line_room : ℕ
line_room = 32

abbrev pub HasRoom : Output → Type 0
HasRoom o = o.at + line_room ≤ length o.out.now

-- from `old`, written up to `at`, to `new`, written up to `to`: what was written stays, `bs` follows it, and what lies behind is as it was
pub record Wrote (old : List ℕ) (at : ℕ) (bs : List ℕ) (new : List ℕ) (to : ℕ) : Type 0 where
  pub ends : to ≡ at + length bs
  pub fits : to ≤ length new
  pub long : length new ≡ length old
  pub front : take to new ≡ take at old ++ bs
  pub behind : drop to new ≡ drop to old

-- an output writes `bs` behind what is written, to the same memory
pub record Writes (old : Output) (bs : List ℕ) (new : Output) : Type 0 where
  pub same : new.out.ghost_name ≡ old.out.ghost_name
  pub wrote : Wrote old.out.now old.at bs new.out.now new.at

-- line=L refused=R
abbrev pub refused_line : ℕ → ℕ → List ℕ
refused_line line number = codes "line=" ++ (decimal line ++ (codes " refused=" ++ (decimal number ++ (10 ∷ []))))

-- refused=R
abbrev pub refused_text : ℕ → List ℕ
refused_text number = codes "refused=" ++ (decimal number ++ (10 ∷ []))

abbrev pub word : CausalOrder → List ℕ
word Before = codes "before"
word After = codes "after"
word Same = codes "same"
word Concurrent = codes "concurrent"

-- line=L answer=W
abbrev pub order_line : ℕ → CausalOrder → List ℕ
order_line line answer = codes "line=" ++ (decimal line ++ (codes " answer=" ++ (word answer ++ (10 ∷ []))))

abbrev pub yes_or_no : Bool → List ℕ
yes_or_no true = codes "yes"
yes_or_no false = codes "no"

-- line=L answer=V steps=S
abbrev pub verdict_line : ℕ → Bool → ℕ → List ℕ
verdict_line line verdict steps =
    codes "line=" ++ (decimal line ++ (codes " answer=" ++ (yes_or_no verdict ++ (codes " steps=" ++ (decimal steps ++ (10 ∷ []))))))
