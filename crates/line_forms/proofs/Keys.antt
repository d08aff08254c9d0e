-- Each line begins with a key.
use Rattle.std.proofs.Common.{◌≡◌, ℕ, List, ◌++◌, codes, decimal, refl}
use Rattle.line_heads.specs.declared.Key.{Key}
use Rattle.line_heads.specs.Heads.{key_bytes}
use Rattle.line_parts.specs.Parts.{placed}
use Rattle.line_forms.specs.Forms.{written}
use Rattle.line_forms.specs.declared.forms.Line.{Line}
use Rattle.line_forms.specs.declared.forms.Line.TheVariants.{Nodes, Local, Send, Receive, Meet, Order}

pub key_of : (l : Line) → (k : Key) × (rest : List ℕ) × (written l ≡ key_bytes k ++ rest)
key_of (Nodes n) = (Key.Nodes, decimal n, refl)
key_of (Local n) = (Key.Local, decimal n, refl)
key_of (Send n m) = (Key.Send, decimal n ++ (codes " msg=" ++ decimal m), refl)
key_of (Receive n m) = (Key.Receive, decimal n ++ (codes " msg=" ++ decimal m), refl)
key_of (Meet n m) = (Key.Meet, decimal n ++ (codes " with=" ++ decimal m), refl)
key_of (Order p q) = (Key.Order, placed p ++ (codes " to=" ++ placed q), refl)
