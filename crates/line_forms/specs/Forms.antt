-- What each line of the job text spells, one clause for each form, as the format shows them.
use Rattle.std.specs.Prelude.{◌≡◌, ℕ, List, ◌++◌, codes, decimal}
use Rattle.line_parts.specs.Parts.{Small, SoundPlace, placed}
use Rattle.line_forms.specs.declared.forms.Line.{Line}
use Rattle.line_forms.specs.declared.forms.Line.TheVariants.{Nodes, Local, Send, Receive, Meet, Order}

-- the numbers of a line are 1 to 65,535
abbrev pub Sound : Line → Type 0
Sound (Nodes n) = Small n
Sound (Local n) = Small n
Sound (Send n m) = Small n × Small m
Sound (Receive n m) = Small n × Small m
Sound (Meet n m) = Small n × Small m
Sound (Order p q) = SoundPlace p × SoundPlace q

-- the bytes of a line, without the 0A that ends it
abbrev pub written : Line → List ℕ
written (Nodes n) = codes "nodes=" ++ decimal n
written (Local n) = codes "local=" ++ decimal n
written (Send n m) = codes "send=" ++ (decimal n ++ (codes " msg=" ++ decimal m))
written (Receive n m) = codes "recv=" ++ (decimal n ++ (codes " msg=" ++ decimal m))
written (Meet n m) = codes "meet=" ++ (decimal n ++ (codes " with=" ++ decimal m))
written (Order p q) = codes "order=" ++ (placed p ++ (codes " to=" ++ placed q))

-- no two sound lines are spelt alike
abbrev pub Unique : Type 0
Unique = (l k : Line) → Sound l → Sound k → written l ≡ written k → l ≡ k
