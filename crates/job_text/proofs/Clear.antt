-- No 0A stands in a line.
use Rattle.std.proofs.Common.{◌≡◌, ℕ, List, [], ◌∷◌, ◌++◌, codes, decimal, refl, arith}
use Rattle.causality.specs.declared.Place.{Place}
use Rattle.std.proofs.ByRecursion.{All-append, All-weaker}
use Rattle.std.proofs.lemmas.Bool.Decides.{nat_tests}
use Rattle.line_forms.specs.Forms.{Sound, written}
use Rattle.job_text.specs.Lines.{NoEnd}
use Rattle.line_parts.specs.Parts.{Digit, Small, SoundPlace, placed}
use Rattle.job_text.specs.Texts.{ends}
use Rattle.line_forms.specs.declared.forms.Line.{Line}
use Rattle.line_forms.specs.declared.forms.Line.TheVariants.{Nodes, Local, Send, Receive, Meet, Order}
use Rattle.line_parts.proofs.Reading.{all_digits}

clear-number : (n : ℕ) → Small n → NoEnd (decimal n)
clear-number n small = All-weaker Digit _ (λ x d e. let l = d.0 in omega arith) (decimal n) (all_digits n small)

no_ends : (xs : List ℕ) → ends xs ≡ 0 → NoEnd xs
no_ends [] e = tt
no_ends (x ∷ xs) e = ((λ h. grind (arith, nat_tests)), no_ends xs (omega arith))

join : (xs ys : List ℕ) → NoEnd xs → NoEnd ys → NoEnd (xs ++ ys)
join = All-append (λ b. b ≡ 10 → ⊥)

clear_two : (key : List ℕ) (n m : ℕ) → ends key ≡ 0 → Small n × Small m → NoEnd (decimal n ++ (key ++ decimal m))
clear_two key n m e s = join (decimal n) (key ++ decimal m) (clear-number n s.0) (join key (decimal m) (no_ends key e) (clear-number m s.1))

clear-place : (p : Place) → SoundPlace p → NoEnd (placed p)
clear-place p s = clear_two (46 ∷ []) p.node p.index refl s

pub clear-written : (l : Line) → Sound l → NoEnd (written l)
clear-written (Nodes n) s = join (codes "nodes=") _ (no_ends (codes "nodes=") refl) (clear-number n s)
clear-written (Local n) s = join (codes "local=") _ (no_ends (codes "local=") refl) (clear-number n s)
clear-written (Send n m) s = join (codes "send=") _ (no_ends (codes "send=") refl) (clear_two (codes " msg=") n m refl s)
clear-written (Receive n m) s = join (codes "recv=") _ (no_ends (codes "recv=") refl) (clear_two (codes " msg=") n m refl s)
clear-written (Meet n m) s = join (codes "meet=") _ (no_ends (codes "meet=") refl) (clear_two (codes " with=") n m refl s)
clear-written (Order p q) s = join (codes "order=") _ (no_ends (codes "order=") refl) (join (placed p) _ (clear-place p s.0) (join (codes " to=") _ (no_ends (codes " to=") refl) (clear-place q s.1)))
