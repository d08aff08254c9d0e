-- The sound lines that a text begins with: one more of them, the next of them, and where they end.
use Rattle.std.proofs.Common.{◌≡◌, ℕ, ◌+◌, List, [], ◌∷◌, ◌++◌, sym, refl, ap, ◌∙◌, append_assoc, arith, length-append}
use Rattle.std.specs.List.{AllByRecursion}
use Rattle.std.proofs.ByRecursion.{All-push}
use Rattle.line_forms.specs.Forms.{Sound, written}
use Rattle.job_text.specs.Lines.{Cut, NoEnd, Uncut}
use Rattle.job_text.specs.Texts.{Begins, NoLine, spelt}
use Rattle.line_forms.specs.declared.forms.Line.{Line}
use Rattle.job_text.proofs.Clear.{clear-written}
use Rattle.job_text.proofs.Cuts.{no_cut, same-cut}

spelt_push : (ls : List Line) (l : Line) (rest : List ℕ) → spelt ls ++ (written l ++ (10 ∷ rest)) ≡ spelt (ls ++ l ∷ []) ++ rest
spelt_push [] l rest = sym (append_assoc (written l) (10 ∷ []) rest)
spelt_push (k ∷ ls) l rest = append_assoc (written k) (10 ∷ spelt ls) _ ∙ ap (λ t. written k ++ (10 ∷ t)) (spelt_push ls l rest) ∙ sym (append_assoc (written k) (10 ∷ spelt (ls ++ l ∷ [])) rest)

-- one more sound line
pub begin_more : {text rest next line : List ℕ} {n : ℕ} (l : Line) → Begins text n rest → Sound l × (line ≡ written l) → Cut rest line next → Begins text (n + 1) next
begin_more {next = next} l h read cut = record {
  lines = h.lines ++ l ∷ [];
  sound = All-push Sound h.lines l h.sound read.0;
  count = let c = h.count in omega (arith, length-append h.lines (l ∷ []));
  is = h.is ∙ ap (λ t. spelt h.lines ++ t) (cut.is ∙ ap (λ t. t ++ (10 ∷ next)) read.1) ∙ spelt_push h.lines l next;
}

-- a line that no sound line spells
pub none-line : {rest line next : List ℕ} → Cut rest line next → ((l : Line) → Sound l → line ≡ written l → ⊥) → NoLine rest
none-line {line = line} {next = next} cut none l more s e = none l s (same-cut line (written l) next more cut.clear (clear-written l s) (sym cut.is ∙ e)).0

-- a tail without 0A
pub none_tail : {rest : List ℕ} → NoEnd rest → NoLine rest
none_tail {rest = rest} clear l more s e = no_cut rest (written l) more clear e

-- The next line of a text that sound lines spell, for a caller that reads a checked text.

pub record Next (ls : List Line) (line rest : List ℕ) : Type 0 where
  pub one : Line
  pub more : List Line
  pub are : ls ≡ one ∷ more
  pub sound : AllByRecursion Sound (one ∷ more)
  pub line_is : line ≡ written one
  pub rest_is : rest ≡ spelt more

pub next-line : {s line rest : List ℕ} (ls : List Line) → AllByRecursion Sound ls → s ≡ spelt ls → Cut s line rest → Next ls line rest
next-line {line = line} {rest = rest} [] sound e cut = absurd (no_cut [] line rest tt (sym e ∙ cut.is))
next-line {line = line} {rest = rest} (l ∷ ls) sound e cut =
    let same = same-cut line (written l) rest (spelt ls) cut.clear (clear-written l sound.0) (sym cut.is ∙ e) in
    record { one = l; more = ls; are = refl; sound = sound; line_is = same.0; rest_is = same.1 }

pub no_next : {s rest : List ℕ} (ls : List Line) → s ≡ spelt ls → Uncut s rest → ls ≡ []
no_next [] e end = refl
no_next {s = s} (l ∷ ls) e end = absurd (no_cut s (written l) (spelt ls) end.clear e)
