-- Two results with one reason are equal if their answers are.
use Rattle.std.proofs.Common.{◌≡◌, IfOk, None, Ok, Err, Option, Result, sym, ap, ◌∙◌}
use Rattle.causality.proofs.Newest.{nothing}
use Rattle.history.specs.declared.refusal.Refusal.{Refusal}
use Rattle.history.specs.Answers.{reason}

pub same_results : {X : Type 0} (P Q : X → Type 0) (o : Option Refusal) (r s : Result X Refusal) → reason r ≡ o → reason s ≡ o →
    IfOk r P → IfOk s Q → (o ≡ None → (x y : X) → P x → Q y → x ≡ y) → r ≡ s
same_results P Q o (Ok x) (Ok y) e f p q same = ap Ok (same (sym e) x y p q)
same_results P Q o (Ok x) (Err b) e f p q same = absurd (nothing (e ∙ sym f))
same_results P Q o (Err a) (Ok y) e f p q same = absurd (nothing (f ∙ sym e))
same_results P Q o (Err a) (Err b) e f p q same = let one : a ≡ b = cc in ap Err one
