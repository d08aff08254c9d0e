-- What the check says of a text determines its answer.
use Rattle.std.proofs.Common.{◌≡◌, ℕ, ◌+◌, List, [], ◌∷◌, ◌++◌, length, Ok, Err, Result, sym, refl, ap, ◌∙◌, inl, inr, append_assoc, arith}
use Rattle.std.specs.List.{AllByRecursion}
use Rattle.line_forms.specs.Forms.{Sound, written}
use Rattle.job_text.specs.Texts.{Begins, Breaks, Checked, Lawful, NoLine, TooMuch, line_count, spelt}
use Rattle.line_forms.specs.declared.forms.Line.{Line}
use Rattle.job_text.specs.declared.scan.Fault.{Fault}
use Rattle.job_text.specs.declared.scan.Fault.TheVariants.{TooLong, Malformed}
use Rattle.job_text.proofs.Clear.{clear-written}
use Rattle.job_text.proofs.Counts.{count-line}
use Rattle.job_text.proofs.Cuts.{same-cut}
use Rattle.job_text.proofs.Texts.{none_tail}

-- lines and what follows them, with the first line apart
front : (l : Line) (ls : List Line) (rest : List ℕ) → spelt (l ∷ ls) ++ rest ≡ written l ++ (10 ∷ (spelt ls ++ rest))
front l ls rest = append_assoc (written l) (10 ∷ spelt ls) rest

count-spelt : (ls : List Line) (rest : List ℕ) → AllByRecursion Sound ls → line_count (spelt ls ++ rest) ≡ length ls + line_count rest
count-spelt [] rest s = omega arith
count-spelt (l ∷ ls) rest s =
    let on = count-spelt ls rest s.1 in
    let one = count-line 0 (record { clear = clear-written l s.0; is = front l ls rest }) refl in
    omega arith

-- a text has the lines that are read and those that are left
pub count-begins : {text rest : List ℕ} {n : ℕ} → Begins text n rest → line_count text ≡ n + line_count rest
count-begins {rest = rest} h = ap line_count h.is ∙ omega (arith, count-spelt h.lines rest h.sound, h.count)

-- the sound lines in front of a text are as many as they can be in one way
align : (ls ks : List Line) (p q : List ℕ) → AllByRecursion Sound ls → AllByRecursion Sound ks → NoLine p → NoLine q → spelt ls ++ p ≡ spelt ks ++ q → (length ls ≡ length ks) × (p ≡ q)
align [] [] p q sl sk np nq e = (refl, e)
align [] (k ∷ ks) p q sl sk np nq e = absurd (np k _ sk.0 (e ∙ front k ks q))
align (l ∷ ls) [] p q sl sk np nq e = absurd (nq l _ sl.0 (sym e ∙ front l ls p))
align (l ∷ ls) (k ∷ ks) p q sl sk np nq e =
    let on = (same-cut (written l) (written k) _ _ (clear-written l sl.0) (clear-written k sk.0) (sym (front l ls p) ∙ e ∙ front k ks q)).1 in
    let r = align ls ks p q sl.1 sk.1 np nq on in
    (omega (arith, r.0), r.1)

same_break : {text p q : List ℕ} {n m : ℕ} → Begins text n p → Begins text m q → NoLine p → NoLine q → (n ≡ m) × (p ≡ q)
same_break {p = p} {q = q} a b np nq =
    let r = align a.lines b.lines p q a.sound b.sound np nq (sym a.is ∙ b.is) in
    (sym a.count ∙ r.0 ∙ b.count, r.1)

no_line_nil : NoLine []
no_line_nil = none_tail tt

not_both : {text : List ℕ} {n m : ℕ} → Lawful text n → Breaks text m → ⊥
not_both a b = let e = ap length (same_break a.all b.before no_line_nil b.none).1 in let some = b.some in omega arith

fits-lawful : {text : List ℕ} {n : ℕ} → Lawful text n → TooMuch text → ⊥
fits-lawful h (inl m) = let b = h.bytes in omega arith
fits-lawful h (inr m) = let f = h.few in let e = count-begins h.all in omega arith

fits_breaks : {text : List ℕ} {n : ℕ} → Breaks text n → TooMuch text → ⊥
fits_breaks h (inl m) = let b = h.bytes in omega arith
fits_breaks h (inr m) = let f = h.few in omega arith

pub one-verdict : (text : List ℕ) (r s : Result ℕ Fault) → Checked text r → Checked text s → r ≡ s
one-verdict text (Ok n) (Ok m) a b = ap Ok (same_break a.all b.all no_line_nil no_line_nil).0
one-verdict text (Ok n) (Err TooLong) a b = absurd (fits-lawful a b)
one-verdict text (Ok n) (Err (Malformed m)) a b = absurd (not_both a b)
one-verdict text (Err TooLong) (Ok m) a b = absurd (fits-lawful b a)
one-verdict text (Err TooLong) (Err TooLong) a b = refl
one-verdict text (Err TooLong) (Err (Malformed m)) a b = absurd (fits_breaks b a)
one-verdict text (Err (Malformed n)) (Ok m) a b = absurd (not_both b a)
one-verdict text (Err (Malformed n)) (Err TooLong) a b = absurd (fits_breaks a b)
one-verdict text (Err (Malformed n)) (Err (Malformed m)) a b =
    ap (λ k. Err (Malformed k)) (a.next ∙ ap (λ k. k + 1) (same_break a.before b.before a.none b.none).0 ∙ sym b.next)
