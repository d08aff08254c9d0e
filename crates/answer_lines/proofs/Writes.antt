-- One write after another is one write.
use Rattle.std.proofs.Common.{◌≡◌, ℕ, ◌+◌, ◌-◌, List, ◌++◌, take, drop, sym, ap, ◌∙◌, subst, append_assoc, arith, length-append}
use Rattle.std.proofs.lemmas.List.{drop-drop}
use Rattle.answer_lines.specs.declared.Output.{Output}
use Rattle.answer_lines.specs.Output.{Writes, Wrote}

pub wrote_then : {a b c : List ℕ} {i j k : ℕ} (x y : List ℕ) → Wrote a i x b j → Wrote b j y c k → Wrote a i (x ++ y) c k
wrote_then {a = a} {b = b} {i = i} {j = j} {k = k} x y p q =
    let on : j + (k - j) ≡ k = omega (arith, q.ends) in
    record {
      ends = omega (arith, p.ends, q.ends, length-append x y);
      fits = q.fits;
      long = q.long ∙ p.long;
      front = q.front ∙ ap (λ l. l ++ y) p.front ∙ append_assoc (take i a) x y;
      behind = q.behind ∙ ap (λ n. drop n b) (sym on) ∙ sym (drop-drop (k - j) j b) ∙ ap (λ l. drop (k - j) l) p.behind ∙ drop-drop (k - j) j a ∙ ap (λ n. drop n a) on;
    }

pub writes_then : {a b c : Output} (x y : List ℕ) → Writes a x b → Writes b y c → Writes a (x ++ y) c
writes_then x y p q = record { same = q.same ∙ p.same; wrote = wrote_then x y p.wrote q.wrote }

pub wrote_as : {a b x y : List ℕ} {i j : ℕ} → x ≡ y → Wrote a i x b j → Wrote a i y b j
wrote_as {a = a} {b = b} {i = i} {j = j} e w = subst (λ z. Wrote a i z b j) e w
