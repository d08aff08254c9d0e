-- A text that is played up to a line, and one line more.
use Rattle.std.proofs.Common.{◌≡◌, ℕ, ◌+◌, ◌*◌, ◌≤◌, List, [], ◌∷◌, ◌++◌, length, map, take, Option, Result, sym, refl, ap, ◌∙◌, subst, append_assoc, append-nil, add-zero, arith, length-append}
use Rattle.std.specs.List.{AllByRecursion}
use Rattle.std.proofs.lemmas.List.{map-append, nil_from_length}
use Rattle.answer_lines.specs.declared.Output.{Output}
use Rattle.answer_lines.specs.Output.{Wrote, Writes}
use Rattle.answer_lines.proofs.Writes.{writes_then}
use Rattle.causality.specs.declared.CausalOrder.{CausalOrder}
use Rattle.history.specs.declared.refusal.Refusal.{Refusal}
use Rattle.history.specs.Calls.{next_history, history_after}
use Rattle.history.proofs.Calls.{after_push}
use Rattle.history.specs.History.{History, idle}
use Rattle.job_text.specs.Lines.{Cut, Uncut}
use Rattle.job_text.specs.Texts.{Lawful, spelt}
use Rattle.job_text.proofs.Texts.{next-line, no_next}
use Rattle.line_forms.specs.Forms.{Sound, written}
use Rattle.line_forms.specs.declared.forms.Line.{Line}
use Rattle.line_forms.proofs.Unique.{unique}
use Rattle.play.specs.declared.text.PlayRefusal.{PlayRefusal}
use Rattle.play.specs.declared.text.PlayRefusal.TheVariants.{TooLong, Malformed, ShortOut}
use Rattle.play.specs.Plays.{Answered, Correlated, LinePlayed, Plays, Unfit, refusal_bytes, report_bytes}
use Rattle.play.specs.Reports.{Reported, call_of}

-- ---- one line more

plays_push : (h : History) (k : ℕ) (ls : List Line) (bs : List ℕ) (l : Line) (r : Result (Option CausalOrder) Refusal) → Plays h k ls bs → Reported (history_after h (map call_of ls)) l r → Plays h k (ls ++ l ∷ []) (bs ++ report_bytes (k + length ls) r)
plays_push h k [] bs l r p q = (r, [], q, ap (λ b. b ++ report_bytes (k + 0) r) p ∙ ap (λ n. report_bytes n r) (add-zero k) ∙ sym (append-nil (report_bytes k r)), refl)
plays_push h k (m ∷ ls) bs l r p q =
    let n : k + length (m ∷ ls) ≡ (k + 1) + length ls = omega arith in (
      p.0,
      p.1 ++ report_bytes ((k + 1) + length ls) r,
      p.2,
      ap (λ b. b ++ report_bytes (k + length (m ∷ ls)) r) p.3 ∙ append_assoc (report_bytes k p.0) p.1 _ ∙ ap (λ n. report_bytes k p.0 ++ (p.1 ++ report_bytes n r)) n,
      plays_push (next_history h (call_of m)) (k + 1) ls p.1 l r p.4 q,
    )

-- nothing is written for a line that has no report
wrote_none : (out : List ℕ) (at : ℕ) → at ≤ length out → Wrote out at [] out at
wrote_none out at h = record { ends = omega arith; fits = h; long = refl; front = sym (append-nil (take at out)); behind = refl }

pub writes_none : (o : Output) → o.at ≤ length o.out.now → Writes o [] o
writes_none o h = record { same = refl; wrote = wrote_none o.out.now o.at h }

writes_as : {o o' : Output} {x y : List ℕ} → x ≡ y → Writes o x o' → Writes o y o'
writes_as {o = o} {o' = o'} e w = subst (λ z. Writes o z o') e w

-- ---- a text, up to a line

-- the lines `done` were played, from the history h and the output `start`
pub record Going (h : History) (done : List Line) (start o : Output) (h' : History) : Type 0 where
  pub bytes : List ℕ
  pub plays : Plays h 1 done bytes
  pub writes : Writes start bytes o
  pub after : h' ≡ history_after h (map call_of done)

-- k lines of the text are done, and `left` is what is left of it
pub record Playing (text : List ℕ) (n k : ℕ) (left : List ℕ) (h : History) (start o : Output) (h' : History) : Type 0 where
  pub lawful : Lawful text n
  pub done : List Line
  pub todo : List Line
  pub split : lawful.all.lines ≡ done ++ todo
  pub sound : AllByRecursion Sound todo
  pub count : length done ≡ k
  pub left_is : left ≡ spelt todo
  pub room : o.at ≤ 32 * k
  pub going : Going h done start o h'

pub begin : {text : List ℕ} {n : ℕ} {left : List ℕ} (h : History) (start : Output) → start.at ≡ 0 → Lawful text n → left ≡ text → Playing text n 0 left h start start h
begin h start zero lawful e = record {
  lawful = lawful;
  done = [];
  todo = lawful.all.lines;
  split = refl;
  sound = lawful.all.sound;
  count = refl;
  left_is = e ∙ lawful.all.is ∙ append-nil (spelt lawful.all.lines);
  room = omega arith;
  going = record { bytes = []; plays = refl; writes = writes_none start (omega arith); after = refl };
}

-- no line is left
pub done_all : {text left : List ℕ} {n k : ℕ} {h h' : History} {start o : Output}
    → (p : Playing text n k left h start o h') → p.todo ≡ [] → start.at ≡ 0 → 32 * n ≤ length start.out.now → Answered h text start.out.now o.at o.out.now h'
done_all {n = n} {h = h} {h' = h'} {start = start} {o = o} p none zero room =
    let lines = p.split ∙ ap (λ t. p.done ++ t) none ∙ append-nil p.done in
    let g = p.going in
    record {
      count = n;
      lawful = p.lawful;
      room = room;
      bytes = g.bytes;
      plays = subst (λ ls. Plays h 1 ls g.bytes) (sym lines) g.plays;
      wrote = subst (λ (i : ℕ). Wrote start.out.now i g.bytes o.out.now o.at) zero g.writes.wrote;
      after = subst (λ ls. h' ≡ history_after h (map call_of ls)) (sym lines) g.after;
    }

-- the memory of the output is what the output has of it
pub answered_as : {text old new : List ℕ} {h h' : History} (o : Output) → Answered h text old o.at o.out.now h' → new ≡ o.out.now → Answered h text old o.at new h'
answered_as {text = text} {old = old} {h = h} {h' = h'} o a e = subst (λ xs. Answered h text old o.at xs h') (sym e) a

-- one line more
pub one_more : {text left line left' : List ℕ} {n k : ℕ} {h h' h'' : History} {start o o' : Output} (call : Line)
    → Playing text n k left h start o h' → Cut left line left' → Sound call × (line ≡ written call) → o'.at ≤ o.at + 32
    → LinePlayed h' (k + 1) call o o' h'' → Playing text n (k + 1) left' h start o' h''
one_more {k = k} {h = h} call p cut read room l =
    let next = next-line p.todo p.sound p.left_is cut in
    let same : next.one ≡ call = unique next.one call next.sound.0 read.0 (sym next.line_is ∙ read.1) in
    let more : p.todo ≡ call ∷ next.more = next.are ∙ ap (λ l. l ∷ next.more) same in
    let was = p.room in
    let counted = p.count in
    record {
      lawful = p.lawful;
      done = p.done ++ call ∷ [];
      todo = next.more;
      split = p.split ∙ ap (λ t. p.done ++ t) more ∙ sym (append_assoc p.done (call ∷ []) next.more);
      sound = next.sound.1;
      count = omega (arith, length-append p.done (call ∷ []));
      left_is = next.rest_is;
      room = omega arith;
      going =
          let g = p.going in
          let number : k + 1 ≡ 1 + length p.done = omega arith in
          record {
            bytes = g.bytes ++ report_bytes (1 + length p.done) l.report;
            plays = plays_push h 1 p.done g.bytes call l.report g.plays (subst (λ x. Reported x call l.report) g.after l.reported);
            writes = writes_then g.bytes _ g.writes (writes_as (ap (λ n. report_bytes n l.report) number) l.writes);
            after = l.after ∙ ap (λ x. next_history x (call_of call)) g.after ∙ sym (ap (history_after h) (map-append call_of p.done (call ∷ [])) ∙ after_push h (map call_of p.done) (call_of call));
          };
    }

-- as many lines are done as there are
pub none_left : {text left : List ℕ} {n k : ℕ} {h h' : History} {start o : Output}
    → (p : Playing text n k left h start o h') → n ≤ k → p.todo ≡ []
none_left p le =
    let all = p.lawful.all.count in
    let counted = p.count in
    nil_from_length p.todo (omega (arith, ap length p.split, length-append p.done p.todo))

-- no line is left to read
pub no_more : {text left rest : List ℕ} {n k : ℕ} {h h' : History} {start o : Output}
    → (p : Playing text n k left h start o h') → Uncut left rest → p.todo ≡ []
no_more p end = no_next p.todo p.left_is end

-- the next line is one that is read
pub readable : {text left line left' : List ℕ} {n k : ℕ} {h h' : History} {start o : Output}
    → Playing text n k left h start o h' → Cut left line left' → ((l : Line) → Sound l → line ≡ written l → ⊥) → ⊥
readable p cut none =
    let next = next-line p.todo p.sound p.left_is cut in
    none next.one next.sound.0 next.line_is

-- ---- a correlator just made

pub told : {h h' : History} {text old new : List ℕ} {n : ℕ} → h ≡ idle → Answered h text old n new h' → Correlated text old n new
told {h' = h'} {text = text} {old = old} {new = new} {n = n} e a = Correlated.answered h' (subst (λ x. Answered x text old n new h') e a)

told_refused : {text old new : List ℕ} {n : ℕ} (e : PlayRefusal) → 32768 ≤ length old → Unfit text (length old) e → Wrote old 0 (refusal_bytes e) new n → Correlated text old n new
told_refused TooLong room u w = Correlated.too_long u w
told_refused (Malformed k) room u w = Correlated.malformed k u w
told_refused ShortOut room u w = let few = u.1.few in let short = u.2 in absurd (omega arith)

pub told_unfit : {text old mid new : List ℕ} {n : ℕ} (e : PlayRefusal) → 32768 ≤ length old → mid ≡ old → Unfit text (length old) e → Wrote mid 0 (refusal_bytes e) new n → Correlated text old n new
told_unfit {new = new} {n = n} e room same u w = told_refused e room u (subst (λ old. Wrote old 0 (refusal_bytes e) new n) same w)
