-- What the play of a text does: which bytes it writes, which history it leaves, and which texts it refuses.
--
-- It adds no rule of its own. The lines are those that the check of the text finds, what is reported of a line is told by the
-- history that its call finds, and the bytes are those of the answer's lines. Here these are only put one after another.
--
--   report_bytes k r        the bytes of what is reported of line k
--   Plays h k ls bs         from the history h on, the lines ls, of which the first is line k, are answered by the bytes bs
--   LinePlayed ..           what is done for one line
--   Answered ..             the text is lawful, the output has room for it, and was written as its lines are answered
--   Unfit text room e       the text is refused with e, given an output of `room` bytes
--   Played ..               what `play` does: it answers the text, or refuses it and alters nothing
--   unplayed f              the refusal of a text with the fault f
--   number_of e             the number of the refusal of a text
--   refusal_bytes e         the line that tells of it
--   Correlated ..           what `correlate` writes
use Rattle.std.specs.Prelude.{◌≡◌, ℕ, ◌+◌, ◌*◌, ◌<◌, ◌≤◌, List, [], ◌∷◌, ◌++◌, length, map, Some, None, Ok, Err, Option, Result}
use Rattle.answer_lines.specs.Output.{line_room, Wrote, Writes, order_line, refused_line, refused_text}
use Rattle.answer_lines.specs.declared.Output.{Output}
use Rattle.causality.specs.declared.CausalOrder.{CausalOrder}
use Rattle.history.specs.declared.refusal.Refusal.{Refusal}
use Rattle.history.specs.Calls.{next_history, history_after}
use Rattle.history.specs.History.{History, idle}
use Rattle.history.specs.Refusals.{number}
use Rattle.job_text.specs.Texts.{Breaks, Lawful, TooMuch}
use Rattle.line_forms.specs.declared.forms.Line.{Line}
use Rattle.job_text.specs.declared.scan.Fault.{Fault}
use Rattle.play.specs.declared.text.PlayRefusal.{PlayRefusal}
use Rattle.play.specs.declared.text.PlayRefusal.TheVariants.{TooLong, Malformed, ShortOut}
use Rattle.play.specs.Reports.{Reported, call_of}

-- ---- lines

abbrev pub report_bytes : ℕ → Result (Option CausalOrder) Refusal → List ℕ
report_bytes k (Ok None) = []
report_bytes k (Ok (Some o)) = order_line k o
report_bytes k (Err e) = refused_line k (number e)

-- one line after another: the bytes of its report, and then those of the lines behind it
abbrev pub Plays : History → ℕ → List Line → List ℕ → Type 0
Plays h k [] bs = bs ≡ []
Plays h k (l ∷ ls) bs =
    (r : Result (Option CausalOrder) Refusal) × (rest : List ℕ) × Reported h l r × (bs ≡ report_bytes k r ++ rest) × Plays (next_history h (call_of l)) (k + 1) ls rest

-- line k, found at the history h: its report is written behind what the output has, and h' is the history that its call leaves
pub record LinePlayed (h : History) (k : ℕ) (l : Line) (old new : Output) (h' : History) : Type 0 where
  pub report : Result (Option CausalOrder) Refusal
  pub reported : Reported h l report
  pub writes : Writes old (report_bytes k report) new
  pub after : h' ≡ next_history h (call_of l)

-- ---- texts

-- from the history h and the output `old` to the history h' and the output `new`, of which the first `to` bytes were written;
-- `lawful.all.lines` are the lines that spell the text, `count` of them
pub record Answered (h : History) (text old : List ℕ) (to : ℕ) (new : List ℕ) (h' : History) : Type 0 where
  pub count : ℕ
  pub lawful : Lawful text count
  pub room : line_room * count ≤ length old
  pub bytes : List ℕ
  pub plays : Plays h 1 lawful.all.lines bytes
  pub wrote : Wrote old 0 bytes new to
  pub after : h' ≡ history_after h (map call_of lawful.all.lines)

-- too long, or else malformed, or else lawful and with too little room
abbrev pub Unfit : List ℕ → ℕ → PlayRefusal → Type 0
Unfit text room TooLong = TooMuch text
Unfit text room (Malformed k) = Breaks text k
Unfit text room ShortOut = (n : ℕ) × Lawful text n × (room < line_room * n)

abbrev pub Played : History → List ℕ → List ℕ → Result ℕ PlayRefusal → List ℕ → History → Type 0
Played h text old (Ok n) new h' = Answered h text old n new h'
Played h text old (Err e) new h' = (new ≡ old) × (h' ≡ h) × Unfit text (length old) e

-- ---- refusals of a text

abbrev pub number_of : PlayRefusal → ℕ
number_of TooLong = 21
number_of (Malformed k) = 20
number_of ShortOut = 22

-- why a text with this fault is not played
abbrev pub unplayed : Fault → PlayRefusal
unplayed Fault.TooLong = TooLong
unplayed (Fault.Malformed k) = Malformed k

abbrev pub refusal_bytes : PlayRefusal → List ℕ
refusal_bytes TooLong = refused_text (number_of TooLong)
refusal_bytes (Malformed k) = refused_line k (number_of (Malformed k))
refusal_bytes ShortOut = refused_text (number_of ShortOut)

-- the text is answered from the history of a correlator just made, or its refusal is told; the output is never too short
pub data Correlated (text old : List ℕ) (n : ℕ) (new : List ℕ) : Type 0 where
  answered : (h : History) → Answered idle text old n new h → Correlated text old n new
  too_long : TooMuch text → Wrote old 0 (refusal_bytes TooLong) new n → Correlated text old n new
  malformed : (k : ℕ) → Breaks text k → Wrote old 0 (refusal_bytes (Malformed k)) new n → Correlated text old n new
