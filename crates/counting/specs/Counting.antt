-- Counts that a clock answers, as numbers and as rows.
--
--   or_zero o        a count, or 0 where it is absent
--   count_row μ e    the counts of entry e at the nodes 1 to 16
--   or_zeros o       a row, or zeros where there is none
--   zipped_rows f    rows joined number by number
--   Joint f μ es r   r is none if there are no entries es; else at each node it joins by f the counts of all of them
--   JointRow f of es r   at each node, r joins by f the numbers of the rows that `of` gives of the entries es, if there are any
use Rattle.std.specs.Prelude.{◌≡◌, ℕ, suc, ◌<◌, List, [], ◌∷◌, replicate, Some, None, Option, slice_index}
use Rattle.std.specs.Option.{unwrap_or}
use Rattle.causality.specs.Relations.{joined}
use Rattle.clock.specs.Meaning.{Meaning, counted}
use Rattle.gathering.specs.declared.Row.{Row}
use Rattle.gathering.specs.Gathering.{zipped}
use Rattle.history.specs.Answers.{row}

abbrev pub or_zero : Option ℕ → ℕ
or_zero o = unwrap_or o 0

abbrev pub count_row : Meaning → ℕ → Row
count_row μ e = record { counts = row (λ i. or_zero (counted μ e i)) 16 }

abbrev pub zipped_rows : (ℕ → ℕ → ℕ) → Row → Row → Row
zipped_rows f x y = record { counts = zipped f x.counts y.counts }

abbrev pub Joint : (ℕ → ℕ → ℕ) → Meaning → List ℕ → Option Row → Type 0
Joint f μ [] r = r ≡ None
Joint f μ (e ∷ es) r = (all : Row) × (r ≡ Some all) × ((i : ℕ) → i < 16 → slice_index all.counts i ≡ joined f (λ u. or_zero (counted μ u (suc i))) e es)

abbrev pub or_zeros : Option Row → Row
or_zeros o = unwrap_or o (record { counts = replicate 16 0 })

abbrev pub JointRow : (ℕ → ℕ → ℕ) → (ℕ → Row) → List ℕ → Row → Type 0
JointRow f of [] r = Unit {0}
JointRow f of (e ∷ es) r = (i : ℕ) → i < 16 → slice_index r.counts i ≡ joined f (λ u. slice_index (of u).counts i) e es
