-- The rows that are joined, as the clocks count them.
--
--   own_count μ v e i            the count of entry e, which is event v, at node i if it stands there, else 0: its index there
--   row_from_last ρ total e      the counts of the entry that member e is when so many events are numbered from the last
--   column_length μ ρ total i    how many events node i has: the reverse clock's first entry there, of which μ counts all before it
--   from_column_end l c          one more than the length l, at most 65,535, less c; no column is that long
use Rattle.std.specs.Prelude.{ℕ, ◌+◌, ◌-◌, min, cond, List, length, Some, None, Option, nat_lt, slice_index_or}
use Rattle.causality.specs.declared.Event.{Event}
use Rattle.causality.specs.Entries.{at_either}
use Rattle.causality.specs.Traces.{node_of, partner_of}
use Rattle.clock.specs.Meaning.{Meaning, counted, found}
use Rattle.counting.specs.Counting.{or_zero, or_zeros, count_row}
use Rattle.gathering.specs.declared.Row.{Row}
use Rattle.history.specs.Answers.{row}

abbrev pub own_count : Meaning → Event → ℕ → ℕ → ℕ
own_count μ v e i = cond (at_either (node_of v) (partner_of v) i) (or_zero (counted μ e i)) 0

abbrev pub own_row : Meaning → Event → ℕ → Row
own_row μ v e = record { counts = row (own_count μ v e) 16 }

abbrev pub own_row_of : Meaning → List Event → ℕ → Row
own_row_of μ es e = cond (nat_lt e (length es)) (own_row μ (slice_index_or es e (Event.Local 0)) e) (or_zeros None)

abbrev pub row_from_last : Meaning → ℕ → ℕ → Row
row_from_last ρ total e = count_row ρ (total - 1 - e)

abbrev pub last_index : Meaning → ℕ → ℕ → Option ℕ → ℕ
last_index μ total i None = 0
last_index μ total i (Some e) = or_zero (counted μ (total - 1 - e) i)

abbrev pub column_length : Meaning → Meaning → ℕ → ℕ → ℕ
column_length μ ρ total i = last_index μ total i (found ρ i 1)

abbrev pub length-row : Meaning → Meaning → ℕ → Row
length-row μ ρ total = record { counts = row (column_length μ ρ total) 16 }

abbrev pub from_column_end : ℕ → ℕ → ℕ
from_column_end l c = min (l + 1) 65535 - c
