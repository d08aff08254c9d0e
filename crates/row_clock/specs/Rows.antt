-- What the rows and columns of a row clock mean, and of which entries they are.
--
-- The row of an entry holds its vector timestamp: how many entries of each node lie in its past. The column of a node holds
-- the numbers of its entries. An entry lies in the past of another exactly if that other counts at least as many entries at its
-- node as it counts itself, so the rows alone mean all pasts. `Keeps` says that rows and columns are those of a list of entries.
--
--   cell rows e i       the count of entry e at node i
--   line_of columns i   the numbers of the entries at node i, newest first
--   reaches rows e x    entry x lies in the past of entry e, as the rows tell it
--   Keeps, Kept         the rows and columns are those of given entries, of some entries
--   next_count, Filed   what a take writes to the new row, and to the columns
use Rattle.std.specs.Prelude.{◌≡◌, ℕ, ◌+◌, ◌-◌, ◌<◌, max, Bool, true, cond, ◌&&◌, List, [], ◌∷◌, length, get_or, replicate, Some, None, Option, nat_le, slice_index, slice_index_or, refl}
use Rattle.causality.specs.Newest.{entry}
use Rattle.causality.specs.Entries.{Entry, at_either, newest, timeline, stamp}
use Rattle.causality.specs.Limits.{max_nodes, is_node}
use Rattle.clock.specs.Meaning.{Held, Meaning}
use Rattle.clock.specs.Arrays.{listed}
use Rattle.row_clock.specs.declared.parts.Row.{Row}

abbrev pub no_row : Row
no_row = record { node = 1; partner = None; counts = replicate max_nodes 0; wide = refl; placed = refl }

abbrev pub no_column : List ℕ
no_column = []

abbrev pub cell : List Row → ℕ → ℕ → ℕ
cell rows e i = slice_index (get_or rows e no_row).counts (i - 1)

abbrev pub line : List ℕ → List ℕ
line c = listed (λ k. slice_index c k) (length c)

abbrev pub line_of : List (List ℕ) → ℕ → List ℕ
line_of columns i = line (slice_index_or columns (i - 1) no_column)

-- ---- what rows mean

abbrev pub reaches : List Row → ℕ → ℕ → Bool
reaches rows e x = nat_le x e && nat_le (cell rows x (get_or rows x no_row).node) (cell rows e (get_or rows x no_row).node)

abbrev pub held_row : List Row → ℕ → Held
held_row rows e = record { node = (get_or rows e no_row).node; partner = (get_or rows e no_row).partner; past = reaches rows e }

-- what all rows mean, newest first
abbrev pub held_rows : List Row → List Held
held_rows rows = listed (held_row rows) (length rows)

abbrev pub rows_mean : ℕ → List Row → Meaning
rows_mean n rows = record { nodes = n; entries = held_rows rows }

-- ---- the entries of rows and columns

pub record Keeps (rows : List Row) (columns : List (List ℕ)) (ts : List Entry) : Type 0 where
  pub size : length ts ≡ length rows
  -- each row has the nodes of its entry
  pub placed : (e : ℕ) → e < length rows →
      (priors : List ℕ) × (entry ts e ≡ Some (record { node = (get_or rows e no_row).node; partner = (get_or rows e no_row).partner; priors = priors }))
  -- and its timestamp
  pub stamped : (e i : ℕ) → e < length rows → is_node max_nodes i ≡ true → cell rows e i ≡ stamp ts e i
  -- each column is the timeline of its node
  pub filed : (i : ℕ) → is_node max_nodes i ≡ true → line_of columns i ≡ timeline ts i

abbrev pub Kept : List Row → List (List ℕ) → Type 0
Kept rows columns = ∥ ((ts : List Entry) × Keeps rows columns ts) ∥₁

-- ---- the steps of a take

abbrev pub latest_of : List (List ℕ) → Option ℕ → Option ℕ
latest_of columns None = None
latest_of columns (Some i) = newest (line_of columns i)

abbrev pub cell_of : List Row → Option ℕ → ℕ → ℕ
cell_of rows None i = 0
cell_of rows (Some e) i = cell rows e i

-- the count of a new entry at node i: at its own nodes one more than all there, elsewhere the greatest of its predecessors'
abbrev pub next_count : List Row → List (List ℕ) → ℕ → Option ℕ → Option ℕ → Option ℕ → Option ℕ → ℕ → ℕ
next_count rows columns a b x y z i =
    cond (at_either a b i) (length (get_or columns (i - 1) no_column) + 1) (max (cell_of rows x i) (max (cell_of rows y i) (cell_of rows z i)))

-- entry e is appended to the columns of a and b
abbrev pub Filed : List (List ℕ) → ℕ → Option ℕ → ℕ → List (List ℕ) → Type 0
Filed columns a b e columns' =
    (i : ℕ) → is_node max_nodes i ≡ true → line_of columns' i ≡ cond (at_either a b i) (e ∷ line_of columns i) (line_of columns i)
