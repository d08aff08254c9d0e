-- What the links of a link clock mean, and what a walk back over them does.
--
-- The link of an entry holds its nodes and its immediate predecessors. Its nodes and the entry that it follows by a message
-- are the entry as it was taken, so the links alone mean a list of entries; `Keeps` says that the other predecessors are theirs.
-- A walk marks an entry, and then from there down to the oldest marks the predecessors of each marked entry: the marked
-- entries are the past.
--
--   takes_of links k        the entries that the first k links are of, newest first; `all_takes` those of all links
--   before link             the immediate predecessors
--   Keeps, Kept             the links and the latest entries are those of these entries
--   marked marks xs         marks, and those of xs too
--   visited, met            what a visit of one entry marks, and whether it meets an entry at the node
--   reached past marks k y  y lies in the past of a marked entry below k
--   Walked                  what holds on the way of a walk
use Rattle.std.specs.Prelude.{◌≡◌, ℕ, zero, suc, ◌+◌, ◌-◌, ◌<◌, ◌≤◌, Bool, true, false, cond, ◌&&◌, ◌||◌, List, [], ◌∷◌, ◌++◌, length, get_or, Some, None, Option, nat_lt, slice_index_or, slice_set}
use Rattle.std.specs.Option.{option_to_list}
use Rattle.causality.specs.Newest.{tally}
use Rattle.causality.specs.Entries.{Entry, at_either, timeline, latest, predecessors, past, stamp}
use Rattle.causality.specs.Limits.{max_nodes, is_node}
use Rattle.clock.specs.Meaning.{Meaning, max_entries, if_given, asked}
use Rattle.clock.specs.Takes.{meaning}
use Rattle.clock.specs.Arrays.{listed}
use Rattle.link_clock.specs.declared.Link.{Link}

abbrev pub no_link : Link
no_link = record { entry = record { node = 0; partner = None; prior = None }; before = record { own = None; other = None } }

abbrev pub entry_of : Link → Entry
entry_of l = asked l.entry.node l.entry.partner l.entry.prior

abbrev pub takes_of : List Link → ℕ → List Entry
takes_of links k = listed (λ e. entry_of (slice_index_or links e no_link)) k

abbrev pub all_takes : List Link → List Entry
all_takes links = takes_of links (length links)

abbrev pub links_mean : ℕ → List Link → Meaning
links_mean n links = meaning n (all_takes links)

abbrev pub before : Link → List ℕ
before l = option_to_list l.before.own ++ (option_to_list l.before.other ++ option_to_list l.entry.prior)

-- all predecessors are below k
abbrev pub earlier : ℕ → Link → Bool
earlier k l = if_given (λ x. nat_lt x k) l.before.own && (if_given (λ x. nat_lt x k) l.before.other && if_given (λ x. nat_lt x k) l.entry.prior)

-- ---- the predecessors of the entries taken

pub record Keeps (links : List Link) (latest_at : List (Option ℕ)) : Type 0 where
  -- each link has the predecessors of its entry, all earlier than it
  pub right : (e : ℕ) → e < length links → before (slice_index_or links e no_link) ≡ predecessors (entry_of (slice_index_or links e no_link)) (takes_of links e)
  pub low : (e : ℕ) → e < length links → earlier e (slice_index_or links e no_link) ≡ true
  -- each node has its latest entry
  pub last : (i : ℕ) → is_node max_nodes i ≡ true → slice_index_or latest_at (i - 1) None ≡ latest (all_takes links) (Some i)

abbrev pub Kept : List Link → List (Option ℕ) → Type 0
Kept links latest_at = ∥ (Keeps links latest_at) ∥₁

-- ---- the steps of a take

abbrev pub latest_of : List (Option ℕ) → Option ℕ → Option ℕ
latest_of latest_at None = None
latest_of latest_at (Some i) = slice_index_or latest_at (i - 1) None

-- entry e is the latest at a and b
abbrev pub Noted : List (Option ℕ) → ℕ → Option ℕ → ℕ → List (Option ℕ) → Type 0
Noted latest_at a b e latest_at' =
    (i : ℕ) → is_node max_nodes i ≡ true → slice_index_or latest_at' (i - 1) None ≡ cond (at_either a b i) (Some e) (slice_index_or latest_at (i - 1) None)

-- ---- the walk

abbrev pub marked : List Bool → List ℕ → List Bool
marked marks [] = marks
marked marks (x ∷ xs) = marked (slice_set marks x true) xs

-- the marks after a visit of entry x
abbrev pub visited : List Link → List Bool → ℕ → List Bool
visited links marks x = cond (slice_index_or marks x false) (marked marks (before (slice_index_or links x no_link))) marks

-- entry x is marked and stands at node i
abbrev pub met : List Link → List Bool → ℕ → ℕ → Bool
met links marks x i = slice_index_or marks x false && at_either (get_or links x no_link).entry.node (get_or links x no_link).entry.partner i

abbrev pub reached : (ℕ → ℕ → Bool) → List Bool → ℕ → ℕ → Bool
reached past_of marks zero y = false
reached past_of marks (suc z) y = (slice_index_or marks z false && past_of z y) || reached past_of marks z y

-- from e back to x: what is marked below x reaches the rest of the past of e, and count is what was met
pub record Walked (links : List Link) (e i : ℕ) (marks : List Bool) (x count : ℕ) : Type 0 where
  pub size : length marks ≡ max_entries
  pub low : x ≤ e + 1
  pub small : count + x ≤ max_entries
  pub left : (y : ℕ) → y < x → reached (past (all_takes links)) marks x y ≡ past (all_takes links) e y
  pub counted : count + tally (past (all_takes links) e) (timeline (takes_of links x) i) ≡ stamp (all_takes links) e i
