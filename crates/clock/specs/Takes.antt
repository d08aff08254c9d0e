-- What a clock means that took some entries of the causal theory, and what that theory then says of its answers.
--
-- A clock that begins blank means exactly the entries that it accepted (`MeaningsGrow`), counts their vector timestamps and
-- finds their places (`MeaningsAnswer`), and so tells from which entries chains of edges lead (`CountsAreChains`).
--
--   meaning n ts   the meaning of n nodes and the entries ts, newest first
--   Reach ts x e   x is e, or a chain of edges leads from x to e
use Rattle.std.specs.Prelude.{◌≡◌, ℕ, ◌≤◌, true, cond, ◌&&◌, ◌↔◌, List, [], ◌∷◌, length, Some, None, Option, nat_lt}
use Rattle.causality.specs.Entries.{Entry, at, stamp, Reach}
use Rattle.causality.specs.Limits.{is_node}
use Rattle.clock.specs.Meaning.{Held, Meaning, appended, asked, accepts, taken, number, counted, found, Laws}

-- what a clock holds of the entries that it took
abbrev pub entries_of : List Entry → List Held
entries_of [] = []
entries_of (t ∷ ts) = appended t (entries_of ts)

abbrev pub meaning : ℕ → List Entry → Meaning
meaning n ts = record { nodes = n; entries = entries_of ts }

-- an accepted take is one more entry
abbrev pub MeaningsGrow : Type 0
MeaningsGrow =
    (n : ℕ) (ts : List Entry) (a : ℕ) (b m : Option ℕ) → accepts (meaning n ts) a b m ≡ true →
    (taken (meaning n ts) a b m ≡ meaning n (asked a b m ∷ ts)) × (number (meaning n ts) a b m ≡ Some (length ts))

-- a count is the entry's timestamp at the node, and what is found is the node's k-th entry
abbrev pub MeaningsAnswer : Type 0
MeaningsAnswer =
    (n : ℕ) (ts : List Entry) (e i k : ℕ) →
    (counted (meaning n ts) e i ≡ cond (nat_lt e (length ts) && is_node n i) (Some (stamp ts e i)) None)
    × (found (meaning n ts) i k ≡ cond (is_node n i) (at ts i k) None)

abbrev pub MeaningsLawful : Type 0
MeaningsLawful = (n : ℕ) (ts : List Entry) → Laws (meaning n ts)

-- where x is the k-th entry at node i and e counts c entries there: k is at most c exactly if x is e or a chain leads from x to e
abbrev pub CountsAreChains : Type 0
CountsAreChains =
    (n : ℕ) (ts : List Entry) (i k x e c : ℕ) → found (meaning n ts) i k ≡ Some x → counted (meaning n ts) e i ≡ Some c →
    (k ≤ c) ↔ Reach ts x e
