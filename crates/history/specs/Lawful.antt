-- What holds of every history that calls leave: each event stands at nodes of the trace, at two different ones if at two; no
-- message was sent twice or received twice, and none was received unless it was sent; there are no more events than the limit.
use Rattle.std.specs.Prelude.{◌≡◌, ℕ, ◌≤◌, Bool, true, false, List, [], ◌∷◌, length, Some, None, Option}
use Rattle.std.specs.List.{AllByRecursion}
use Rattle.causality.specs.declared.Event.{Event}
use Rattle.causality.specs.Limits.{max_nodes, max_events, is_node}
use Rattle.causality.specs.Entries.{is}
use Rattle.causality.specs.Traces.{node_of, partner_of, sends, receives, was_sent, Accepted}
use Rattle.history.specs.History.{History, idle, was_received, is_full}
use Rattle.history.specs.Calls.{Call, next_history}

-- what is given, if anything, is a node
abbrev pub if_node : ℕ → Option ℕ → Bool
if_node n None = true
if_node n (Some i) = is_node n i

pub record Fits (n : ℕ) (v : Event) : Type 0 where
  pub here : is_node n (node_of v) ≡ true
  pub there : if_node n (partner_of v) ≡ true
  pub apart : is (partner_of v) (node_of v) ≡ false

-- no message was received twice
abbrev pub Once : List Event → Type 0
Once [] = Unit {0}
Once (v ∷ vs) = ((m : ℕ) → receives v ≡ Some m → was_received vs m ≡ false) × Once vs

pub record Lawful (h : History) : Type 0 where
  pub fits : AllByRecursion (Fits h.nodes) h.events
  pub accepted : Accepted h.events
  pub once : Once h.events
  pub few : length h.events ≤ max_events
  pub nodes : is_node max_nodes h.nodes ≡ true

-- event v may come next
pub record May (h : History) (v : Event) : Type 0 where
  pub fits : Fits h.nodes v
  pub unsent : (m : ℕ) → sends v ≡ Some m → was_sent h.events m ≡ false
  pub known : (m : ℕ) → receives v ≡ Some m → was_sent h.events m ≡ true
  pub unreceived : (m : ℕ) → receives v ≡ Some m → was_received h.events m ≡ false
  pub room : is_full h.events ≡ false

abbrev pub HistoriesLawful : Type 0
HistoriesLawful = Lawful idle × ((h : History) (c : Call) → Lawful h → Lawful (next_history h c))
