-- A correlator as a caller sees it: what it was told of the trace, and the history that this is.
--
-- The events stand newest first. No operation is told yet.
use Rattle.std.specs.Prelude.{ℕ, List}
use Rattle.causality.specs.declared.Event.{Event}
use Rattle.history.specs.declared.Stage.{Stage}
use Rattle.history.specs.History.{History, no_operations}

pub record Told : Type 0 where
  pub stage : Stage
  pub nodes : ℕ
  pub events : List Event

abbrev pub history : Told → History
history t = record { stage = t.stage; nodes = t.nodes; events = t.events; operations = no_operations }
