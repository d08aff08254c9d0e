-- What calls leave is reached.
use Rattle.std.proofs.Common.{List, [], ◌∷◌}
use Rattle.history.specs.History.{History, idle}
use Rattle.history.specs.Calls.{Call, next_history, history_after}
use Rattle.history.proofs.Lawful.{histories_lawful}
use Rattle.history.proofs.Members.{histories_hold}
use Rattle.agreement.specs.Agreement.{Reached}

reached_after : (h : History) → Reached h → (cs : List Call) → Reached (history_after h cs)
reached_after h reached [] = reached
reached_after h reached (c ∷ cs) = reached_after (next_history h c) (record { lawful = histories_lawful.1 h c reached.lawful; members = histories_hold.1 h c reached.members }) cs

-- from a correlator just made
pub reached : (cs : List Call) → Reached (history_after idle cs)
reached = reached_after idle (record { lawful = histories_lawful.0; members = histories_hold.0 })
