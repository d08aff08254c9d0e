-- Calls made one after another.
use Rattle.std.proofs.Common.{◌≡◌, List, [], ◌∷◌, ◌++◌, refl}
use Rattle.history.specs.History.{History}
use Rattle.history.specs.Calls.{Call, next_history, history_after}

pub after_push : (h : History) (cs : List Call) (c : Call) → history_after h (cs ++ c ∷ []) ≡ next_history (history_after h cs) c
after_push h [] c = refl
after_push h (b ∷ cs) c = after_push (next_history h b) cs c
