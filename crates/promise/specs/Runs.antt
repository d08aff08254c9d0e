-- Requests made one after another on a correlator just made.
--
--   nth xs k               the element of number k, from 0 and the first
--   found qs k             the history that the request of number k finds: what the k requests before it left
--   Ran h qs as            from the history h on, the requests qs are answered by as, each by the history that it finds
use Rattle.std.specs.Prelude.{◌≡◌, ℕ, zero, suc, ◌<◌, List, [], ◌∷◌, length, map, take, drop, Some, None, Ok, Err, Option, Result}
use Rattle.history.specs.History.{History, idle}
use Rattle.history.specs.Calls.{next_history, history_after}
use Rattle.promise.specs.declared.requests.Answer.{Answer}
use Rattle.promise.specs.declared.requests.Request.{Request}
use Rattle.promise.specs.declared.runs.Short.{Short}
use Rattle.promise.specs.Requests.{call_of, Performed}

abbrev pub nth : {X : Type 0} → List X → ℕ → Option X
nth [] k = None
nth (x ∷ xs) zero = Some x
nth (x ∷ xs) (suc k) = nth xs k

abbrev pub found : List Request → ℕ → History
found qs k = history_after idle (map call_of (take k qs))

abbrev pub Ran : History → List Request → List Answer → Type 0
Ran h [] [] = Unit {0}
Ran h [] (a ∷ rest) = ⊥
Ran h (q ∷ qs) [] = ⊥
Ran h (q ∷ qs) (a ∷ rest) = Performed h q a (next_history h (call_of q)) × Ran (next_history h (call_of q)) qs rest

-- the answers of a run stand at the front of the memory for them, and what lies behind stays; memory that is too short stays
abbrev pub Run : List Request → List Answer → Result (Unit {0}) Short → List Answer → Type 0
Run qs old (Ok u) new = Ran idle qs (take (length qs) new) × (drop (length qs) new ≡ drop (length qs) old)
Run qs old (Err e) new = (length old < length qs) × (new ≡ old)
