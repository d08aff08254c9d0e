-- What an accepted question has to tell.
use Rattle.std.proofs.Common.{◌≡◌, MatchResult, Some, Ok, Err, Option, Result, ap, ◌∙◌}
use Rattle.std.specs.Result.{IsOkAnd}
use Rattle.history.specs.declared.refusal.Refusal.{Refusal}
use Rattle.history.specs.History.{History}
use Rattle.history.specs.Calls.{Call}
use Rattle.history.specs.Answers.{Obeys}

-- an answer that is told obeys as the answer does
pub obeys_told : {X : Type 0} (h h' : History) (k : Call) (Right : X → Type 0) (r : Result X Refusal) (s : Result (Option X) Refusal) →
    MatchResult r (λ x. IsOkAnd s (λ o. o ≡ Some x)) (λ e. s ≡ Err e) → Obeys h k r Right h' → Obeys h k s (λ o. (x : X) × (o ≡ Some x) × Right x) h'
obeys_told h h' k Right (Ok x) (Ok o) is ob = record { refuses = ob.refuses; leaves = ob.leaves; answers = (x, is, ob.answers) }
obeys_told h h' k Right (Ok x) (Err e) is ob = absurd is
obeys_told h h' k Right (Err e) (Ok o) is ob = absurd (cc)
obeys_told h h' k Right (Err e) (Err f) is ob = record { refuses = (let same : f ≡ e = cc in ap Some same ∙ ob.refuses); leaves = ob.leaves; answers = tt }
