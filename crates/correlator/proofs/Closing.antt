-- A trace that is closed: the reverse clock has taken its events from last to first.
use Rattle.std.proofs.Common.{◌≡◌, ℕ, cond, List, [], ◌∷◌, length, None, refl, sym, ap, ◌∙◌, subst, ap₂}
use mathlib.Core.List.{reverse-reverse}
use Rattle.std.proofs.lemmas.List.{length-reverse}
use Rattle.causality.specs.declared.Event.{Event}
use Rattle.causality.specs.Traces.{backward}
use Rattle.clock.specs.Meaning.{Meaning}
use Rattle.clock.specs.Takes.{meaning}
use Rattle.causality.proofs.Newest.{nothing}
use Rattle.history.specs.declared.Stage.{Stage}
use Rattle.history.specs.declared.refusal.Refusal.{Refusal}
use Rattle.history.specs.History.{History, is_idle, is_closed}
use Rattle.history.specs.Calls.{Call, after, first_that}
use Rattle.history.specs.Lawful.{Fits, Lawful}
use Rattle.records.specs.declared.messages.Sent.{Sent}
use Rattle.records.specs.Messages.{sent_of}
use Rattle.feeding.specs.Posted.{posted, follower, fed_through}
use Rattle.feeding.proofs.Backs.{fed_whole, all-reverse}
use Rattle.correlator.specs.declared.trace.Trace.{Trace}
use Rattle.correlator.specs.Trace.{traced}
use Rattle.correlator.specs.Sound.{fed, Sound}

-- a stage that neither refusal names is open
pub opened : (s : Stage) → None ≡ first_that ((is_idle s, Refusal.Idle) ∷ (is_closed s, Refusal.Closed) ∷ []) → s ≡ Stage.Open
opened Stage.Idle e = absurd (nothing e)
opened Stage.Open e = refl
opened Stage.Closed e = absurd (nothing e)

pub sound_closed : (ahead back back' : Meaning) (t t' : Trace) → Sound ahead back t → t.stage ≡ Stage.Open → traced t' ≡ after (traced t) Call.close → t'.sent ≡ t.sent →
    back' ≡ fed_through back (follower (sent_of t.sent) (length t.events)) t.events → Sound ahead back' t'
sound_closed ahead back back' t t' sound open-is now same fed-back =
    let h = traced t in
    let vs : List Event = h.events in
    let lawful = sound.lawful in
    let held = sent_of t.sent in
    let empty : back ≡ meaning t.nodes [] = sound.returns ∙ ap (λ (s : Stage). meaning t.nodes (cond (is_closed s) (backward vs) [])) open-is in
    let whole = fed_whole vs lawful.accepted lawful.once held sound.posts t.nodes lawful.few (all-reverse (Fits t.nodes) vs lawful.fits) in
    let kept : Lawful (after h Call.close) = record { fits = lawful.fits; accepted = lawful.accepted; once = lawful.once; few = lawful.few; nodes = lawful.nodes } in
    record {
      follows = sound.follows ∙ ap fed (sym now);
      returns =
          fed-back
          ∙ ap₂ (λ (μ : Meaning) (n : ℕ). fed_through μ (follower held n) t.events) empty (sym (length-reverse t.events))
          ∙ ap (fed_through (meaning t.nodes []) (follower held (length vs))) (sym (reverse-reverse t.events))
          ∙ whole
          ∙ ap (λ (x : History). meaning x.nodes (cond (is_closed x.stage) (backward x.events) [])) (sym now);
      lawful = subst Lawful (sym now) kept;
      posts = λ m. ap (λ (s : List Sent). sent_of s m) same ∙ sound.posts m ∙ ap (λ (x : History). posted x.events m) (sym now);
    }
