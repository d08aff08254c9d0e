use Rattle.std.proofs.Common.{◌≡◌, ℕ, ◌<◌, List, length, take, drop, subst, arith}
use Rattle.std.proofs.lemmas.List.{take_all}
use Rattle.correlator.specs.Told.{history}
use Rattle.history.specs.History.{idle}
use Rattle.promise.specs.declared.requests.Request.{Request}
use Rattle.promise.specs.declared.requests.Request.TheVariants.{Start}
use Rattle.promise.specs.Runs.{Ran}
use Rattle.promise.proofs.Running.{after_more, ran_more, behind_more}
use Rattle.promise.proofs.runs.perform_all.Goals as goal

pub loop-k-preserved : goal.loop-k-preserved
loop-k-preserved g c =
    let qs = c.args.requests.now in
    let old = c.args.answers.now in
    let rs = c.loop-k.answers in
    let k = c.loop-k.k in
    let d : Request = Start 0 in
    let low : k < length qs = c.loop-k-test.true in
    let room : k < length rs = omega arith in
    let h = history c.loop-k.c in
    let h' = history c.perform.new.c in
    let done = c.perform.ensures in (
      after_more qs old rs k d low room h h' c.perform.result c.loop-k.invariant.0 done,
      ran_more qs old rs k d low room h h' c.perform.result c.loop-k.invariant.0 done c.loop-k.invariant.1,
      behind_more qs old rs k d low room h h' c.perform.result c.loop-k.invariant.0 done c.loop-k.invariant.2,
    )

pub returns : goal.returns
returns g c =
    let qs = c.args.requests.now in
    let rs = c.loop-k.answers in
    let k = c.loop-k.k in
    let end : k ≡ length qs = omega arith in (
      subst (λ (xs : List Request). Ran idle xs (take (length qs) rs)) (take_all (length qs) qs (omega arith)) (subst (λ (n : ℕ). Ran idle (take n qs) (take n rs)) end c.loop-k.invariant.1),
      subst (λ (n : ℕ). drop n rs ≡ drop n c.args.answers.now) end c.loop-k.invariant.2,
    )
