use Rattle.std.proofs.Common.{◌≡◌, [], rules, refl}
use Rattle.correlator.specs.Told.{history}
use Rattle.play.proofs.Playing.{answered_as, begin, done_all, no_more, none_left, one_more, readable}
use Rattle.play.proofs.text.play.Goals as goal
use Rattle.play.proofs.text.play.Goals.{else-loop-k-test, then-loop-k-test+in_default, then-loop-k-test+in-Some+in_default-read_line}

pub loop-k-init : goal.loop-k-init
loop-k-init g c = begin (history c.args.c.now) _ refl c.in_ok-lines.ensures c.new-reader.ensures

pub loop-k-preserved : goal.loop-k-preserved
loop-k-preserved g c = one_more c.in-Some-read_line.call c.loop-k.invariant c.in-Some.ensures c.in-Some-read_line.ensures c.play_line.ensures.room c.play_line.ensures.played

pub returns-clause-played : goal.returns-clause-played
returns-clause-played g c =
    let played = c.loop-k.invariant in
    let same = played.going.writes.same in
    let none : played.todo ≡ [] = elim c.loop-k-test.branch [
      | else-loop-k-test w ↦ none_left played (search rules)
      | then-loop-k-test+in_default w ↦ no_more played w.in_default.ensures
      | then-loop-k-test+in-Some+in_default-read_line w ↦ absurd (readable played w.in-Some.ensures w.in_default-read_line.ensures)
    ] in
    answered_as c.loop-k.output (done_all played none refl (search rules)) (search rules)
