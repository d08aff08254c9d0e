use Rattle.std.proofs.Common.{rules}
use Rattle.play.proofs.Playing.{told, told_unfit}
use Rattle.play.proofs.text.correlate.Goals as goal

pub returns-in-Ok : goal.returns-in-Ok
returns-in-Ok g c =
    record { room = search rules; correlated = told c.new-c.ensures c.in-Ok.ensures.played }

pub returns : goal.returns
returns g c =
    let p = c.in-Err.ensures.played in
    record { room = search rules; correlated = told_unfit {mid = c.play.new.out} {new = c.put_refusal.new.out} c.in-Err.refusal (search rules) p.0 p.2 c.put_refusal.ensures }
