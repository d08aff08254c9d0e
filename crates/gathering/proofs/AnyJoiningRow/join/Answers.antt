use Rattle.std.proofs.Common.{◌≡◌, ℕ, ◌<◌, List, length, ap, arith, rules}
use Rattle.gathering.specs.declared.Row.{Row}
use Rattle.gathering.specs.Zips.{same_zipped}
use Rattle.gathering.proofs.AnyJoiningRow.join.Goals as goal

pub returns : goal.returns
returns g c =
    let made = c.from_fn.ensures.items in
    let row : List ℕ → Row = λ l. record { counts = l } in
    let la : length c.args.a.counts ≡ 16 = search rules in
    let lb : length c.args.b.counts ≡ 16 = search rules in
    ap row (same_zipped g.J.Joining.op c.args.a.counts c.args.b.counts c.from_fn.result (omega arith) (omega (arith, made.long)) (λ i h. let k : i < 16 = omega arith in let (p, q, called) = made.at i 0 k in search rules))
