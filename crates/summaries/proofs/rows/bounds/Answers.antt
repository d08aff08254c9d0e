use Rattle.std.proofs.Common.{◌≡◌, replicate, ap, ◌∙◌, rules}
use Rattle.std.specs.Option.{unwrap_or}
use Rattle.counting.specs.Counting.{or_zeros}
use Rattle.gathering.specs.declared.Row.{Row}
use Rattle.gathering.specs.Gathering.{joined_all}
use Rattle.gathering.proofs.Made.{both, made_twice, joined_both}
use Rattle.summaries.proofs.rows.bounds.Goals as goal

pub returns : goal.returns
returns g c =
    let f = g.J.Joining.op in
    let h = g.K.Joining.op in
    let zeros : Row = record { counts = replicate 16 0 } in
    let (made, each, joined) = c.gather_by.ensures in
    let (rows, all, is) = made_twice (goal.F-post g c.args.make) _ (λ x p h. search rules) c.args.members.now made each in
    let ends : c.unwrap_or.result ≡ (or_zeros (joined_all f rows), or_zeros (joined_all h rows)) =
    c.unwrap_or.ensures ∙ ap (λ o. unwrap_or o (zeros, zeros)) (joined ∙ ap (joined_all (both f h)) is) ∙ joined_both f h zeros rows in
    (rows, all, ap (λ p. p.0) ends, ap (λ p. p.1) ends)
