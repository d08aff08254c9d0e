-- One more item made and joined.
use Rattle.std.proofs.Common.{◌≡◌, [], ◌∷◌, ◌++◌, take, MatchOption, sym, ◌∙◌, ap, subst, rules}
use Rattle.std.specs.List.{AllZip}
use Rattle.std.proofs.lemmas.List.{take_more}
use Rattle.std.proofs.lemmas.Slice.Zip.{all_zipped_more}
use Rattle.gathering.proofs.Folds.{joined_push}
use Rattle.gathering.proofs.gather_by.Goals as goal

pub loop-x-preserved : goal.loop-x-preserved
loop-x-preserved g c =
    let op = g.J.Joining.op in
    let m = c.make-made.result in
    let x = c.x-item.result in
    let items = c.args.items.now in
    let i = c.loop-x.x-index in
    let (made, each, so_far) = c.loop-x.invariant in
    let step : MatchOption c.loop-x.all (c.map_or.result ≡ m) (λ before. c.map_or.result ≡ op before m) = search rules in
    let longer = take_more items i x c.loop-x-test.true ∙ ap (λ y. take i items ++ y ∷ []) (sym c.x-item.is) in (
      made ++ (m ∷ []),
      subst (λ xs. AllZip (goal.F-post g c.args.make) xs (made ++ (m ∷ []))) (sym longer) (all_zipped_more (goal.F-post g c.args.make) (take i items) made x m each c.make-made.ensures),
      joined_push op made c.loop-x.all m c.map_or.result so_far step,
    )
