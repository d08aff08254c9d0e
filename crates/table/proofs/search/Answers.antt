use Rattle.std.proofs.Common.{rules}
use Rattle.std.proofs.lemmas.List.Sorted.{answers_always}
use Rattle.table.proofs.Searching.{searched}
use Rattle.table.proofs.search.Goals as goal

pub returns : goal.returns
returns g c =
    let facts = c.binary_search_by_key.ensures in
    searched g.T.Key.Ord.cmp g.met.T.Key.Ord.total g.T.Keyed.key_of g.met.T.Key.Key.exact c.args.key.now c.args.table.now c.requires c.binary_search_by_key.result facts.bound
    (facts.position g.T.Keyed.key_of (answers_always _ _ _ (λ f a r f' called. search rules)))
