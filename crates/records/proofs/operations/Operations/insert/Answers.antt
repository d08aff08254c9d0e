use Rattle.records.proofs.Looking.{fresh, grown}
use Rattle.records.proofs.Keys.{name_of}
use Rattle.records.proofs.operations.Operations.insert.Goals as goal

pub insert-requires-clause-fresh : goal.insert-requires-clause-fresh
insert-requires-clause-fresh c = fresh name_of c.self.inside.records c.self.inside.len c.self.invariant _ c.self.view_is c.args.item c.requires.room c.requires.fresh

pub returns-clause-sets : goal.returns-clause-sets
returns-clause-sets c =
    grown name_of c.self.inside.records c.self.inside.len c.self.invariant _ c.self.view_is c.args.item c.requires.room c.requires.fresh _ _ c.insert.ensures.list
