use Rattle.std.proofs.Common.{sym, rules}
use Rattle.records.proofs.Looking.{got, absent}
use Rattle.records.proofs.Keys.{name_of}
use Rattle.records.proofs.operations.Operations.get_ref.Goals as goal

pub returns-in_err-at : goal.returns-in_err-at
returns-in_err-at c =
    let none = absent name_of c.self.inside.records c.self.inside.len c.self.invariant _ c.self.view_is c.args.name c.in_err-at.ensures in
    search rules

pub returns : goal.returns
returns c = sym (got name_of c.self.inside.records c.self.inside.len c.self.invariant _ c.self.view_is c.in_ok-at.at c.args.name _ c.in_ok-at.ensures)
