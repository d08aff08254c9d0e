use Rattle.std.proofs.Common.{rules}
use Rattle.records.proofs.Looking.{got, absent}
use Rattle.records.proofs.Keys.{number_of}
use Rattle.records.proofs.messages.Messages.find.Goals as goal

pub returns-in_err-at : goal.returns-in_err-at
returns-in_err-at c =
    let none = absent number_of c.self.inside.records c.self.inside.len c.self.invariant _ c.self.view_is c.args.message c.in_err-at.ensures in
    search rules

pub returns : goal.returns
returns c = got number_of c.self.inside.records c.self.inside.len c.self.invariant _ c.self.view_is c.in_ok-at.at c.args.message _ c.in_ok-at.ensures
