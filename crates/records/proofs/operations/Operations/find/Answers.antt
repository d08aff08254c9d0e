use Rattle.std.proofs.Common.{ℕ, List, take, Some, None, Option, sym, refl, subst}
use Rattle.table.specs.Tables.{Stands}
use Rattle.records.specs.declared.operations.Operation.{Operation}
use Rattle.records.specs.Operations.{FindsOperation, no_operation}
use Rattle.records.proofs.Looking.{Kept, got, absent}
use Rattle.records.proofs.Keys.{name_of}
use Rattle.records.proofs.operations.Operations.find.Goals as goal

finds : (records : List Operation) (len name : ℕ) → Kept name_of 32 records len → (r : Option ℕ) → Stands name_of name (take len records) r → FindsOperation (take len records) name r
finds records len name kept None lacks = absent name_of records len kept _ refl name lacks
finds records len name kept (Some i) found = (found.0, found.1 no_operation, sym (got name_of records len kept _ refl i name no_operation found))

pub returns : goal.returns
returns c =
    subst (λ (seen : List Operation). FindsOperation seen c.args.name c.find.result) c.self.view_is
    (finds c.self.inside.records c.self.inside.len c.args.name c.self.invariant c.find.result c.find.ensures)
