-- What a table of operations by packed name, seen as the list of them, says of names.
--
--   kept_members t name   the members of the operation of a name, if there is one
--   kept_operations t     the operations that a table keeps, as a history has them
--   new_tests t name      the refusals of a new name: no name, taken, or too many operations
use Rattle.std.specs.Prelude.{ℕ, Bool, cond, not, List, [], ◌∷◌, length, None, Option, nat_le}
use Rattle.std.specs.Option.{option_map}
use Rattle.history.specs.declared.refusal.Refusal.{Refusal}
use Rattle.history.specs.History.{Operations, is_none, is_name}
use Rattle.names.specs.Names.{packed}
use Rattle.records.specs.declared.operations.Operation.{Operation}
use Rattle.records.specs.Operations.{operation_of, member_list}

abbrev pub kept_members : List Operation → List ℕ → Option (List ℕ)
kept_members t name = cond (is_name name) (option_map member_list (operation_of t (packed name))) None

abbrev pub kept_operations : List Operation → Operations
kept_operations t = record { count = length t; members = kept_members t }

abbrev pub new_tests : List Operation → List ℕ → List (Bool × Refusal)
new_tests t name =
    (not (is_name name), Refusal.BadName) ∷ (not (is_none (kept_members t name)), Refusal.NameTaken) ∷ (nat_le 32 (length t), Refusal.OperationsFull) ∷ []
