-- The keys of the records, and what is read past the end of the messages.
use Rattle.std.proofs.Common.{ℕ, None}
use Rattle.records.specs.declared.messages.Sent.{Sent}
use Rattle.records.specs.declared.operations.Operation.{Operation}

abbrev pub number_of : Sent → ℕ
number_of s = s.message

abbrev pub name_of : Operation → ℕ
name_of o = o.name

abbrev pub no_sent : Sent
no_sent = record { message = 0; node = 0; event = 0; receipt = None }
