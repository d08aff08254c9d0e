use Rattle.std.proofs.Common.{◌≡◌, ℕ, cond, eqb, get_or, take, Some, None, Option, sym, refl, ap, ◌∙◌, inl, inr}
use Rattle.std.proofs.lemmas.Bool.{cases_Bool, eqb-true}
use Rattle.std.proofs.lemmas.List.{get_or-take}
use Rattle.table.proofs.Lookups.{inside}
use Rattle.records.specs.declared.messages.Sent.{Sent}
use Rattle.records.specs.Messages.{sent_of, with_receipt, received}
use Rattle.records.proofs.Looking.{room, got, absent, changed}
use Rattle.records.proofs.Keys.{number_of, no_sent}
use Rattle.records.proofs.messages.Messages.receive.Goals as goal

-- a record set at the key that it was found by, seen from any key
noted : (k m e : ℕ) (s : Sent) (held : ℕ → Option Sent) → Some s ≡ held k → cond (eqb k m) (Some (with_receipt e s)) (held m) ≡ cond (eqb k m) (received e (held m)) (held m)
noted k m e s held g =
    elim (cases_Bool (eqb k m)) [ inl u ↦ let h : held m ≡ Some s = ap held (sym (eqb-true k m u)) ∙ sym g in rw (u, h) | inr u ↦ rw u refl ]

unnoted : (k m e : ℕ) (held : ℕ → Option Sent) → held k ≡ None → held m ≡ cond (eqb k m) (received e (held m)) (held m)
unnoted k m e held g =
    elim (cases_Bool (eqb k m)) [ inl u ↦ let h : held m ≡ None = ap held (sym (eqb-true k m u)) ∙ g in rw (u, h) | inr u ↦ rw u refl ]

pub returns-in-Some-clause-sets : goal.returns-in-Some-clause-sets
returns-in-Some-clause-sets c =
    let t = c.self.inside in
    let at = c.in-Some.at in
    let k = c.args.message in
    let e = c.args.event in
    let here = c.in-Some.ensures in
    let s : Sent = get_or t.records at no_sent in
    let read : get_or (take t.len t.records) at no_sent ≡ s = get_or-take t.len t.records at no_sent (inside number_of t.records t.len (room number_of t.records t.len c.self.invariant) c.self.invariant.2 at here.0) in
    λ m.
    changed number_of t.records t.len c.self.invariant _ c.self.view_is at k no_sent (with_receipt e s) here (sym (ap number_of read) ∙ here.1 no_sent) m
    ∙ noted k m e s (sent_of c.args.self.now) (sym (ap Some read) ∙ got number_of t.records t.len c.self.invariant _ c.self.view_is at k no_sent here)

pub returns-in_default-clause-sets : goal.returns-in_default-clause-sets
returns-in_default-clause-sets c =
    λ m. unnoted c.args.message m c.args.event (sent_of c.args.self.now) (absent number_of c.self.inside.records c.self.inside.len c.self.invariant _ c.self.view_is c.args.message c.in_default.ensures)
