-- A clock that took some events of a trace, in whatever direction, takes the next one.
use Rattle.std.proofs.Common.{◌≡◌, ℕ, ◌<◌, Bool, true, false, ltb, List, [], ◌∷◌, length, Some, None, Option, refl, ap, ◌∙◌, subst, inl, arith}
use Rattle.std.specs.Option.{option_to_list}
use Rattle.std.proofs.lemmas.Bool.{and_from, not_from_false, lt-ltb}
use Rattle.causality.specs.declared.Event.{Event}
use Rattle.causality.specs.Newest.{numbers, Mem}
use Rattle.causality.specs.Traces.{node_of, partner_of, entries}
use Rattle.causality.proofs.Newest.{numbers-low}
use Rattle.causality.proofs.Traces.{length-entries}
use Rattle.clock.specs.Meaning.{if_given, taken}
use Rattle.clock.specs.Takes.{meaning}
use Rattle.clock.proofs.Takes.{meanings_grow, length-entries as length_held}
use Rattle.history.specs.Lawful.{Fits}

held_low : (p : Event → Bool) (vs : List Event) (m : Option ℕ) → option_to_list m ≡ numbers p vs → if_given (λ e. ltb e (length vs)) m ≡ true
held_low p vs None e = refl
held_low p vs (Some x) e = lt-ltb x (length vs) (numbers-low p vs x (subst (Mem x) e (inl refl)))

-- a clock that took some events of a trace, in whatever direction, accepts the next one
pub taken-entry : (n : ℕ) (goes : Event → Event → Bool) (v : Event) (vs : List Event) (m : Option ℕ) → Fits n v → length vs < 512 → option_to_list m ≡ numbers (goes v) vs →
    taken (meaning n (entries goes vs)) (node_of v) (partner_of v) m ≡ meaning n (entries goes (v ∷ vs))
taken-entry n goes v vs m fits room priors =
    let long = length_held (entries goes vs) ∙ length-entries goes vs in
    let low = held_low (goes v) vs m priors in
    (meanings_grow n (entries goes vs) (node_of v) (partner_of v) m
    (and_from _ _ (lt-ltb _ 512 (omega (arith, long, room)))
    (and_from _ _ fits.here (and_from _ _ fits.there (and_from _ _ (not_from_false _ fits.apart) (rw long low)))))).0
    ∙ ap (λ (ps : List ℕ). meaning n (record { node = node_of v; partner = partner_of v; priors = ps } ∷ entries goes vs)) priors

-- an event that receives nothing follows no other by a message
pub numbers_never : (vs : List Event) → numbers (λ w. false) vs ≡ []
numbers_never [] = refl
numbers_never (v ∷ vs) = numbers_never vs
