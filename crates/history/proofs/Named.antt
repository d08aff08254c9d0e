-- The events that places name, and the members gathered of them.
use Rattle.std.proofs.Common.{◌≡◌, ℕ, ◌<◌, true, false, List, [], ◌∷◌, length, Some, None, Option, sym, refl, inl, inr, arith}
use Rattle.std.specs.List.{AllByRecursion}
use Rattle.std.proofs.lemmas.Bool.{cases_Bool, or_parts, false≢true}
use Rattle.causality.specs.declared.Place.{Place}
use Rattle.causality.specs.Limits.{is_node}
use Rattle.causality.specs.Newest.{kth}
use Rattle.causality.specs.Traces.{events_at}
use Rattle.causality.proofs.Newest.{nothing}
use Rattle.causality.proofs.Columns.{place-low}
use Rattle.history.specs.History.{History, is_none, named, push_named, all_named, some_unnamed}
use Rattle.history.specs.Members.{Members}

module _ (h : History) where
  -- a place that names an event is at a node, and has the event as the k-th there
  pub named-place : (p : Place) (x : ℕ) → named h p ≡ Some x → (is_node h.nodes p.node ≡ true) × (kth (events_at h.events p.node) p.index ≡ Some x)
  named-place p x e = elim (cases_Bool (is_node h.nodes p.node)) [ inl s ↦ (s, rw s at e) | inr s ↦ absurd (nothing (rw s at e)) ]

  pub named-low : (p : Place) (x : ℕ) → named h p ≡ Some x → x < length h.events
  named-low p x e = place-low h.events p.node p.index x (named-place p x e).1

  -- ---- members

  push_held : (p : Place) (o : Option ℕ) → named h p ≡ o → (xs : List ℕ) → AllByRecursion (λ u. u < length h.events) xs → AllByRecursion (λ u. u < length h.events) (push_named o xs)
  push_held p None e xs all = all
  push_held p (Some x) e xs all = (named-low p x e, all)

  all_held : (ps : List Place) → AllByRecursion (λ u. u < length h.events) (all_named h ps)
  all_held [] = tt
  all_held (p ∷ ps) = push_held p (named h p) refl (all_named h ps) (all_held ps)

  push_some : (o : Option ℕ) → is_none o ≡ false → (xs : List ℕ) → 0 < length (push_named o xs)
  push_some None e xs = absurd (false≢true (sym e))
  push_some (Some x) e xs = omega arith

  -- where each place names an event, at least one member is gathered of at least one place
  all_some : (ps : List Place) → 0 < length ps → some_unnamed h ps ≡ false → 0 < length (all_named h ps)
  all_some [] l e = absurd (omega arith)
  all_some (p ∷ ps) l e = push_some (named h p) (or_parts (is_none (named h p)) (some_unnamed h ps) e).0 (all_named h ps)

  pub members_named : (ps : List Place) → 0 < length ps → some_unnamed h ps ≡ false → Members h.events (all_named h ps)
  members_named ps l e = record { some = all_some ps l e; held = all_held ps }
