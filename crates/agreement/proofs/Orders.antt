-- Equal columns order two places alike.
use Rattle.std.proofs.Common.{◌≡◌, ℕ, ◌≤◌, List, sym, refl, ◌∙◌, inl, inr, arith}
use Rattle.std.proofs.lemmas.Bool.{or_parts}
use Rattle.causality.specs.declared.CausalOrder.{CausalOrder}
use Rattle.causality.specs.declared.Event.{Event}
use Rattle.causality.specs.Traces.{Before, Orderly}
use Rattle.causality.specs.Relations.{To}
use Rattle.causality.specs.Columns.{PlaceOf, EqualColumns}
use Rattle.causality.proofs.Traces.{before_rises, past_is_before, accepted_is_orderly}
use Rattle.causality.proofs.Columns.{columns_decide, place-low}
use Rattle.history.specs.History.{is_none, named}
use Rattle.history.specs.Calls.{Call, refusals, refusal}
use Rattle.history.specs.Answers.{Compared}
use Rattle.history.proofs.Named.{named-place}
use Rattle.history.proofs.Passed.{passed}
use Rattle.agreement.specs.Agreement.{OrdersAgree}
use Rattle.agreement.proofs.Columns.{equal_columns, named_alike, some_of}
use Rattle.agreement.proofs.Results.{same_results}

-- ---- two pairs of events that are alike

-- x to y in vs is x' to y' in ws, and so back
record Twins (vs ws : List Event) (x x' y y' : ℕ) : Type 0 where
  there : To vs x y → To ws x' y'
  also_there : To vs y x → To ws y' x'
  back : To ws x' y' → To vs x y
  also_back : To ws y' x' → To vs y x

to_low : (vs : List Event) → Orderly vs → (x y : ℕ) → To vs x y → x ≤ y
to_low vs orderly x y (inl e) = omega arith
to_low vs orderly x y (inr c) = let l = before_rises vs orderly x y c in omega arith

module _ (vs ws : List Event) (orderly : Orderly vs) (orderly' : Orderly ws) (x x' y y' : ℕ) where
  before_twin : Twins vs ws x x' y y' → Before vs x y → Before ws x' y'
  before_twin twins c =
      elim (twins.there (inr c)) [
        | inl e ↦ let l = before_rises vs orderly x y c in let m = to_low vs orderly y x (twins.also_back (inl (sym e))) in absurd (omega arith)
        | inr d ↦ d
      ]

  same_twin : Twins vs ws x x' y y' → x ≡ y → x' ≡ y'
  same_twin twins e =
      let l = to_low ws orderly' x' y' (twins.there (inl e)) in
      let m = to_low ws orderly' y' x' (twins.also_there (inl (sym e))) in
      omega arith

turn : {vs ws : List Event} {x x' y y' : ℕ} → Twins vs ws x x' y y' → Twins vs ws y y' x x'
turn twins = record { there = twins.also_there; also_there = twins.there; back = twins.also_back; also_back = twins.back }

swap : {vs ws : List Event} {x x' y y' : ℕ} → Twins vs ws x x' y y' → Twins ws vs x' x y' y
swap twins = record { there = twins.back; also_there = twins.also_back; back = twins.there; also_back = twins.also_there }

-- what one answer says, the other says
record Says (o o' : CausalOrder) : Type 0 where
  before : o ≡ CausalOrder.Before → o' ≡ CausalOrder.Before
  after : o ≡ CausalOrder.After → o' ≡ CausalOrder.After
  same : o ≡ CausalOrder.Same → o' ≡ CausalOrder.Same

said : (vs ws : List Event) → Orderly vs → Orderly ws → (x x' y y' : ℕ) → Twins vs ws x x' y y' → (o o' : CausalOrder) → Compared vs x y o → Compared ws x' y' o' → Says o o'
said vs ws orderly orderly' x x' y y' twins o o' c c' = record {
  before = λ e. c'.before.1 (before_twin vs ws orderly orderly' x x' y y' twins (c.before.0 e));
  after = λ e. c'.after.1 (before_twin vs ws orderly orderly' y y' x x' (turn twins) (c.after.0 e));
  same = λ e. c'.same.1 (same_twin vs ws orderly orderly' x x' y y' twins (c.same.0 e));
}

one-order : (o o' : CausalOrder) → Says o o' → Says o' o → o ≡ o'
one-order CausalOrder.Before o' s t = sym (s.before refl)
one-order CausalOrder.After o' s t = sym (s.after refl)
one-order CausalOrder.Same o' s t = sym (s.same refl)
one-order CausalOrder.Concurrent CausalOrder.Before s t = t.before refl
one-order CausalOrder.Concurrent CausalOrder.After s t = t.after refl
one-order CausalOrder.Concurrent CausalOrder.Same s t = t.same refl
one-order CausalOrder.Concurrent CausalOrder.Concurrent s t = refl

-- ---- events at the same places are alike

to_alike : (vs ws : List Event) → Orderly vs → Orderly ws → EqualColumns vs ws → (i k x x' j l y y' : ℕ) →
    PlaceOf vs i k x → PlaceOf ws i k x' → PlaceOf vs j l y → PlaceOf ws j l y' → To vs x y → To ws x' y'
to_alike vs ws orderly orderly' same i k x x' j l y y' px px' py py' to =
    let pasts = (columns_decide vs ws orderly orderly' same i k x x' j l y y' px px' py py').pasts in
    let within = (past_is_before vs orderly x y (place-low vs i k x px) (place-low vs j l y py)).1 to in
    (past_is_before ws orderly' x' y' (place-low ws i k x' px') (place-low ws j l y' py')).0 (sym pasts ∙ within)

module _ (vs ws : List Event) (orderly : Orderly vs) (orderly' : Orderly ws) (same : EqualColumns vs ws) where
  places_alike : (i k x x' j l y y' : ℕ) → PlaceOf vs i k x → PlaceOf ws i k x' → PlaceOf vs j l y → PlaceOf ws j l y' → Twins vs ws x x' y y'
  places_alike i k x x' j l y y' px px' py py' = record {
    there = to_alike vs ws orderly orderly' same i k x x' j l y y' px px' py py';
    also_there = to_alike vs ws orderly orderly' same j l y y' i k x x' py py' px px';
    back = to_alike ws vs orderly' orderly (λ n. sym (same n)) i k x' x j l y' y px' px py' py;
    also_back = to_alike ws vs orderly' orderly (λ n. sym (same n)) j l y' y i k x' x py' py px' px;
  }

-- ---- orders agree

pub orders-agree : OrdersAgree
orders-agree h k reached reached' same p q r s (er, mr) (es, ms) =
    let orderly = accepted_is_orderly h.events reached.lawful.accepted in
    let orderly' = accepted_is_orderly k.events reached'.lawful.accepted in
    let columns = equal_columns h k reached reached' same in
    let np = named_alike h k reached reached' same p in
    let nq = named_alike h k reached reached' same q in
    let refused : refusal h (Call.order p q) ≡ refusal k (Call.order p q) = rw (same.started, same.also_started, np, nq) in
    same_results _ _ (refusal h (Call.order p q)) r s er (es ∙ sym refused) mr ms
    (λ free o o' right right'.
    let (_, (unnamed, _)) = passed (refusals h (Call.order p q)) free in
    let (hp, hq) = or_parts (is_none (named h p)) (is_none (named h q)) unnamed in
    let (x, ex) = some_of (named h p) hp in
    let (y, ey) = some_of (named h q) hq in
    let (x', ex') = some_of (named k p) (sym np ∙ hp) in
    let (y', ey') = some_of (named k q) (sym nq ∙ hq) in
    let twins = places_alike h.events k.events orderly orderly' columns p.node p.index x x' q.node q.index y y'
    (named-place h p x ex).1 (named-place k p x' ex').1 (named-place h q y ey).1 (named-place k q y' ey').1 in
    let c = right x y ex ey in
    let c' = right' x' y' ex' ey' in
    one-order o o' (said h.events k.events orderly orderly' x x' y y' twins o o' c c')
    (said k.events h.events orderly' orderly x' x y' y (swap twins) o' o c' c))
