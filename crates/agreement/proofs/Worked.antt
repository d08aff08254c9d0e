-- The worked job, by computation; its relations by their walks, its orders by pasts.
use Rattle.std.proofs.Common.{◌≡◌, ℕ, zero, suc, ◌≤◌, Bool, true, false, leb, List, [], ◌∷◌, ◌++◌, Some, sym, refl, ap, ◌∙◌, subst, inl, inr, arith}
use Rattle.std.proofs.lemmas.Bool.{and_parts, leb-true}
use Rattle.std.proofs.lemmas.Bool.Decides.{not_from_Decides}
use Rattle.causality.specs.declared.CausalOrder.{CausalOrder}
use Rattle.causality.specs.declared.Event.{Event}
use Rattle.causality.specs.declared.Place.{Place}
use Rattle.causality.specs.Entries.{past}
use Rattle.causality.specs.Traces.{forward}
use Rattle.causality.specs.Columns.{column}
use Rattle.causality.specs.Worked.{worked, rearrived as other-worked}
use Rattle.causality.proofs.Traces.{before_rises, past_is_before, accepted_is_orderly}
use Rattle.history.specs.declared.Stage.{Stage}
use Rattle.history.specs.History.{History, Operations, idle, no_operations, with_operation, named, members_of}
use Rattle.history.specs.Calls.{Call, next_history, history_after}
use Rattle.history.specs.Answers.{OrderOf}
use Rattle.history.proofs.Named.{named-low}
use Rattle.relating.specs.Walks.{walk, Related}
use Rattle.relating.proofs.Related.{walks_related}
use Rattle.agreement.specs.Agreement.{Reached, RelationOf}
use Rattle.agreement.specs.Worked.{place, setup, pick, rest, arrivals, gatherings, rearrivals, traced, whole, rearrived, JobAnswers, WorkedAnswers}
use Rattle.agreement.proofs.Reached.{reached}
use Rattle.agreement.proofs.Columns.{only_nodes}

-- ---- relations

-- a walk's answer is the relation's
by_walk : (h : History) → Reached h → (r : ℕ) → 1 ≤ r → r ≤ 6 → (X Y : List ℕ) (x : ℕ) (xs : List ℕ) (y : ℕ) (ys : List ℕ) →
    members_of h X ≡ Some (x ∷ xs) → members_of h Y ≡ Some (y ∷ ys) → (a : Bool × ℕ) → walk r h.events h.nodes x xs y ys ≡ a → RelationOf h r X Y a
by_walk h reached r low high X Y x xs y ys ex ey a e x₁ xs₁ y₁ ys₁ ex₁ ey₁ =
    let x-is : x ≡ x₁ = cc in
    let xs-is : xs ≡ xs₁ = cc in
    let y-is : y ≡ y₁ = cc in
    let ys-is : ys ≡ ys₁ = cc in
    let right = walks_related h.events (accepted_is_orderly h.events reached.lawful.accepted) h.nodes (only_nodes h reached) x xs y ys
    (reached.members X (x ∷ xs) ex).held (reached.members Y (y ∷ ys) ey).held r low high in
    rw (← x-is, ← xs-is, ← y-is, ← ys-is) (subst (Related r h.events h.nodes x xs y ys) e right)

-- ---- orders

module _ (h : History) (reached : Reached h) where
  apart : (p q : Place) (x y : ℕ) → named h p ≡ Some x → named h q ≡ Some y → past (forward h.events) y x ≡ false → past (forward h.events) x y ≡ false →
      OrderOf h p q CausalOrder.Concurrent
  apart p q x y ex ey f g x₁ y₁ ex₁ ey₁ =
      let orderly = accepted_is_orderly h.events reached.lawful.accepted in
      let lx = named-low h p x ex in
      let ly = named-low h q y ey in
      let x-is : x ≡ x₁ = cc in
      let y-is : y ≡ y₁ = cc in
      let to = past_is_before h.events orderly x y lx ly in
      let back = past_is_before h.events orderly y x ly lx in
      rw (← x-is, ← y-is) record {
        before = ((λ e. let z : ◌≡◌ {A = ℕ} 0 1 = cc in absurd (omega arith)), λ c. absurd (not_from_Decides _ to f (inr c)));
        after = ((λ e. let z : ◌≡◌ {A = ℕ} 0 1 = cc in absurd (omega arith)), λ c. absurd (not_from_Decides _ back g (inr c)));
        same = ((λ e. let z : ◌≡◌ {A = ℕ} 0 1 = cc in absurd (omega arith)), λ e. absurd (not_from_Decides _ to f (inl e)));
      }

  together : (p q : Place) (x : ℕ) → named h p ≡ Some x → named h q ≡ Some x → OrderOf h p q CausalOrder.Same
  together p q x ex ey x₁ y₁ ex₁ ey₁ =
      let orderly = accepted_is_orderly h.events reached.lawful.accepted in
      let one : x₁ ≡ y₁ = cc in
      record {
        before = ((λ e. let z : ◌≡◌ {A = ℕ} 0 1 = cc in absurd (omega arith)), λ c. let l = before_rises h.events orderly x₁ y₁ c in absurd (omega arith));
        after = ((λ e. let z : ◌≡◌ {A = ℕ} 0 1 = cc in absurd (omega arith)), λ c. let l = before_rises h.events orderly y₁ x₁ c in absurd (omega arith));
        same = ((λ _. one), λ _. refl);
      }

-- ---- the histories, call by call

-- gs are the histories that the calls leave, one after another
abbrev Leaves : History → List Call → List History → Type 0
Leaves h [] gs = Unit {0}
Leaves h (c ∷ cs) [] = ⊥
Leaves h (c ∷ cs) (g ∷ gs) = (next_history h c ≡ g) × Leaves g cs gs

-- the last of them, where there are as many as calls
abbrev left_by : History → List Call → List History → History
left_by h [] gs = h
left_by h (c ∷ cs) [] = h
left_by h (c ∷ cs) (g ∷ gs) = left_by g cs gs

led : (h : History) (cs : List Call) (gs : List History) → Leaves h cs gs → history_after h cs ≡ left_by h cs gs
led h [] gs leaves = refl
led h (c ∷ cs) [] leaves = absurd leaves
led h (c ∷ cs) (g ∷ gs) (e, leaves) = ap (λ k. history_after k cs) e ∙ led g cs gs leaves

abbrev taking : List Event → History
taking vs = record { stage = Stage.Open; nodes = 3; events = vs; operations = no_operations }

-- the histories of a trace as it grows
abbrev growing : List Event → List History
growing [] = taking [] ∷ []
growing (v ∷ vs) = growing vs ++ (taking (v ∷ vs) ∷ [])

abbrev ended : List Event → Operations → History
ended vs os = record { stage = Stage.Closed; nodes = 3; events = vs; operations = os }

-- with SETUP of x and y, PICK of z, REST of w
abbrev full : List Event → ℕ → ℕ → ℕ → ℕ → History
full vs x y z w = ended vs (with_operation (with_operation (with_operation no_operations setup (x ∷ y ∷ [])) pick (z ∷ [])) rest (w ∷ []))

-- the histories from close on
abbrev gathering : List Event → ℕ → ℕ → ℕ → ℕ → List History
gathering vs x y z w =
    ended vs no_operations ∷ ended vs (with_operation no_operations setup (x ∷ y ∷ []))
    ∷ ended vs (with_operation (with_operation no_operations setup (x ∷ y ∷ [])) pick (z ∷ [])) ∷ full vs x y z w ∷ []

traced-is : traced ≡ taking worked
traced-is = led idle arrivals (growing worked) (refl, (refl, (refl, (refl, (refl, (refl, (refl, (refl, (refl, tt)))))))))

whole_is : whole ≡ full worked 1 2 4 6
whole_is =
    ap (λ h. history_after h (Call.receive 3 7 ∷ gatherings)) traced-is
    ∙ led (taking worked) (Call.receive 3 7 ∷ gatherings) (taking worked ∷ gathering worked 1 2 4 6) (refl, (refl, (refl, (refl, (refl, tt)))))

rearrived-is : rearrived ≡ full other-worked 2 0 4 7
rearrived-is =
    led idle rearrivals (growing other-worked ++ gathering other-worked 2 0 4 7)
    (refl, (refl, (refl, (refl, (refl, (refl, (refl, (refl, (refl, (refl, (refl, (refl, (refl, tt)))))))))))))

whole-reached : Reached (full worked 1 2 4 6)
whole-reached = subst Reached whole_is (reached (arrivals ++ Call.receive 3 7 ∷ gatherings))

-- ---- what they answer

columns_equal : (i : ℕ) → 1 ≤ i → i ≤ 3 → column worked i ≡ column other-worked i
columns_equal zero l m = absurd (omega arith)
columns_equal (suc zero) l m = refl
columns_equal (suc (suc zero)) l m = refl
columns_equal (suc (suc (suc zero))) l m = refl
columns_equal (suc (suc (suc (suc i)))) l m = absurd (omega arith)

related : (r : ℕ) → 1 ≤ r → r ≤ 6 → (X Y : List ℕ) (x : ℕ) (xs : List ℕ) (y : ℕ) (ys : List ℕ) → members_of (full worked 1 2 4 6) X ≡ Some (x ∷ xs) → members_of (full worked 1 2 4 6) Y ≡ Some (y ∷ ys) →
    (a : Bool × ℕ) → walk r worked 3 x xs y ys ≡ a → RelationOf (full worked 1 2 4 6) r X Y a
related = by_walk (full worked 1 2 4 6) whole-reached

answers : JobAnswers (taking worked) (full worked 1 2 4 6) (full other-worked 2 0 4 7)
answers = record {
  received_before = refl;
  closed = refl;
  numbered = (refl, refl);
  forward_3_2 = refl;
  forward_2_2 = refl;
  reverse_2_1 = refl;
  reverse_1_2 = refl;
  first_reaches = refl;
  joint_reaches = refl;
  r1_setup_pick = (refl, related 1 (omega arith) (omega arith) setup pick 1 (2 ∷ []) 4 [] refl refl (true, 2) refl);
  r2p_setup_pick = (refl, related 3 (omega arith) (omega arith) setup pick 1 (2 ∷ []) 4 [] refl refl (true, 1) refl);
  r4_pick_setup = (refl, related 6 (omega arith) (omega arith) pick setup 4 [] 1 (2 ∷ []) refl refl (false, 1) refl);
  r2_setup_rest = (refl, related 2 (omega arith) (omega arith) setup rest 1 (2 ∷ []) 6 [] refl refl (false, 2) refl);
  r3p_setup_rest = (refl, related 5 (omega arith) (omega arith) setup rest 1 (2 ∷ []) 6 [] refl refl (true, 1) refl);
  r4_setup_setup = (refl, related 6 (omega arith) (omega arith) setup setup 1 (2 ∷ []) 1 (2 ∷ []) refl refl (true, 1) refl);
  concurrent = (refl, apart (full worked 1 2 4 6) whole-reached (place 1 3) (place 3 4) 6 7 refl refl refl refl);
  one_event = (refl, together (full worked 1 2 4 6) whole-reached (place 2 2) (place 3 3) 5 refl refl);
  columns = record {
    started = refl;
    also_started = refl;
    nodes = refl;
    columns = λ i node. let (low, high) = and_parts (leb 1 i) (leb i 3) node in columns_equal i (leb-true 1 i low) (leb-true i 3 high);
  };
  members = (refl, refl);
}

pub worked-answers : WorkedAnswers
worked-answers =
    subst (λ t. JobAnswers t whole rearrived) (sym traced-is)
    (subst (λ h. JobAnswers (taking worked) h rearrived) (sym whole_is)
    (subst (λ k. JobAnswers (taking worked) (full worked 1 2 4 6) k) (sym rearrived-is) answers))
