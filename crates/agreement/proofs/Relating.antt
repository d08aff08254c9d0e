-- Equal columns relate operations at the same places alike.
use Rattle.std.proofs.Common.{◌≡◌, ℕ, ◌≤◌, Bool, true, false, leb, List, [], ◌∷◌, Some, sym, refl, ap, ◌∙◌, arith}
use Rattle.std.proofs.lemmas.Bool.{not-false, and_parts, leb-true, false≢true}
use Rattle.causality.proofs.Traces.{accepted_is_orderly}
use Rattle.history.specs.declared.Stage.{Stage}
use Rattle.history.specs.History.{History, is_idle, is_open, is_closed, members_of}
use Rattle.history.specs.Calls.{Call, refusals, refusal}
use Rattle.history.proofs.Passed.{passed}
use Rattle.relating.specs.Walks.{walk}
use Rattle.relating.specs.Agreements.{SamePlaces}
use Rattle.relating.proofs.Agreements.{walks_agree}
use Rattle.relating.proofs.Related.{walks_related, one_answer}
use Rattle.agreement.specs.Agreement.{Reached, SameOperation, RelationOf, RelationsAgree}
use Rattle.agreement.proofs.Columns.{equal_columns, only_nodes}
use Rattle.agreement.proofs.Results.{same_results}

pub closed-stage : (s : Stage) → is_closed s ≡ true → (is_idle s ≡ false) × (is_open s ≡ false)
closed-stage Stage.Idle e = absurd (false≢true e)
closed-stage Stage.Open e = absurd (false≢true e)
closed-stage Stage.Closed e = (refl, refl)

-- operations at the same places, each with its first member apart
pub record Sets (h : History) (X : List ℕ) (k : History) (X' : List ℕ) : Type 0 where
  pub x : ℕ
  pub xs : List ℕ
  pub x' : ℕ
  pub xs' : List ℕ
  pub members : members_of h X ≡ Some (x ∷ xs)
  pub also_members : members_of k X' ≡ Some (x' ∷ xs')
  pub places : SamePlaces h.events (x ∷ xs) k.events (x' ∷ xs')

pub sets : (h k : History) → Reached h → Reached k → (X X' : List ℕ) → SameOperation h X k X' → Sets h X k X'
sets h k reached reached' X X' o = go o.xs o.xs' o.members o.also_members o.places
  where
    go : (xs xs' : List ℕ) → members_of h X ≡ Some xs → members_of k X' ≡ Some xs' → SamePlaces h.events xs k.events xs' → Sets h X k X'
    go [] xs' e e' p = absurd (omega (arith, (reached.members X [] e).some))
    go (x ∷ xs) [] e e' p = absurd (omega (arith, (reached'.members X' [] e').some))
    go (x ∷ xs) (x' ∷ xs') e e' p = record { x = x; xs = xs; x' = x'; xs' = xs'; members = e; also_members = e'; places = p }

-- the answer of a relation is that of its walk
pub walked : (h : History) → Reached h → (r : ℕ) → 1 ≤ r → r ≤ 6 → (X Y : List ℕ) (x : ℕ) (xs : List ℕ) (y : ℕ) (ys : List ℕ) →
    members_of h X ≡ Some (x ∷ xs) → members_of h Y ≡ Some (y ∷ ys) → (a : Bool × ℕ) → RelationOf h r X Y a → a ≡ walk r h.events h.nodes x xs y ys
walked h reached r low high X Y x xs y ys ex ey a right =
    one_answer r h.events h.nodes x xs y ys a _ (right x xs y ys ex ey)
    (walks_related h.events (accepted_is_orderly h.events reached.lawful.accepted) h.nodes (only_nodes h reached) x xs y ys
    (reached.members X (x ∷ xs) ex).held (reached.members Y (y ∷ ys) ey).held r low high)

pub relations_agree : RelationsAgree
relations_agree h k reached reached' same closed closed' X Y X' Y' ox oy r a b (ea, ma) (eb, mb) =
    let orderly = accepted_is_orderly h.events reached.lawful.accepted in
    let orderly' = accepted_is_orderly k.events reached'.lawful.accepted in
    let columns = equal_columns h k reached reached' same in
    let X-is = sets h k reached reached' X X' ox in
    let Y-is = sets h k reached reached' Y Y' oy in
    let (began, shut) = closed-stage h.stage closed in
    let (began', shut') = closed-stage k.stage closed' in
    let refused : refusal h (Call.relate r X Y) ≡ refusal k (Call.relate r X' Y') =
    rw (began, shut, began', shut', X-is.members, Y-is.members, X-is.also_members, Y-is.also_members) in
    same_results _ _ (refusal h (Call.relate r X Y)) a b ea (eb ∙ sym refused) ma mb
    (λ free v w right right'.
    let (_, (_, (number, _))) = passed (refusals h (Call.relate r X Y)) free in
    let (one, six) = and_parts (leb 1 r) (leb r 6) (not-false _ number) in
    let low = leb-true 1 r one in
    let high = leb-true r 6 six in
    walked h reached r low high X Y X-is.x X-is.xs Y-is.x Y-is.xs X-is.members Y-is.members v right
    ∙ walks_agree h.events k.events orderly orderly' columns
    X-is.x X-is.xs X-is.x' X-is.xs' (reached.members X _ X-is.members).held (reached'.members X' _ X-is.also_members).held X-is.places
    Y-is.x Y-is.xs Y-is.x' Y-is.xs' (reached.members Y _ Y-is.members).held (reached'.members Y' _ Y-is.also_members).held Y-is.places
    h.nodes r
    ∙ ap (λ n. walk r k.events n X-is.x' X-is.xs' Y-is.x' Y-is.xs') same.nodes
    ∙ sym (walked k reached' r low high X' Y' X-is.x' X-is.xs' Y-is.x' Y-is.xs' X-is.also_members Y-is.also_members w right'))
