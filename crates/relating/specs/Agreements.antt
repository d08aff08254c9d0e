-- Walks over two traces that record the same columns, and over sets whose members have the same places.
--
-- The two traces may number their events differently, as where the same events arrived in another order. Members are then
-- compared by their places: i.k is a place of a set if the k-th event of node i is a member of it.
-- Sets that have the same places in traces with equal columns have the same answers, verdict and steps.
use Rattle.std.specs.Prelude.{◌≡◌, ℕ, List, ◌∷◌}
use Rattle.causality.specs.declared.Event.{Event}
use Rattle.causality.specs.Newest.{Mem}
use Rattle.causality.specs.Traces.{Orderly}
use Rattle.causality.specs.Columns.{PlaceOf, EqualColumns}
use Rattle.relating.specs.Walks.{walk, InRange}

-- every place of a member of xs in vs is a place of a member of xs' in ws
abbrev pub Covered : List Event → List ℕ → List Event → List ℕ → Type 0
Covered vs xs ws xs' = (i k u : ℕ) → Mem u xs → PlaceOf vs i k u → (u' : ℕ) × Mem u' xs' × PlaceOf ws i k u'

abbrev pub SamePlaces : List Event → List ℕ → List Event → List ℕ → Type 0
SamePlaces vs xs ws xs' = Covered vs xs ws xs' × Covered ws xs' vs xs

-- equal columns and the same places give equal answers
abbrev pub WalksAgree : Type 0
WalksAgree =
    (vs ws : List Event) → Orderly vs → Orderly ws → EqualColumns vs ws →
    (x : ℕ) (xs : List ℕ) (x' : ℕ) (xs' : List ℕ) → InRange vs (x ∷ xs) → InRange ws (x' ∷ xs') → SamePlaces vs (x ∷ xs) ws (x' ∷ xs') →
    (y : ℕ) (ys : List ℕ) (y' : ℕ) (ys' : List ℕ) → InRange vs (y ∷ ys) → InRange ws (y' ∷ ys') → SamePlaces vs (y ∷ ys) ws (y' ∷ ys') →
    (n r : ℕ) → walk r vs n x xs y ys ≡ walk r ws n x' xs' y' ys'
