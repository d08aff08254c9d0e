-- Chains of any steps.
use Rattle.std.proofs.Common.{◌≡◌, ℕ, ◌⊎◌, refl, inl, inr}
use Rattle.causality.specs.Entries.{Chain, Chain.one, Chain.more}

pub chain_join : {L : ℕ → ℕ → Type 0} {x y z : ℕ} → Chain L x y → Chain L y z → Chain L x z
chain_join c (one l) = more c l
chain_join c (more d l) = more (chain_join c d) l

-- each step becomes a chain
pub chain_each : {L M : ℕ → ℕ → Type 0} → ((x y : ℕ) → L x y → Chain M x y) → {x y : ℕ} → Chain L x y → Chain M x y
chain_each g (one {x} {y} l) = g x y l
chain_each g (more {x} {p} {y} c l) = chain_join (chain_each g c) (g p y l)

pub chain_map : {L M : ℕ → ℕ → Type 0} → ((x y : ℕ) → L x y → M x y) → {x y : ℕ} → Chain L x y → Chain M x y
chain_map g c = chain_each (λ x y l. one (g x y l)) c

-- each step is turned round, at the numbers that f gives
pub chain_turn : {L M : ℕ → ℕ → Type 0} (f : ℕ → ℕ) → ((x y : ℕ) → L x y → M (f y) (f x)) → {x y : ℕ} → Chain L x y → Chain M (f y) (f x)
chain_turn f g (one {x} {y} l) = one (g x y l)
chain_turn f g (more {x} {p} {y} c l) = chain_join (one (g p y l)) (chain_turn f g c)

-- the last step of a chain, and what leads to it
pub last_step : {L : ℕ → ℕ → Type 0} {x e : ℕ} → Chain L x e → (p : ℕ) × ((x ≡ p) ⊎ Chain L x p) × L p e
last_step (one {x} l) = (x, inl refl, l)
last_step (more {p = p} c l) = (p, inr c, l)
