-- The first elements of an array, and what an accepted take comes to.
use Rattle.std.proofs.Common.{◌≡◌, ℕ, zero, suc, ◌<◌, ◌≤◌, Bool, true, false, not, ltb, length, Some, None, Option, refl, ap, arith}
use Rattle.std.proofs.lemmas.Bool.{and_parts, and_from, not-true, ltb-true, leb-true, le-leb}
use Rattle.causality.specs.Entries.{is}
use Rattle.causality.specs.Limits.{max_nodes, is_node}
use Rattle.clock.specs.Meaning.{max_entries, if_given, admits}
use Rattle.clock.specs.Arrays.{listed}

-- ---- the first elements, newest first

module _ {X : Type 0} (f : ℕ → X) where
  pub length-listed : (k : ℕ) → length (listed f k) ≡ k
  length-listed zero = refl
  length-listed (suc k) = ap suc (length-listed k)

  pub listed_like : (g : ℕ → X) (k : ℕ) → ((e : ℕ) → e < k → f e ≡ g e) → listed f k ≡ listed g k
  listed_like g zero h = refl
  listed_like g (suc k) h = rw (h k (omega arith), listed_like g k (λ e l. h e (omega arith)))

-- ---- what an accepted take comes to

pub node_bounds : (n i : ℕ) → is_node n i ≡ true → (1 ≤ i) × (i ≤ n)
node_bounds n i h = let (p, q) = and_parts _ _ h in (leb-true 1 i p, leb-true i n q)

pub node_up : (n i : ℕ) → n ≤ max_nodes → is_node n i ≡ true → is_node max_nodes i ≡ true
node_up n i h k = let (p, q) = node_bounds n i k in and_from _ _ (le-leb 1 i p) (le-leb i max_nodes (omega arith))

pub given_up : (p q : ℕ → Bool) → ((i : ℕ) → p i ≡ true → q i ≡ true) → (o : Option ℕ) → if_given p o ≡ true → if_given q o ≡ true
given_up p q up None h = refl
given_up p q up (Some i) h = up i h

pub record Admitted (len a : ℕ) (b m : Option ℕ) : Type 0 where
  pub room : len < max_entries
  pub node : is_node max_nodes a ≡ true
  pub partner : if_given (is_node max_nodes) b ≡ true
  pub apart : is b a ≡ false
  pub held : if_given (λ x. ltb x len) m ≡ true

pub admitted : (n len a : ℕ) (b m : Option ℕ) → n ≤ max_nodes → admits n len a b m ≡ true → Admitted len a b m
admitted n len a b m h ok =
    let (p, q) = and_parts (ltb len max_entries) _ ok in
    let (r, s) = and_parts (is_node n a) _ q in
    let (t, u) = and_parts (if_given (is_node n) b) _ s in
    let (v, w) = and_parts (not (is b a)) _ u in
    record { room = ltb-true len max_entries p; node = node_up n a h r; partner = given_up _ _ (λ i. node_up n i h) b t; apart = not-true _ v; held = w }
