-- What a table holds, seen as the list `seen` of the first `len` records of an array, after a search, a change and an insertion.
use Rattle.std.proofs.Common.{◌≡◌, ℕ, ◌+◌, ◌-◌, ◌<◌, ◌≤◌, cond, eqb, List, [], ◌∷◌, ◌++◌, length, get_or, take, set, Some, None, sym, refl, ap, ◌∙◌, subst, inl, inr, arith}
use Rattle.std.specs.Ordering.{is_lt, nat_cmp}
use Rattle.std.proofs.lemmas.Bool.{cases_Bool}
use Rattle.std.proofs.lemmas.List.{length-take-le, take-take, take-append-le, take_all}
use Rattle.table.specs.Lookups.{lookup}
use Rattle.table.specs.Tables.{Rising, Lacks, Found, placed}
use Rattle.table.proofs.Lookups.{first_at, first-lookup, changed_lookup, lacks_lookup, lookup_lacks, lookup-placed}

length-placed : {X : Type 0} (key : X → ℕ) (x : X) (xs : List X) → length (placed nat_cmp key x xs) ≡ length xs + 1
length-placed key x [] = refl
length-placed key x (y ∷ ys) =
    elim (cases_Bool (is_lt (nat_cmp (key x) (key y)))) [ inl s ↦ rw s (omega arith) | inr s ↦ rw s (omega (arith, length-placed key x ys)) ]

-- what the invariant of a table says
abbrev pub Kept : {X : Type 0} → (X → ℕ) → ℕ → List X → ℕ → Type 0
Kept key cap records len = (length records ≡ cap) × (len ≤ cap) × Rising nat_cmp key (take len records)

pub room : {X : Type 0} (key : X → ℕ) {cap : ℕ} (records : List X) (len : ℕ) → Kept key cap records len → len ≤ length records
room key records len kept = omega (arith, kept.0, kept.1)

module _ {X : Type 0} (key : X → ℕ) {cap : ℕ} (records : List X) (len : ℕ) (kept : Kept key cap records len) (seen : List X) (is : take len records ≡ seen) where
  abbrev up : Rising nat_cmp key (take len records)
  up = kept.2

  size : length seen ≡ len
  size = ap length (sym is) ∙ length-take-le len records (room key records len kept)

  pub got : (i k : ℕ) (d : X) → Found key k (take len records) i → Some (get_or (take len records) i d) ≡ lookup key seen k
  got i k d found = sym (first-lookup key (take len records) i k d (first_at key (take len records) up i k d found.0 (found.1 d))) ∙ ap (λ (xs : List X). lookup key xs k) is

  pub absent : (k : ℕ) → Lacks key k (take len records) → lookup key seen k ≡ None
  absent k lacks = ap (λ (xs : List X). lookup key xs k) (sym is) ∙ lacks_lookup key (take len records) k lacks

  -- the record found, changed to one of the same key
  module _ (i k : ℕ) (d y : X) (here : Found key k (take len records) i) (same : key y ≡ k) where
    pub changed : (m : ℕ) → lookup key (take len (set records i y)) m ≡ cond (eqb k m) (Some y) (lookup key seen m)
    changed m =
        changed_lookup key records len (room key records len kept) up i k d here.0 here.1 y same m ∙ ap (λ (xs : List X). cond (eqb k m) (Some y) (lookup key xs m)) is

  -- a record that is new
  module _ (x : X) (free : length seen < cap) (new : lookup key seen (key x) ≡ None) where
    front : take (length (take (len + 1) records) - 1) (take (len + 1) records) ≡ seen
    front =
        let space : len < length records = omega (arith, kept.0, size) in
        let less : length (take (len + 1) records) - 1 ≡ len = omega (arith, length-take-le (len + 1) records (omega arith)) in
        rw less (take-take len (len + 1) records (omega arith)) ∙ is

    pub fresh : Lacks key (key x) (take (length (take (len + 1) records) - 1) (take (len + 1) records))
    fresh = subst (Lacks key (key x)) (sym front) (lookup_lacks key seen (key x) new)

    pub grown : (table behind : List X) → table ≡ placed nat_cmp key x (take (length (take (len + 1) records) - 1) (take (len + 1) records)) →
        (m : ℕ) → lookup key (take (len + 1) (table ++ behind)) m ≡ cond (eqb (key x) m) (Some x) (lookup key seen m)
    grown table behind e m =
        let now : table ≡ placed nat_cmp key x seen = e ∙ ap (placed nat_cmp key x) front in
        let long : length table ≡ len + 1 = ap length now ∙ length-placed key x seen ∙ ap (λ (n : ℕ). n + 1) size in
        ap (λ (xs : List X). lookup key xs m) (take-append-le (len + 1) table behind (omega arith) ∙ take_all (len + 1) table (omega arith) ∙ now) ∙ lookup-placed key x seen m new
