-- Counts tell what a cut holds, and how the timestamp of a new entry comes from earlier ones.
use Rattle.std.proofs.Common.{◌≡◌, ℕ, suc, ◌-◌, ◌<◌, ◌≤◌, max, Bool, true, false, ◌||◌, List, [], ◌∷◌, length, Some, Decides, refl, ap, ◌∙◌, inl, inr, arith}
use Rattle.std.specs.List.{AllByRecursion}
use Rattle.std.proofs.ByRecursion.{All-weaker}
use Rattle.std.proofs.lemmas.Bool.{cases_Bool, ne_eqb, or_left, or_right, or_cases, both_ways, false≢true}
use Rattle.causality.specs.Newest.{entry, tally, Mem}
use Rattle.causality.specs.Entries.{Entry, at_either, timeline, predecessors, in_some, past, Cut, CountsTell, stamp, StampsTell, greatest, next_stamp, StampsGrow}
use Rattle.causality.proofs.Newest.{nothing, entry-low, entry_cases, all-entry, kth-entry, Descending, numbers_descend}
use Rattle.causality.proofs.Pasts.{at_up, at_low, at_top, past-tail, past_head, pasts-lawful}

-- ---- counting the numbers that pass a test

-- where the test holds of a number, it holds of all behind it
abbrev pub Closed : (ℕ → Bool) → List ℕ → Type 0
Closed p [] = Unit {0}
Closed p (z ∷ zs) = (p z ≡ true → AllByRecursion (λ x. p x ≡ true) zs) × Closed p zs

pub all-mem : {X : Type 0} (P : X → Type 0) (xs : List X) → ((x : X) → Mem x xs → P x) → AllByRecursion P xs
all-mem P [] h = tt
all-mem P (x ∷ xs) h = (h x (inl refl), all-mem P xs (λ y m. h y (inr m)))

module _ (p : ℕ → Bool) where
  pub tally-all : (c : List ℕ) → AllByRecursion (λ x. p x ≡ true) c → tally p c ≡ length c
  tally-all [] all = refl
  tally-all (z ∷ zs) (h, all) = rw h (ap suc (tally-all zs all))

  pub tally_le : (c : List ℕ) → tally p c ≤ length c
  tally_le [] = omega arith
  tally_le (z ∷ zs) = let rec = tally_le zs in elim (cases_Bool (p z)) [ inl h ↦ rw h (omega arith) | inr h ↦ rw h (omega arith) ]

  pub tally_tells : (c : List ℕ) → Closed p c → (n x : ℕ) → entry c n ≡ Some x → Decides (p x) (n < tally p c)
  tally_tells [] closed n x e = absurd (nothing e)
  tally_tells (z ∷ zs) (top, closed) n x e =
      elim (cases_Bool (p z)) [
        | inl h ↦
            let all = top h in
            let low = entry-low (z ∷ zs) n x e in
            rw h ((λ _. omega (arith, tally-all zs all)), λ _. all-entry (λ y. p y ≡ true) (z ∷ zs) n x (h, all) e)
        | inr h ↦ rw h (elim (entry_cases z zs n x e) [
          | inl (j, same) ↦ ((λ g. absurd (both_ways (p z) h (rw same g))), λ g. absurd (omega (arith, tally_le zs)))
          | inr (_, f) ↦ tally_tells zs closed n x f
        ])
      ]

  pub closed_mem : (c : List ℕ) → Descending c → ((x y : ℕ) → p x ≡ true → Mem x c → Mem y c → y < x → p y ≡ true) → Closed p c
  closed_mem [] d cut = tt
  closed_mem (z ∷ zs) (top, d) cut = (
    (λ h. all-mem (λ x. p x ≡ true) zs (λ x m. cut z x h (inl refl) (inr m) (all-has zs top x m))),
    closed_mem zs d (λ x y h m n. cut x y h (inr m) (inr n)),
  )
    where
      all-has : (zs : List ℕ) → AllByRecursion (λ x. x < z) zs → (x : ℕ) → Mem x zs → x < z
      all-has [] all x m = absurd m
      all-has (w ∷ ws) (h, all) x (inl e) = rw (← e) h
      all-has (w ∷ ws) (h, all) x (inr m) = all-has ws all x m

module _ (ts : List Entry) where
  line_descends : (i : ℕ) → Descending (timeline ts i)
  line_descends i = numbers_descend (λ t. at_either t.node t.partner i) ts

  cut_closed : (within : ℕ → Bool) → Cut ts within → (i : ℕ) → Closed within (timeline ts i)
  cut_closed within cut i = closed_mem within (timeline ts i) (line_descends i) (λ x y h m n l. cut x y i h m n l)

  pub past-cut : (e : ℕ) → Cut ts (past ts e)
  past-cut e x y i h m n l = (pasts-lawful ts).earliest e x y i h m n l

pub counts_tell : CountsTell
counts_tell ts within cut i k x e =
    let (pos, f) = kth-entry (timeline ts i) k x e in
    let tell = tally_tells within (timeline ts i) (cut_closed ts within cut i) (k - 1) x f in
    ((λ h. omega (arith, tell.0 h)), λ h. tell.1 (omega arith))

pub stamps_tell : StampsTell
stamps_tell ts e i k x h = counts_tell ts (past ts e) (past-cut ts e) i k x h

-- ---- of sets that are closed, the one that counts more holds the other

tally_like : (p q : ℕ → Bool) (c : List ℕ) → AllByRecursion (λ x. p x ≡ q x) c → tally p c ≡ tally q c
tally_like p q [] h = refl
tally_like p q (z ∷ zs) (h, hs) = rw (h, tally_like p q zs hs)

module _ (p q : ℕ → Bool) where
  closed_or : (c : List ℕ) → Closed p c → Closed q c → Closed (λ x. p x || q x) c
  closed_or [] d e = tt
  closed_or (z ∷ zs) (d, ds) (e, es) = (
    (λ h. elim (or_cases (p z) (q z) h) [
      | inl k ↦ All-weaker (λ x. p x ≡ true) (λ x. (p x || q x) ≡ true) (λ x j. or_left (p x) (q x) j) zs (d k)
      | inr k ↦ All-weaker (λ x. q x ≡ true) (λ x. (p x || q x) ≡ true) (λ x j. or_right (p x) (q x) j) zs (e k)
    ]),
    closed_or zs ds es,
  )

  tally_or : (c : List ℕ) → Closed p c → Closed q c → tally (λ x. p x || q x) c ≡ max (tally p c) (tally q c)
  tally_or [] d e = omega arith
  tally_or (z ∷ zs) (d, ds) (e, es) =
      let r : ℕ → Bool = λ x. p x || q x in
      let all : (p z || q z) ≡ true → tally r zs ≡ length zs = λ h. tally-all r zs ((closed_or (z ∷ zs) (d, ds) (e, es)).0 h) in
      let lp = tally_le p zs in
      let lq = tally_le q zs in
      let rec = tally_or zs ds es in
      elim (cases_Bool (p z)) [
        | inl k ↦ let a = all (or_left (p z) (q z) k) in let b = tally-all p zs (d k) in elim (cases_Bool (q z)) [ inl j ↦ rw (k, j) (omega arith) | inr j ↦ rw (k, j) (omega arith) ]
        | inr k ↦ elim (cases_Bool (q z)) [
          | inl j ↦ let a = all (or_right (p z) (q z) j) in let b = tally-all q zs (e j) in rw (k, j) (omega arith)
          | inr j ↦ rw (k, j) rec
        ]
      ]

none_closed : (c : List ℕ) → Closed (λ x. false) c × (tally (λ (x : ℕ). false) c ≡ 0)
none_closed [] = (tt, refl)
none_closed (z ∷ zs) = let (d, n) = none_closed zs in (((λ h. absurd (false≢true h)), d), n)

-- the union of some pasts counts the greatest of their counts
some-past : (ts : List Entry) (i : ℕ) (es : List ℕ) →
    Closed (in_some (past ts) es) (timeline ts i) × (tally (in_some (past ts) es) (timeline ts i) ≡ greatest (λ e. stamp ts e i) es)
some-past ts i [] = none_closed (timeline ts i)
some-past ts i (e ∷ es) =
    let c = timeline ts i in
    let (ds, n) = some-past ts i es in
    let d = cut_closed ts (past ts e) (past-cut ts e) i in
    (closed_or (past ts e) (in_some (past ts) es) c d ds, tally_or (past ts e) (in_some (past ts) es) c d ds ∙ ap (λ m. max (stamp ts e i) m) n)

-- ---- one more entry

module _ (t : Entry) (ts : List Entry) (i : ℕ) where
  stamp-kept : (e : ℕ) → e < length ts → stamp (t ∷ ts) e i ≡ stamp ts e i
  stamp-kept e low =
      let p = past (t ∷ ts) e in
      let same = tally_like p (past ts e) (timeline ts i) (all-mem (λ x. p x ≡ past ts e x) (timeline ts i) (λ x _. past-tail t ts e x (omega arith))) in
      elim (cases_Bool (at_either t.node t.partner i)) [
        | inl s ↦ elim (cases_Bool (p (length ts))) [
          | inl h ↦ absurd (omega (arith, (pasts-lawful (t ∷ ts)).no_higher e (length ts) h))
          | inr h ↦ rw (s, h) same
        ]
        | inr s ↦ rw s same
      ]

  stamp_new : stamp (t ∷ ts) (length ts) i ≡ next_stamp ts t i
  stamp_new =
      let p = past (t ∷ ts) (length ts) in
      let c = timeline ts i in
      let laws = pasts-lawful (t ∷ ts) in
      elim (cases_Bool (at_either t.node t.partner i)) [
        | inl s ↦
            let own = laws.own (length ts) (omega arith) in
            let all = all-mem (λ x. p x ≡ true) c (λ x m. laws.earliest (length ts) (length ts) x i own (at_top t ts i s) (at_up t ts x i m) (at_low ts x i m)) in
            rw s (tally-all p (length ts ∷ c) (own, all))
        | inr s ↦
            let q = in_some (past ts) (predecessors t ts) in
            let like = all-mem (λ x. p x ≡ q x) c (λ x m. past_head t ts x ∙ ap (λ b. b || q x) (ne_eqb x (length ts) (λ h. omega (arith, at_low ts x i m)))) in
            rw s (tally_like p q c like ∙ (some-past ts i (predecessors t ts)).1)
      ]

pub stamps_grow : StampsGrow
stamps_grow t ts i = (stamp_new t ts i, stamp-kept t ts i)
