-- Events stand at nodes alone, so that columns equal at the nodes are equal everywhere, and places name events alike.
use Rattle.std.proofs.Common.{◌≡◌, ℕ, ◌-◌, ◌≤◌, true, false, eqb, leb, List, [], ◌∷◌, length, Some, None, Option, sym, refl, ap, ◌∙◌, subst, inl, inr, arith}
use Rattle.std.specs.List.{AllByRecursion}
use Rattle.std.proofs.lemmas.Bool.{cases_Bool, cases_eq, or_cases, and_parts, both_ways, eqb-true, leb-true, false≢true, true≢false}
use Rattle.std.proofs.lemmas.Bool.Decides.{nat_tests}
use Rattle.causality.specs.declared.Event.{Event}
use Rattle.causality.specs.declared.Place.{Place}
use Rattle.causality.specs.Limits.{is_node}
use Rattle.causality.specs.Newest.{entry, kth, Mem}
use Rattle.causality.specs.Entries.{is}
use Rattle.causality.specs.Traces.{node_of, partner_of, stands, events_at}
use Rattle.causality.specs.Columns.{column, EqualColumns}
use Rattle.causality.proofs.Newest.{all-entry, numbers_out}
use Rattle.history.specs.History.{History, is_none, named}
use Rattle.history.specs.Lawful.{if_node, Fits}
use Rattle.relating.proofs.Agreements.{column_heights}
use Rattle.agreement.specs.Agreement.{Reached, SameColumns}

-- ---- events stand at nodes

partner-node : (n : ℕ) (o : Option ℕ) (i : ℕ) → is o i ≡ true → if_node n o ≡ true → is_node n i ≡ true
partner-node n None i e f = absurd (false≢true e)
partner-node n (Some j) i e f = subst (λ m. is_node n m ≡ true) (eqb-true j i e) f

fits-node : (n : ℕ) (v : Event) → Fits n v → (i : ℕ) → stands v i ≡ true → is_node n i ≡ true
fits-node n v fits i s =
    elim (or_cases (eqb (node_of v) i) (is (partner_of v) i) s) [
      | inl e ↦ subst (λ m. is_node n m ≡ true) (eqb-true (node_of v) i e) fits.here
      | inr e ↦ partner-node n (partner_of v) i e fits.there
    ]

pub only_nodes : (h : History) → Reached h → (i x : ℕ) → Mem x (events_at h.events i) → (1 ≤ i) × (i ≤ h.nodes)
only_nodes h reached i x m =
    let (v, e, s) = numbers_out (λ v. stands v i) h.events x m in
    let fits = all-entry (Fits h.nodes) h.events x v reached.lawful.fits e in
    let (low, high) = and_parts (leb 1 i) (leb i h.nodes) (fits-node h.nodes v fits i s) in
    (leb-true 1 i low, leb-true i h.nodes high)

no_column : (n i : ℕ) → is_node n i ≡ false → (vs : List Event) → AllByRecursion (Fits n) vs → column vs i ≡ []
no_column n i out [] all = refl
no_column n i out (v ∷ vs) (fits, all) =
    elim (cases_Bool (stands v i)) [
      | inl s ↦ absurd (both_ways (is_node n i) out (fits-node n v fits i s))
      | inr s ↦ rw s (no_column n i out vs all)
    ]

pub equal_columns : (h k : History) → Reached h → Reached k → SameColumns h k → EqualColumns h.events k.events
equal_columns h k reached reached' same i =
    elim (cases_Bool (is_node h.nodes i)) [
      | inl s ↦ same.columns i s
      | inr s ↦ no_column h.nodes i s h.events reached.lawful.fits ∙ sym (no_column k.nodes i (subst (λ n. is_node n i ≡ false) same.nodes s) k.events reached'.lawful.fits)
    ]

-- ---- places name events alike

entry-none : {X : Type 0} (xs : List X) (n : ℕ) → is_none (entry xs n) ≡ leb (length xs) n
entry-none [] n = grind (arith, nat_tests)
entry-none (x ∷ xs) n =
    let rec = entry-none xs n in
    elim (cases_eq n (length xs)) [ inl e ↦ grind (arith, nat_tests) | inr e ↦ grind (arith, nat_tests) ]

kth-none : {X : Type 0} (xs ys : List X) (k : ℕ) → length xs ≡ length ys → is_none (kth xs k) ≡ is_none (kth ys k)
kth-none xs ys k long =
    elim (cases_Bool (eqb k 0)) [
      | inl s ↦ rw s refl
      | inr s ↦ rw s (entry-none xs (k - 1) ∙ ap (λ n. leb n (k - 1)) long ∙ sym (entry-none ys (k - 1)))
    ]

pub named_alike : (h k : History) → Reached h → Reached k → SameColumns h k → (p : Place) → is_none (named h p) ≡ is_none (named k p)
named_alike h k reached reached' same p =
    let long = column_heights h.events k.events (equal_columns h k reached reached' same) p.node in
    let alike = kth-none (events_at h.events p.node) (events_at k.events p.node) p.index long in
    rw same.nodes (elim (cases_Bool (is_node k.nodes p.node)) [ inl s ↦ rw s alike | inr s ↦ rw s refl ])

pub some_of : {X : Type 0} (o : Option X) → is_none o ≡ false → (x : X) × (o ≡ Some x)
some_of None e = absurd (true≢false e)
some_of (Some x) e = (x, refl)
