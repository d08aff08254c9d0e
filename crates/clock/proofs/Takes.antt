-- What a list of takes means to a clock is what the causal theory says of it.
use Rattle.std.proofs.Common.{◌≡◌, ℕ, suc, ◌<◌, Bool, true, false, cond, ◌&&◌, eqb, ltb, List, [], ◌∷◌, ◌++◌, length, Some, None, Option, sym, refl, ap, ◌∙◌, subst, ap₂, inl, inr, arith}
use mathlib.Core.Path.{fun_ext}
use mathlib.Core.Bool.{Bool-set}
use mathlib.Core.Logic.{∥∥₁_elim}
use native.Mathlib.Bridge.{le_prop}
use Rattle.std.specs.Option.{option_to_list, is_some, IfSome}
use Rattle.std.proofs.lemmas.Bool.{cases_Bool, eqb-true, lt-ltb, cond-true}
use Rattle.causality.specs.Newest.{entry, tally, Mem}
use Rattle.causality.specs.Entries.{Entry, at_either, timeline, newest, latest, predecessors, past, at, stamp}
use Rattle.causality.proofs.Newest.{nothing, entry_head, entry-tail}
use Rattle.causality.proofs.Pasts.{at_low, past-tail, past_head, past_reach, reach_past, pasts-lawful}
use Rattle.causality.proofs.Counts.{stamps_tell}
use Rattle.causality.specs.Limits.{is_node}
use Rattle.clock.specs.Meaning.{Held, Meaning, held_at, within, latest_held, held_before, next_past, asked, if_given, admits, with_entry, taken, number, counted, Laws}
use Rattle.clock.specs.Takes.{entries_of, MeaningsGrow, MeaningsAnswer, MeaningsLawful, CountsAreChains}
use Rattle.clock.specs.Arrays.{listed}

pub length-entries : (ts : List Entry) → length (entries_of ts) ≡ length ts
length-entries [] = refl
length-entries (t ∷ ts) = ap suc (length-entries ts)

pub held_timeline : (ts : List Entry) (i : ℕ) → held_at (entries_of ts) i ≡ timeline ts i
held_timeline [] i = refl
held_timeline (t ∷ ts) i =
    elim (cases_Bool (at_either t.node t.partner i)) [
      | inl s ↦ rw (s, length-entries ts, held_timeline ts i)
      | inr s ↦ rw (s, held_timeline ts i)
    ]

latest-same : (ts : List Entry) (o : Option ℕ) → latest_held (entries_of ts) o ≡ latest ts o
latest-same ts None = refl
latest-same ts (Some i) = ap newest (held_timeline ts i)

before_same : (t : Entry) (ts : List Entry) → held_before t (entries_of ts) ≡ predecessors t ts
before_same t ts =
    ap₂ (λ (o p : Option ℕ). option_to_list o ++ (option_to_list p ++ t.priors)) (latest-same ts (Some t.node)) (latest-same ts t.partner)

within-is : (ts : List Entry) → within (entries_of ts) ≡ past ts
within-is [] = refl
within-is (t ∷ ts) = fun_ext (λ e. fun_ext (λ x. elim (cases_Bool (eqb e (length ts))) [
  | inl s ↦ let k : e ≡ length ts = eqb-true e (length ts) s in rw (length-entries ts, s, k, within-is ts, before_same t ts)
  | inr s ↦ rw (length-entries ts, s, within-is ts)
]))

pub next_past-is : (t : Entry) (ts : List Entry) (x : ℕ) → next_past t (entries_of ts) x ≡ past (t ∷ ts) (length ts) x
next_past-is t ts x = rw (length-entries ts, within-is ts, before_same t ts) (sym (past_head t ts x))

-- ---- the four laws

pub meanings_lawful : MeaningsLawful
meanings_lawful n ts =
    let laws = pasts-lawful ts in
    record {
      own = λ e l. rw (within-is ts) (laws.own e (omega (arith, length-entries ts)));
      through = rw (within-is ts) laws.through;
      earliest = λ e x y i. rw (within-is ts, held_timeline ts i) (laws.earliest e x y i);
      no_higher = λ e x h. (laws.no_higher e x (rw (within-is ts) at h)).0;
    }

-- s holds the entries of some takes
abbrev pub OfTakes : Meaning → Type 0
OfTakes s = ∥ ((ts : List Entry) × (s.entries ≡ entries_of ts)) ∥₁

pub takes_lawful : (s : Meaning) → OfTakes s → Laws s
takes_lawful s of =
    let laws : (ts : List Entry) → s.entries ≡ entries_of ts → Laws s =
    λ ts same. subst Laws (λ i. record { nodes = s.nodes; entries = sym same i }) (meanings_lawful s.nodes ts) in
    record {
      own = λ e l. ∥∥₁_elim of (Bool-set _ _) (λ (ts, same). (laws ts same).own e l);
      through = λ e y x h k. ∥∥₁_elim of (Bool-set _ _) (λ (ts, same). (laws ts same).through e y x h k);
      earliest = λ e x y i h p q l. ∥∥₁_elim of (Bool-set _ _) (λ (ts, same). (laws ts same).earliest e x y i h p q l);
      no_higher = λ e x h. ∥∥₁_elim of le_prop (λ (ts, same). (laws ts same).no_higher e x h);
    }

-- ---- takes and answers

module _ (s : Meaning) (len : ℕ) (size : length s.entries ≡ len) where
  pub take_refused : (a : ℕ) (b m : Option ℕ) → false ≡ admits s.nodes len a b m → (s ≡ taken s a b m) × (None ≡ number s a b m)
  take_refused a b m h = rw (size, ← h) (refl, refl)

  pub take-accepted : (a : ℕ) (b m : Option ℕ) → true ≡ admits s.nodes len a b m → (with_entry s (asked a b m) ≡ taken s a b m) × (Some len ≡ number s a b m)
  take-accepted a b m h = rw (size, ← h) (refl, refl)

  pub count_absent : (e i : ℕ) → false ≡ (ltb e len && is_node s.nodes i) → None ≡ counted s e i
  count_absent e i h = rw (size, ← h)

  pub count_present : (e i : ℕ) → true ≡ (ltb e len && is_node s.nodes i) → Some (tally (within s.entries e) (held_at s.entries i)) ≡ counted s e i
  count_present e i h = rw (size, ← h)

  -- an answer that is there where the clock knows entry and node, and then the count
  pub count_is : (e i n : ℕ) (answer : Option ℕ) → is_some answer ≡ (ltb e len && is_node s.nodes i) → IfSome answer (λ m. m ≡ n) →
      (true ≡ (ltb e len && is_node s.nodes i) → n ≡ tally (within s.entries e) (held_at s.entries i)) → answer ≡ counted s e i
  count_is e i n None known same tallied = count_absent e i known
  count_is e i n (Some m) known same tallied = ap Some (same ∙ tallied known) ∙ count_present e i known

pub tally-stamp : (ts : List Entry) (e i : ℕ) → tally (within (entries_of ts) e) (held_at (entries_of ts) i) ≡ stamp ts e i
tally-stamp ts e i = rw (within-is ts, held_timeline ts i)

pub meanings_grow : MeaningsGrow
meanings_grow n ts a b m ok = (cond-true _ _ _ ok, cond-true _ _ _ ok ∙ ap Some (length-entries ts))

pub meanings_answer : MeaningsAnswer
meanings_answer n ts e i k = (rw (length-entries ts, tally-stamp ts e i), rw (held_timeline ts i))

some_of : {X : Type 0} (b : Bool) (o : Option X) (x : X) → cond b o None ≡ Some x → o ≡ Some x
some_of true o x h = h
some_of false o x h = absurd (nothing h)

pub counts_are_chains : CountsAreChains
counts_are_chains n ts i k x e c f h =
    let (count, place) = meanings_answer n ts e i k in
    let it : at ts i k ≡ Some x = some_of (is_node n i) (at ts i k) x (sym place ∙ f) in
    let full : ◌≡◌ {A = Option ℕ} (Some (stamp ts e i)) (Some c) =
    some_of (ltb e (length ts) && is_node n i) (Some (stamp ts e i)) c (sym count ∙ h) in
    let same : stamp ts e i ≡ c = cc in
    let (out, back) = stamps_tell ts e i k x it in
    ((λ l. past_reach ts e x (back (omega arith))), λ r. omega (arith, out (reach_past ts e x r)))

-- ---- the entries of a list of takes, one by one

-- v is entry e of the takes ts
abbrev pub Holds : List Entry → ℕ → Held → Type 0
Holds ts e v =
    (priors : List ℕ) × (entry ts e ≡ Some (record { node = v.node; partner = v.partner; priors = priors })) × ((x : ℕ) → v.past x ≡ past ts e x)

pub entries_held : (ts : List Entry) (f : ℕ → Held) → ((e : ℕ) → e < length ts → Holds ts e (f e)) → listed f (length ts) ≡ entries_of ts
entries_held [] f h = refl
entries_held (t ∷ ts) f h =
    let (priors, is, past_is) = h (length ts) (omega arith) in
    let same : record { node = (f (length ts)).node; partner = (f (length ts)).partner; priors = priors } ≡ t = cc (entry_head t ts) in
    let p : (f (length ts)).node ≡ t.node = ap (λ (u : Entry). u.node) same in
    let q : (f (length ts)).partner ≡ t.partner = ap (λ (u : Entry). u.partner) same in
    let r : (x : ℕ) → (f (length ts)).past x ≡ next_past t (entries_of ts) x = λ x. past_is x ∙ sym (next_past-is t ts x) in
    let older : (e : ℕ) → e < length ts → Holds ts e (f e) =
    λ e l. let (ps, it, pasts) = h e (omega arith) in (ps, sym (entry-tail t ts e l) ∙ it, λ x. pasts x ∙ past-tail t ts e x (omega arith)) in
    ap₂ (λ (v : Held) (vs : List Held). v ∷ vs) (λ i. record { node = p i; partner = q i; past = λ x. r x i }) (entries_held ts f older)

-- ---- the latest entry at a node

pub latest-low : (ts : List Entry) (o : Option ℕ) → if_given (λ x. ltb x (length ts)) (latest ts o) ≡ true
latest-low ts None = refl
latest-low ts (Some i) = newest-low (timeline ts i) (λ x m. at_low ts x i m)
  where
    newest-low : (c : List ℕ) → ((x : ℕ) → Mem x c → x < length ts) → if_given (λ x. ltb x (length ts)) (newest c) ≡ true
    newest-low [] h = refl
    newest-low (z ∷ zs) h = lt-ltb z (length ts) (h z (inl refl))
