-- A past is what chains of edges lead to, and so the four laws hold of it.
use Rattle.std.proofs.Common.{◌≡◌, ℕ, ◌<◌, ◌≤◌, Bool, true, ◌||◌, eqb, List, [], ◌∷◌, ◌++◌, length, Some, None, Option, sym, refl, ap, ◌∙◌, subst, inl, inr, arith}
use Rattle.std.specs.Option.{option_to_list}
use Rattle.std.proofs.lemmas.Bool.{cases_Bool, cases_eq, eqb-true, eq-eqb, ne_eqb, or_cases, or_left, or_right, false≢true}
use Rattle.causality.specs.Newest.{Mem}
use Rattle.causality.specs.Entries.{Entry, is, at_either, timeline, newest, latest, predecessors, in_some, past, Edge, Chain, Chain.one, Chain.more, Reach, PastIsReach, PastsLawful}
use Rattle.causality.proofs.Newest.{entry_head, entry-tail, entry-low, entry_up, numbers_up, numbers_down, numbers_out, numbers-low, any_left, any_right, any_cases}
use Rattle.causality.proofs.Chains.{chain_join, chain_map, last_step}

-- ---- edges, with one more entry and with one less

module _ (t : Entry) (ts : List Entry) where
  pub at_up : (x i : ℕ) → Mem x (timeline ts i) → Mem x (timeline (t ∷ ts) i)
  at_up x i m = numbers_up (λ u. at_either u.node u.partner i) t ts x m

  pub at_down : (x i : ℕ) → x < length ts → Mem x (timeline (t ∷ ts) i) → Mem x (timeline ts i)
  at_down x i l m = numbers_down (λ u. at_either u.node u.partner i) t ts x l m

  pub at_top : (i : ℕ) → at_either t.node t.partner i ≡ true → Mem (length ts) (timeline (t ∷ ts) i)
  at_top i h = rw h (inl refl)

  pub top_stands : (i : ℕ) → Mem (length ts) (timeline (t ∷ ts) i) → at_either t.node t.partner i ≡ true
  top_stands i m =
      let (u, e, h) = numbers_out (λ u. at_either u.node u.partner i) (t ∷ ts) (length ts) m in
      let same : u ≡ t = cc (entry_head t ts) in
      rw same at h

  edge_up : (x y : ℕ) → Edge ts x y → Edge (t ∷ ts) x y
  edge_up x y (l, inl (i, p, q)) = (l, inl (i, at_up x i p, at_up y i q))
  edge_up x y (l, inr (u, e, m)) = (l, inr (u, entry_up t ts y u e, m))

  edge_down : (x y : ℕ) → y < length ts → Edge (t ∷ ts) x y → Edge ts x y
  edge_down x y h (l, inl (i, p, q)) = (l, inl (i, at_down x i (omega arith) p, at_down y i h q))
  edge_down x y h (l, inr (u, e, m)) = (l, inr (u, sym (entry-tail t ts y h) ∙ e, m))

pub at_low : (ts : List Entry) (x i : ℕ) → Mem x (timeline ts i) → x < length ts
at_low ts x i m = numbers-low (λ u. at_either u.node u.partner i) ts x m

edge_low : (ts : List Entry) (x y : ℕ) → Edge ts x y → (x < y) × (y < length ts)
edge_low ts x y (l, inl (i, p, q)) = (l, at_low ts y i q)
edge_low ts x y (l, inr (u, e, m)) = (l, entry-low ts y u e)

pub chain_low : (ts : List Entry) {x y : ℕ} → Chain (Edge ts) x y → (x < y) × (y < length ts)
chain_low ts (one {x} {y} l) = edge_low ts x y l
chain_low ts (more {x} {p} {y} c l) = omega (arith, chain_low ts c, edge_low ts p y l)

chain_down : (t : Entry) (ts : List Entry) {x y : ℕ} → y < length ts → Chain (Edge (t ∷ ts)) x y → Chain (Edge ts) x y
chain_down t ts h (one {x} {y} l) = one (edge_down t ts x y h l)
chain_down t ts h (more {x} {p} {y} c l) = more (chain_down t ts (omega (arith, l.0)) c) (edge_down t ts p y h l)

reach_up : (t : Entry) (ts : List Entry) {x e : ℕ} → Reach ts x e → Reach (t ∷ ts) x e
reach_up t ts (inl (k, h)) = inl (k, omega arith)
reach_up t ts (inr c) = inr (chain_map (edge_up t ts) c)

reach_join : (ts : List Entry) {x y z : ℕ} → Reach ts x y → Reach ts y z → Reach ts x z
reach_join ts (inl (k, _)) r = rw k r
reach_join ts (inr c) (inl (k, _)) = inr (subst (Chain (Edge ts) _) k c)
reach_join ts (inr c) (inr d) = inr (chain_join c d)

-- ---- the latest at a node, and immediate predecessors

newest-mem : (c : List ℕ) (q : ℕ) → Mem q (option_to_list (newest c)) → Mem q c
newest-mem [] q m = m
newest-mem (z ∷ zs) q m = elim m [ inl e ↦ inl e | inr n ↦ absurd n ]

pub latest_top : (ts : List Entry) (i p : ℕ) → Mem p (timeline ts i) → (q : ℕ) × Mem q (option_to_list (latest ts (Some i))) × Mem q (timeline ts i) × (p ≤ q)
latest_top [] i p m = absurd m
latest_top (t ∷ ts) i p m =
    elim (cases_Bool (at_either t.node t.partner i)) [
      | inl s ↦ let low = at_low (t ∷ ts) p i m in rw s (length ts, inl refl, inl refl, omega arith)
      | inr s ↦ rw s (latest_top ts i p (rw s at m))
    ]

pub is_some : (o : Option ℕ) (i : ℕ) → is o i ≡ true → o ≡ Some i
is_some None i h = absurd (false≢true h)
is_some (Some j) i h = ap Some (eqb-true j i h)

module _ (t : Entry) (ts : List Entry) where
  -- the latest entry at a node of t is a predecessor
  latest_prior : (i q : ℕ) → at_either t.node t.partner i ≡ true → Mem q (option_to_list (latest ts (Some i))) → Mem q (predecessors t ts)
  latest_prior i q s m =
      elim (or_cases (eqb t.node i) (is t.partner i) s) [
        | inl k ↦ any_left _ (option_to_list (latest ts (Some t.node))) _ (rw (eqb-true t.node i k) m)
        | inr k ↦ any_right _ (option_to_list (latest ts (Some t.node))) _ (any_left _ (option_to_list (latest ts t.partner)) _ (rw (is_some t.partner i k) m))
      ]

  latest_edge : (o : Option ℕ) → ((i : ℕ) → o ≡ Some i → at_either t.node t.partner i ≡ true) → (p : ℕ) → Mem p (option_to_list (latest ts o)) → Edge (t ∷ ts) p (length ts)
  latest_edge None s p m = absurd m
  latest_edge (Some i) s p m =
      let h = newest-mem (timeline ts i) p m in
      (at_low ts p i h, inl (i, at_up t ts p i h, at_top t ts i (s i refl)))

  prior_edge : (p : ℕ) → p < length ts → Mem p (predecessors t ts) → Edge (t ∷ ts) p (length ts)
  prior_edge p low m =
      elim (any_cases _ (option_to_list (latest ts (Some t.node))) (option_to_list (latest ts t.partner) ++ t.priors) m) [
        | inl k ↦ latest_edge (Some t.node) (λ i e. or_left _ _ (eq-eqb t.node i (cc))) p k
        | inr k ↦ elim (any_cases _ (option_to_list (latest ts t.partner)) t.priors k) [
          | inl j ↦ latest_edge t.partner (λ i e. or_right (eqb t.node i) _ (rw e (eq-eqb i i refl))) p j
          | inr j ↦ (low, inr (t, entry_head t ts, j))
        ]
      ]

  -- an edge to t comes from a predecessor, or from what leads to one
  edge_prior : (p : ℕ) → Edge (t ∷ ts) p (length ts) → (q : ℕ) × Mem q (predecessors t ts) × Reach ts p q
  edge_prior p (l, inl (i, m, n)) =
      let m' = at_down t ts p i l m in
      let (q, k, f, h) = latest_top ts i p m' in (
        q,
        latest_prior i q (top_stands t ts i n) k,
        elim (cases_eq p q) [ inl j ↦ inl (j, at_low ts q i f) | inr j ↦ inr (one (omega arith, inl (i, m', f))) ],
      )
  edge_prior p (l, inr (u, e, m)) =
      let same : u ≡ t = cc (entry_head t ts) in
      let here : Mem p t.priors = rw same at m in
      (p, any_right _ (option_to_list (latest ts (Some t.node))) _ (any_right _ (option_to_list (latest ts t.partner)) _ here), inl (refl, l))

-- ---- pasts and chains

in_some_out : (f : ℕ → ℕ → Bool) (es : List ℕ) (x : ℕ) → in_some f es x ≡ true → (p : ℕ) × Mem p es × (f p x ≡ true)
in_some_out f [] x h = absurd (false≢true h)
in_some_out f (e ∷ es) x h =
    elim (or_cases (f e x) (in_some f es x) h) [ inl k ↦ (e, inl refl, k) | inr k ↦ let (p, m, j) = in_some_out f es x k in (p, inr m, j) ]

in_some_in : (f : ℕ → ℕ → Bool) (es : List ℕ) (x p : ℕ) → Mem p es → f p x ≡ true → in_some f es x ≡ true
in_some_in f [] x p m h = absurd m
in_some_in f (e ∷ es) x p (inl k) h = or_left (f e x) (in_some f es x) (rw k h)
in_some_in f (e ∷ es) x p (inr m) h = or_right (f e x) _ (in_some_in f es x p m h)

module _ (t : Entry) (ts : List Entry) where
  pub past-tail : (e x : ℕ) → (e ≡ length ts → ⊥) → past (t ∷ ts) e x ≡ past ts e x
  past-tail e x h = rw (ne_eqb e (length ts) h)

  pub past_head : (x : ℕ) → past (t ∷ ts) (length ts) x ≡ (eqb x (length ts) || in_some (past ts) (predecessors t ts) x)
  past_head x = rw (eq-eqb (length ts) (length ts) refl)

pub past_reach : (ts : List Entry) (e x : ℕ) → past ts e x ≡ true → Reach ts x e
past_reach [] e x h = absurd (false≢true h)
past_reach (t ∷ ts) e x h =
    elim (cases_eq e (length ts)) [
      | inl k ↦ elim (or_cases _ _ (sym (past_head t ts x) ∙ subst (λ n. past (t ∷ ts) n x ≡ true) k h)) [
        | inl j ↦ inl (eqb-true x (length ts) j ∙ sym k, omega arith)
        | inr j ↦
            let (p, m, f) = in_some_out (past ts) (predecessors t ts) x j in
            let r = past_reach ts p x f in
            reach_join (t ∷ ts) (reach_up t ts r) (rw k (inr (one (prior_edge t ts p (reach_low ts r) m))))
      ]
      | inr k ↦ reach_up t ts (past_reach ts e x (sym (past-tail t ts e x k) ∙ h))
    ]
  where
    reach_low : (ts : List Entry) {x e : ℕ} → Reach ts x e → e < length ts
    reach_low ts (inl (_, l)) = l
    reach_low ts (inr c) = (chain_low ts c).1

pub own : (ts : List Entry) (e : ℕ) → e < length ts → past ts e e ≡ true
own [] e l = absurd (omega arith)
own (t ∷ ts) e l =
    elim (cases_eq e (length ts)) [
      | inl k ↦ rw (eq-eqb e (length ts) k) (or_left _ _ (eq-eqb e e refl))
      | inr k ↦ past-tail t ts e e k ∙ own ts e (omega arith)
    ]

pub reach_past : (ts : List Entry) (e x : ℕ) → Reach ts x e → past ts e x ≡ true
reach_past ts e x (inl (k, h)) = rw k (own ts e h)
reach_past [] e x (inr c) = absurd (omega (arith, chain_low [] c))
reach_past (t ∷ ts) e x (inr c) =
    elim (cases_eq e (length ts)) [
      | inl k ↦
          let (p, r, l) = last_step (subst (Chain (Edge (t ∷ ts)) x) k c) in
          let to-p : Reach ts x p = elim r [ inl j ↦ inl (j, l.0) | inr d ↦ inr (chain_down t ts l.0 d) ] in
          let (q, m, to-q) = edge_prior t ts p l in
          rw k (past_head t ts x ∙ or_right (eqb x (length ts)) _ (in_some_in (past ts) (predecessors t ts) x q m (reach_past ts q x (reach_join ts to-p to-q))))
      | inr k ↦ past-tail t ts e x k ∙ reach_past ts e x (inr (chain_down t ts (omega (arith, chain_low (t ∷ ts) c)) c))
    ]

pub past_is_reach : PastIsReach
past_is_reach ts e x = (past_reach ts e x, reach_past ts e x)

-- ---- the four laws

pub pasts-lawful : PastsLawful
pasts-lawful ts = record {
  own = own ts;
  through = λ e y x h k. reach_past ts e x (reach_join ts (past_reach ts y x k) (past_reach ts e y h));
  earliest = λ e x y i h p q l. reach_past ts e y (reach_join ts (inr (one (l, inl (i, q, p)))) (past_reach ts e x h));
  no_higher = λ e x h. elim (past_reach ts e x h) [ inl (k, l) ↦ (omega arith, l) | inr c ↦ omega (arith, chain_low ts c) ];
}
