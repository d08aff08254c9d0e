-- The edges of the entries that a clock takes are the links of the trace, and taken backwards they are turned round.
use Rattle.std.proofs.Common.{◌≡◌, ℕ, zero, suc, ◌-◌, ◌<◌, Bool, true, ◌⊎◌, List, [], ◌∷◌, reverse, length, Some, None, Decides, Option, sym, refl, ap, ◌∙◌, subst, subst₂, inl, inr, arith}
use mathlib.Core.List.{reverse-reverse}
use Rattle.std.proofs.lemmas.List.{length-reverse}
use Rattle.std.proofs.lemmas.Bool.{cases_eq, cases_order, eqb-true, or_right, both_ways, false≢true}
use Rattle.std.proofs.lemmas.Bool.Decides.{same_from_decides, Decides-at}
use Rattle.causality.specs.declared.Event.{Event}
use Rattle.causality.specs.Newest.{entry, numbers, Mem}
use Rattle.causality.specs.Entries.{Entry, is, timeline, past, Follows, Edge, Chain, Chain.one, Chain.more, Reach}
use Rattle.causality.specs.Traces.{node_of, partner_of, sends, receives, both, from, into, stands, events_at, Message, Link, Before, Orderly, entries, forward, backward, mirror, Mirrored, was_sent, Accepted, AcceptedIsOrderly}
use Rattle.causality.proofs.Newest.{nothing, entry_head, entry-low, entry_up, entry_cases, entry-some, entry-mem, mem-entry, kth-entry, entry-kth, entry-order, numbers_out, numbers_in, numbers-low, numbers_descend, entry_turned, Descending}
use Rattle.causality.proofs.Chains.{chain_each, chain_map, chain_turn}
use Rattle.causality.proofs.Pasts.{chain_low, past_reach, reach_past, past_is_reach}

-- ---- entries of a trace

module _ (goes : Event → Event → Bool) where
  pub length-entries : (vs : List Event) → length (entries goes vs) ≡ length vs
  length-entries [] = refl
  length-entries (v ∷ vs) = ap suc (length-entries vs)

  pub timeline-events : (vs : List Event) (i : ℕ) → timeline (entries goes vs) i ≡ events_at vs i
  timeline-events [] i = refl
  timeline-events (v ∷ vs) i = rw (length-entries vs, timeline-events vs i)

  message_up : (u : Event) (vs : List Event) (x y : ℕ) → Message goes vs x y → Message goes (u ∷ vs) x y
  message_up u vs x y (v, w, e, f, h) = (v, w, entry_up u vs x v e, entry_up u vs y w f, h)

  follows_message : (vs : List Event) (x y : ℕ) → Follows (entries goes vs) x y → Message goes vs x y
  follows_message [] x y (t, e, m) = absurd (nothing e)
  follows_message (w ∷ vs) x y (t, e, m) =
      elim (entry_cases _ (entries goes vs) y t e) [
        | inl (k, same) ↦
            let (v, f, h) = numbers_out (goes w) vs x (subst (λ (u : Entry). Mem x u.priors) (sym same) m) in
            (v, w, entry_up w vs x v f, rw (k, length-entries vs) (entry_head w vs), h)
        | inr (_, f) ↦ message_up w vs x y (follows_message vs x y (t, f, m))
      ]

  message_follows : (vs : List Event) (x y : ℕ) → x < y → Message goes vs x y → Follows (entries goes vs) x y
  message_follows [] x y l (v, w, e, f, h) = absurd (nothing e)
  message_follows (u ∷ vs) x y l (v, w, e, f, h) =
      elim (entry_cases u vs x v e) [
        | inl (k, _) ↦ absurd (omega (arith, entry-low (u ∷ vs) y w f))
        | inr (_, e') ↦ elim (entry_cases u vs y w f) [
          | inl (k, same) ↦ (
            record { node = node_of u; partner = partner_of u; priors = numbers (goes u) vs },
            rw (k, ← length-entries vs) (entry_head _ (entries goes vs)),
            numbers_in (goes u) vs x v e' (rw same h),
          )
          | inr (_, f') ↦ let (t, g, m) = message_follows vs x y l (v, w, e', f', h) in (t, entry_up _ (entries goes vs) y t g, m)
        ]
      ]

-- x is earlier than y, and they share a node or y goes with x: the edges, by events
abbrev Flow : (Event → Event → Bool) → List Event → ℕ → ℕ → Type 0
Flow goes vs x y = (x < y) × (((i : ℕ) × Mem x (events_at vs i) × Mem y (events_at vs i)) ⊎ Message goes vs x y)

module _ (goes : Event → Event → Bool) (vs : List Event) where
  edge_flow : (x y : ℕ) → Edge (entries goes vs) x y → Flow goes vs x y
  edge_flow x y (l, inl (i, p, q)) = (l, inl (i, rw (timeline-events goes vs i) at p, rw (timeline-events goes vs i) at q))
  edge_flow x y (l, inr f) = (l, inr (follows_message goes vs x y f))

  flow_edge : (x y : ℕ) → Flow goes vs x y → Edge (entries goes vs) x y
  flow_edge x y (l, inl (i, p, q)) = (l, inl (i, rw (timeline-events goes vs i) p, rw (timeline-events goes vs i) q))
  flow_edge x y (l, inr m) = (l, inr (message_follows goes vs x y l m))

-- ---- the trace turned round

module _ (vs : List Event) where
  mem_turned : (i x : ℕ) → Mem x (events_at vs i) → Mem (mirror vs x) (events_at (reverse vs) i)
  mem_turned i x m =
      let (v, e, h) = numbers_out (λ v. stands v i) vs x m in
      numbers_in (λ v. stands v i) (reverse vs) (mirror vs x) v (entry_turned vs x v e) h

  flow_turned : (goes : Event → Event → Bool) (x y : ℕ) → Flow goes vs x y → Flow (λ v w. goes w v) (reverse vs) (mirror vs y) (mirror vs x)
  flow_turned goes x y (l, inl (i, p, q)) = (omega (arith, numbers-low (λ v. stands v i) vs y q), inl (i, mem_turned i y q, mem_turned i x p))
  flow_turned goes x y (l, inr (v, w, e, f, h)) =
      (omega (arith, entry-low vs y w f), inr (w, v, entry_turned vs y w f, entry_turned vs x v e, h))

  reach_turned : (goes : Event → Event → Bool) (x y : ℕ) → Reach (entries goes vs) x y → Reach (entries (λ v w. goes w v) (reverse vs)) (mirror vs y) (mirror vs x)
  reach_turned goes x y (inl (k, l)) = inl (ap (mirror vs) (sym k), omega (arith, length-entries goes vs, length-entries (λ v w. goes w v) (reverse vs), length-reverse vs))
  reach_turned goes x y (inr c) = inr (chain_turn (mirror vs) (λ u w h. flow_edge _ (reverse vs) _ _ (flow_turned goes u w (edge_flow goes vs u w h))) c)

mirror-mirror : (vs : List Event) (x : ℕ) → x < length vs → mirror (reverse vs) (mirror vs x) ≡ x
mirror-mirror vs x l = omega (arith, length-reverse vs)

pub mirrored : Mirrored
mirrored vs x y lx ly =
    let back : Reach (backward vs) (mirror vs y) (mirror vs x) → Reach (forward vs) x y = λ r.
    subst₂ (Reach (forward vs)) (mirror-mirror vs x lx) (mirror-mirror vs y ly)
    (subst (λ us. Reach (entries from us) (mirror (reverse vs) (mirror vs x)) (mirror (reverse vs) (mirror vs y))) (reverse-reverse vs) (reach_turned (reverse vs) into (mirror vs y) (mirror vs x) r)) in
    same_from_decides {P = Reach (forward vs) x y} _ _
    ((λ h. back (past_reach (backward vs) (mirror vs x) (mirror vs y) h)), λ r. reach_past (backward vs) (mirror vs x) (mirror vs y) (reach_turned vs from x y r))
    (past_is_reach (forward vs) y x)

-- ---- links

-- between two events of a column, from each to the next
column_chain : (vs : List Event) (i m n x y : ℕ) → entry (events_at vs i) m ≡ Some x → entry (events_at vs i) n ≡ Some y → m < n → Chain (Link vs) x y
column_chain vs i m zero x y e f l = absurd (omega arith)
column_chain vs i m (suc n) x y e f l =
    let c = events_at vs i in
    let (z, g) = entry-some c n (omega (arith, entry-low c (suc n) y f)) in
    let last : Link vs z y = inl (i, (suc n, entry-kth c n ∙ g, entry-kth c (suc n) ∙ f)) in
    elim (cases_eq m n) [
      | inl k ↦ let same : x ≡ z = cc (ap (entry c) k) in one (rw same last)
      | inr k ↦ more (column_chain vs i m n x z e g (omega arith)) last
    ]

module _ (vs : List Event) (orderly : Orderly vs) where
  edge_links : (x y : ℕ) → Edge (forward vs) x y → Chain (Link vs) x y
  edge_links x y h = elim (edge_flow from vs x y h).1 [
    | inl (i, p, q) ↦
        let c = events_at vs i in
        let (m, e) = mem-entry c x p in
        let (n, f) = mem-entry c y q in
        column_chain vs i m n x y e f (in_order c (numbers_descend (λ v. stands v i) vs) m n e f h.0)
    | inr m ↦ one (inr m)
  ]
    where
      in_order : (c : List ℕ) → Descending c → (m n : ℕ) → entry c m ≡ Some x → entry c n ≡ Some y → x < y → m < n
      in_order c d m n e f l =
          elim (cases_order m n) [
            | inl k ↦ let same : x ≡ y = cc (ap (entry c) k) in absurd (omega arith)
            | inr (inl k) ↦ k
            | inr (inr k) ↦ absurd (omega (arith, entry-order c d n m y x f e k))
          ]

  link_edge : (x y : ℕ) → Link vs x y → Edge (forward vs) x y
  link_edge x y (inl (i, (k, e, f))) =
      let c = events_at vs i in
      let (pos, e') = kth-entry c k x e in
      let (_, f') = kth-entry c (suc k) y f in
      flow_edge from vs x y (entry-order c (numbers_descend (λ v. stands v i) vs) (k - 1) (suc k - 1) x y e' f' (omega arith), inl (i, entry-mem c _ x e', entry-mem c _ y f'))
  link_edge x y (inr m) = flow_edge from vs x y (orderly x y m, inr m)

  pub before_rises : (x y : ℕ) → Before vs x y → x < y
  before_rises x y c = (chain_low (forward vs) (chain_map link_edge c)).0

  pub past_is_before : (x y : ℕ) → x < length vs → y < length vs → Decides (past (forward vs) y x) ((x ≡ y) ⊎ Before vs x y)
  past_is_before x y lx ly = (
    (λ h. elim (past_reach (forward vs) y x h) [ inl (k, _) ↦ inl k | inr c ↦ inr (chain_each edge_links c) ]),
    λ r. reach_past (forward vs) y x (elim r [ inl k ↦ inl (k, omega (arith, length-entries from vs)) | inr c ↦ inr (chain_map link_edge c) ]),
  )

  pub future_is_after : (x y : ℕ) → x < length vs → y < length vs → Decides (past (backward vs) (mirror vs x) (mirror vs y)) ((x ≡ y) ⊎ Before vs x y)
  future_is_after x y lx ly = Decides-at _ _ (mirrored vs x y lx ly) (past_is_before x y lx ly)

-- ---- traces that were checked event by event

pub both_out : (o p : Option ℕ) → both o p ≡ true → (m : ℕ) × (o ≡ Some m) × (p ≡ Some m)
both_out None p h = absurd (false≢true h)
both_out (Some m) None h = absurd (false≢true h)
both_out (Some m) (Some n) h = (m, refl, ap Some (eqb-true n m h))

one_kind : (v : Event) (m n : ℕ) → sends v ≡ Some m → receives v ≡ Some n → ⊥
one_kind (Event.Local i) m n e f = nothing e
one_kind (Event.Send i k) m n e f = nothing f
one_kind (Event.Receive i k) m n e f = nothing e
one_kind (Event.Meet i j) m n e f = nothing e

received-sent : (vs : List Event) → Accepted vs → (y : ℕ) (w : Event) (m : ℕ) → entry vs y ≡ Some w → receives w ≡ Some m → was_sent vs m ≡ true
received-sent [] a y w m e h = absurd (nothing e)
received-sent (v ∷ vs) (_, known, a) y w m e h =
    or_right (is (sends v) m) _ (elim (entry_cases v vs y w e) [ inl (_, same) ↦ known m (ap receives same ∙ h) | inr (_, f) ↦ received-sent vs a y w m f h ])

pub accepted_is_orderly : AcceptedIsOrderly
accepted_is_orderly [] a x y (v, w, e, f, h) = absurd (nothing e)
accepted_is_orderly (u ∷ vs) (fresh, known, a) x y (v, w, e, f, h) =
    let (m, r, s) = both_out (receives w) (sends v) h in
    elim (entry_cases u vs x v e) [
      | inl (k, same) ↦ elim (entry_cases u vs y w f) [
        | inl (_, same') ↦ absurd (one_kind u m m (ap sends same ∙ s) (ap receives same' ∙ r))
        | inr (_, f') ↦ absurd (both_ways (was_sent vs m) (fresh m (ap sends same ∙ s)) (received-sent vs a y w m f' r))
      ]
      | inr (l, e') ↦ elim (entry_cases u vs y w f) [
        | inl (k, _) ↦ omega arith
        | inr (_, f') ↦ accepted_is_orderly vs a x y (v, w, e', f', h)
      ]
    ]
