-- What the reverse clock takes at close is the trace from last to first, each send with its receive.
use Rattle.std.proofs.Common.{◌≡◌, ℕ, ◌-◌, ◌<◌, ◌≤◌, Bool, false, ◌||◌, eqb, List, [], ◌∷◌, ◌++◌, reverse, length, Some, None, Option, sym, refl, ap, ◌∙◌, subst, inl, inr, append_assoc, arith, length-append}
use mathlib.Core.List.{reverse_aux, reverse-reverse}
use Rattle.std.specs.Option.{option_to_list}
use Rattle.std.specs.List.{AllByRecursion}
use Rattle.std.proofs.lemmas.List.{length-reverse}
use Rattle.std.proofs.lemmas.Bool.{cases_Bool, or_parts, or_from, eqb-true, eq-eqb, ne_eqb, eqb-false}
use Rattle.causality.specs.declared.Event.{Event}
use Rattle.causality.specs.Newest.{numbers, has, entry, tally}
use Rattle.causality.specs.Entries.{is}
use Rattle.causality.specs.Traces.{node_of, partner_of, sends, receives, both, into, entries, Accepted}
use Rattle.causality.proofs.Pasts.{is_some}
use Rattle.causality.proofs.Newest.{entry_cases, numbers_turned, reverse_split, length-picked, tally-reverse}
use Rattle.clock.specs.Meaning.{Meaning, taken}
use Rattle.clock.specs.Takes.{meaning}
use Rattle.history.specs.Lawful.{Fits, Once}
use Rattle.records.specs.declared.messages.Sent.{Sent}
use Rattle.feeding.specs.Posted.{posted, receipt_of, from_last, receipt_if, follower, fed_through}
use Rattle.feeding.proofs.Taking.{taken-entry, numbers_never}
use Rattle.feeding.proofs.Posts.{unreceived, numbers_unsent, sends_only, posted_known}

-- ---- the one receive of a message

-- the table notes the one event that received a message
pub posted_receipt : (vs : List Event) (m : ℕ) → Accepted vs → Once vs → option_to_list (receipt_of (posted vs m)) ≡ numbers (λ w. is (receives w) m) vs
posted_receipt [] m a o = refl
posted_receipt (v ∷ vs) m (fresh, known, a) (twice, o) =
    elim (cases_Bool (is (sends v) m)) [
      | inl s ↦ rw (s, sends_only v m s, numbers_unsent (λ w. is (receives w) m) vs (unreceived vs m a (fresh m (is_some (sends v) m s))))
      | inr s ↦ elim (cases_Bool (is (receives v) m)) [
        | inl t ↦
            let (record_of, held) = posted_known vs m (known m (is_some (receives v) m t)) in
            rw (s, t, held, numbers_unsent (λ w. is (receives w) m) vs (twice m (is_some (receives v) m t)))
        | inr t ↦ rw (s, t) (posted_receipt vs m a o)
      ]
    ]

-- ---- counted from the end

both_some : (o : Option ℕ) (m : ℕ) → both o (Some m) ≡ is o m
both_some None m = refl
both_some (Some k) m = elim (cases_Bool (eqb k m)) [ inl e ↦ rw e (eq-eqb m k (sym (eqb-true k m e))) | inr e ↦ rw e (ne_eqb m k (λ f. eqb-false k m e (sym f))) ]

both-none : (o : Option ℕ) → both o None ≡ false
both-none None = refl
both-none (Some k) = refl

numbers_like : (p q : Event → Bool) (vs : List Event) → ((v : Event) → p v ≡ q v) → numbers p vs ≡ numbers q vs
numbers_like p q [] h = refl
numbers_like p q (v ∷ vs) h = rw (h v, numbers_like p q vs h)

numbers-front : (p : Event → Bool) (front rest : List Event) → has p front ≡ false → numbers p (front ++ rest) ≡ numbers p rest
numbers-front p [] rest e = refl
numbers-front p (v ∷ vs) rest e = let (a, b) = or_parts (p v) (has p vs) e in rw a (numbers-front p vs rest b)

has-append : (p : Event → Bool) (xs ys : List Event) → has p (xs ++ ys) ≡ (has p xs || has p ys)
has-append p [] ys = refl
has-append p (x ∷ xs) ys = elim (cases_Bool (p x)) [ inl h ↦ rw h | inr h ↦ rw h (has-append p xs ys) ]

has-reverse : (p : Event → Bool) (xs : List Event) → has p (reverse xs) ≡ false → has p xs ≡ false
has-reverse p [] e = refl
has-reverse p (x ∷ xs) e =
    let (a, b) = or_parts (has p (reverse xs)) (has p (x ∷ [])) (sym (has-append p (reverse xs) (x ∷ [])) ∙ ap (has p) (sym (reverse_split [] xs x)) ∙ e) in
    or_from (p x) (has p xs) (or_parts (p x) false b).0 (has-reverse p xs a)

no_length : (c : List ℕ) → length c ≡ 0 → [] ≡ c
no_length [] e = refl
no_length (z ∷ zs) e = absurd (omega arith)

one-length : (c : List ℕ) (x : ℕ) → length c ≡ 1 → entry c 0 ≡ Some x → x ∷ [] ≡ c
one-length [] x e f = absurd (omega arith)
one-length (z ∷ []) x e f = elim (entry_cases z [] 0 x f) [ inl (_, same) ↦ ap (λ (y : ℕ). y ∷ []) (sym same) | inr (l, _) ↦ absurd (omega arith) ]
one-length (z ∷ y ∷ zs) x e f = absurd (omega arith)

-- what one event passes, at most, it passes in the list turned round
turned_one : (p : Event → Bool) (vs : List Event) (o : Option ℕ) → option_to_list o ≡ numbers p vs → option_to_list (from_last (length vs) o) ≡ numbers p (reverse vs)
turned_one p vs None e =
    no_length _ (length-picked (λ _ us. length us) p (reverse vs) ∙ tally-reverse p vs ∙ sym (length-picked (λ _ us. length us) p vs) ∙ ap length (sym e))
turned_one p vs (Some j) e =
    let count : tally p vs ≡ 1 = sym (length-picked (λ _ us. length us) p vs) ∙ ap length (sym e) in
    let first : entry (numbers p vs) 0 ≡ Some j = ap (λ (c : List ℕ). entry c 0) (sym e) in
    let at : tally p vs - 1 - 0 ≡ 0 = omega arith in
    one-length _ _ (length-picked (λ _ us. length us) p (reverse vs) ∙ tally-reverse p vs ∙ count)
    (ap (entry (numbers p (reverse vs))) (sym at) ∙ numbers_turned p vs 0 j first)

-- ---- an event among those of the trace, from the first on

accepted_older : (newer older : List Event) → Accepted (newer ++ older) → Accepted older
accepted_older [] older a = a
accepted_older (v ∷ vs) older (_, _, a) = accepted_older vs older a

module _ (vs : List Event) (accepted : Accepted vs) (once : Once vs) (held : ℕ → Option Sent) (posts : (m : ℕ) → held m ≡ posted vs m) where
  -- behind a send, its followers are the one receive that the table notes
  followers : (front : List Event) (v : Event) (rest : List Event) → reverse vs ≡ front ++ (v ∷ rest) → (o : Option ℕ) → sends v ≡ o →
      option_to_list (from_last (length vs) (receipt_if held o)) ≡ numbers (into v) rest
  followers front v rest split None e = sym (numbers_like (into v) (λ w. false) rest (λ w. rw e (both-none (receives w))) ∙ numbers_never rest)
  followers front v rest split (Some m) e =
      let p : Event → Bool = λ w. is (receives w) m in
      let mine : option_to_list (receipt_of (held m)) ≡ numbers p vs = ap (λ (s : Option Sent). option_to_list (receipt_of s)) (posts m) ∙ posted_receipt vs m accepted once in
      let older : vs ≡ reverse rest ++ (v ∷ reverse front) = sym (reverse-reverse vs) ∙ ap reverse split ∙ reverse_split front rest v in
      let (fresh, known, a) = accepted_older (reverse rest) (v ∷ reverse front) (subst Accepted older accepted) in
      let early : has p front ≡ false = has-reverse p front (unreceived (reverse front) m a (fresh m e)) in
      let itself : p v ≡ false = sends_only v m (rw e (eq-eqb m m refl)) in
      turned_one p vs (receipt_of (held m)) mine ∙ ap (numbers p) split ∙ numbers-front p front (v ∷ rest) early ∙ rw itself
      (numbers_like p (into v) rest (λ w. rw e (sym (both_some (receives w) m))))

  module _ (n : ℕ) (few : length vs ≤ 512) where
    fed-behind : (front rest : List Event) → reverse vs ≡ front ++ rest → AllByRecursion (Fits n) rest →
        fed_through (meaning n []) (follower held (length vs)) rest ≡ meaning n (entries into rest)
    fed-behind front [] split fits = refl
    fed-behind front (v ∷ rest) split (here, fits) =
        let next : reverse vs ≡ (front ++ (v ∷ [])) ++ rest = split ∙ sym (append_assoc front (v ∷ []) rest) in
        let low : length rest < 512 = omega (arith, ap length split, length-append front (v ∷ rest), length-reverse vs) in
        ap (λ (μ : Meaning). taken μ (node_of v) (partner_of v) (follower held (length vs) v)) (fed-behind (front ++ (v ∷ [])) rest next fits)
        ∙ taken-entry n into v rest (follower held (length vs) v) here low (followers front v rest split (sends v) refl)

    pub fed_whole : AllByRecursion (Fits n) (reverse vs) → fed_through (meaning n []) (follower held (length vs)) (reverse vs) ≡ meaning n (entries into (reverse vs))
    fed_whole fits = fed-behind [] (reverse vs) refl fits

all_turned : {X : Type 0} (P : X → Type 0) (xs ys : List X) → AllByRecursion P xs → AllByRecursion P ys → AllByRecursion P (reverse_aux xs ys)
all_turned P [] ys h k = k
all_turned P (x ∷ xs) ys (h, hs) k = all_turned P xs (x ∷ ys) hs (h, k)

pub all-reverse : {X : Type 0} (P : X → Type 0) (xs : List X) → AllByRecursion P xs → AllByRecursion P (reverse xs)
all-reverse P xs h = all_turned P xs [] h tt
