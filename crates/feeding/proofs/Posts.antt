-- What the table holds of a message is what the events tell of it.
use Rattle.std.proofs.Common.{◌≡◌, ℕ, Bool, true, false, cond, not, ◌&&◌, ◌||◌, eqb, List, [], ◌∷◌, length, Some, None, Option, sym, refl, ap, ◌∙◌, inl, inr}
use Rattle.std.specs.Option.{option_to_list}
use Rattle.std.proofs.lemmas.Bool.{cases_Bool, or_parts, or_cases, or_right, or_from, eqb-true, and_parts, both_ways, false≢true}
use Rattle.causality.specs.declared.Event.{Event}
use Rattle.causality.specs.Newest.{numbers, has}
use Rattle.causality.specs.Entries.{is}
use Rattle.causality.specs.Traces.{node_of, sends, receives, was_sent, Accepted}
use Rattle.causality.proofs.Pasts.{is_some}
use Rattle.history.specs.History.{is_none, was_received, was_sent_by}
use Rattle.records.specs.declared.messages.Sent.{Sent}
use Rattle.records.specs.Messages.{received}
use Rattle.feeding.specs.Posted.{posted, is_received, is_by, event_of}

-- ---- a receipt changes nothing else

none-received : (e : ℕ) (o : Option Sent) → is_none (received e o) ≡ is_none o
none-received e None = refl
none-received e (Some s) = refl

by_received : (a e : ℕ) (o : Option Sent) → is_by a (received e o) ≡ is_by a o
by_received a e None = refl
by_received a e (Some s) = refl

event_received : (e : ℕ) (o : Option Sent) → event_of (received e o) ≡ event_of o
event_received e None = refl
event_received e (Some s) = refl

now_received : (e : ℕ) (o : Option Sent) → is_none o ≡ false → is_received (received e o) ≡ true
now_received e None h = sym h
now_received e (Some s) h = refl

-- what a receipt leaves as it was, an event that does not send the message leaves too
module _ {X : Type 0} (f : Option Sent → X) (same : (e : ℕ) (o : Option Sent) → f (received e o) ≡ f o) where
  unsent : (v : Event) (vs : List Event) (m : ℕ) → is (sends v) m ≡ false → f (posted (v ∷ vs) m) ≡ f (posted vs m)
  unsent v vs m s = elim (cases_Bool (is (receives v) m)) [ inl t ↦ rw (s, t) (same (length vs) (posted vs m)) | inr t ↦ rw (s, t) refl ]

-- ---- tests of the events

has_stronger : (p q : Event → Bool) → ((v : Event) → q v ≡ true → p v ≡ true) → (vs : List Event) → has p vs ≡ false → has q vs ≡ false
has_stronger p q h [] e = refl
has_stronger p q h (v ∷ vs) e =
    let (a, b) = or_parts (p v) (has p vs) e in
    or_from (q v) (has q vs) (elim (cases_Bool (q v)) [ inl t ↦ absurd (both_ways (p v) a (h v t)) | inr t ↦ t ]) (has_stronger p q h vs b)

pub sends_only : (v : Event) (m : ℕ) → is (sends v) m ≡ true → is (receives v) m ≡ false
sends_only (Event.Local i) m e = refl
sends_only (Event.Send i k) m e = refl
sends_only (Event.Receive i k) m e = absurd (false≢true e)
sends_only (Event.Meet i j) m e = refl

received-sent : (vs : List Event) (m : ℕ) → Accepted vs → was_received vs m ≡ true → was_sent vs m ≡ true
received-sent [] m a e = absurd (false≢true e)
received-sent (v ∷ vs) m (_, known, a) e =
    or_right (is (sends v) m) _ (elim (or_cases (is (receives v) m) (was_received vs m) e) [ inl t ↦ known m (is_some (receives v) m t) | inr t ↦ received-sent vs m a t ])

pub unreceived : (vs : List Event) (m : ℕ) → Accepted vs → was_sent vs m ≡ false → was_received vs m ≡ false
unreceived vs m a s = elim (cases_Bool (was_received vs m)) [ inl t ↦ absurd (both_ways (was_sent vs m) s (received-sent vs m a t)) | inr t ↦ t ]

pub numbers_unsent : (p : Event → Bool) (vs : List Event) → has p vs ≡ false → numbers p vs ≡ []
numbers_unsent p [] e = refl
numbers_unsent p (v ∷ vs) e = let (a, b) = or_parts (p v) (has p vs) e in rw a (numbers_unsent p vs b)

-- ---- the record of a message

pub posted-sent : (vs : List Event) (m : ℕ) → not (is_none (posted vs m)) ≡ was_sent vs m
posted-sent [] m = refl
posted-sent (v ∷ vs) m =
    elim (cases_Bool (is (sends v) m)) [
      | inl s ↦ rw s refl
      | inr s ↦ ap not (unsent is_none none-received v vs m s) ∙ posted-sent vs m ∙ rw s refl
    ]

-- a message that was sent has a record
pub posted_known : (vs : List Event) (m : ℕ) → was_sent vs m ≡ true → (s : Sent) × (posted vs m ≡ Some s)
posted_known vs m h = there (posted vs m) (posted-sent vs m ∙ h)
  where
    there : (o : Option Sent) → not (is_none o) ≡ true → (s : Sent) × (o ≡ Some s)
    there None e = absurd (false≢true e)
    there (Some s) e = (s, refl)

-- the one event that sends the message
pub posted_event : (vs : List Event) (m : ℕ) → Accepted vs → option_to_list (event_of (posted vs m)) ≡ numbers (λ w. is (sends w) m) vs
posted_event [] m a = refl
posted_event (v ∷ vs) m (fresh, _, a) =
    elim (cases_Bool (is (sends v) m)) [
      | inl s ↦ rw (s, numbers_unsent (λ w. is (sends w) m) vs (fresh m (is_some (sends v) m s)))
      | inr s ↦ ap option_to_list (unsent event_of event_received v vs m s) ∙ posted_event vs m a ∙ rw s refl
    ]

or_false : (b : Bool) → (b || false) ≡ b
or_false true = refl
or_false false = refl

pub posted_by : (vs : List Event) (a m : ℕ) → Accepted vs → is_none (posted vs m) ≡ false → is_by a (posted vs m) ≡ was_sent_by vs a m
posted_by [] a m ok e = refl
posted_by (v ∷ vs) a m (fresh, _, ok) e =
    elim (cases_Bool (is (sends v) m)) [
      | inl s ↦
          let none : was_sent_by vs a m ≡ false = has_stronger (λ w. is (sends w) m) (λ w. is (sends w) m && eqb (node_of w) a) (λ w h. (and_parts (is (sends w) m) (eqb (node_of w) a) h).0) vs (fresh m (is_some (sends v) m s)) in
          rw (s, none) (sym (or_false (eqb (node_of v) a)))
      | inr s ↦ unsent (is_by a) (by_received a) v vs m s ∙ posted_by vs a m ok (sym (unsent is_none none-received v vs m s) ∙ e) ∙ rw s refl
    ]

pub posted-received : (vs : List Event) (m : ℕ) → Accepted vs → is_none (posted vs m) ≡ false → is_received (posted vs m) ≡ was_received vs m
posted-received [] m ok e = refl
posted-received (v ∷ vs) m (fresh, _, ok) e =
    elim (cases_Bool (is (sends v) m)) [
      | inl s ↦ rw (s, sends_only v m s, unreceived vs m ok (fresh m (is_some (sends v) m s)))
      | inr s ↦
          let had = sym (unsent is_none none-received v vs m s) ∙ e in
          elim (cases_Bool (is (receives v) m)) [
            | inl t ↦ rw (s, t) (now_received (length vs) (posted vs m) had)
            | inr t ↦ rw (s, t) (posted-received vs m ok had)
          ]
    ]

-- ---- the table after a send and a receive

pub post_send : (vs : List Event) (a m k n : ℕ) (o : Option Sent) → n ≡ length vs → o ≡ posted vs k →
    cond (eqb m k) (Some (record { message = m; node = a; event = n; receipt = None })) o ≡ posted (Event.Send a m ∷ vs) k
post_send vs a m k n o e f = elim (cases_Bool (eqb m k)) [ inl s ↦ rw (s, e, eqb-true m k s) | inr s ↦ rw s f ]

pub post_receive : (vs : List Event) (a m k n : ℕ) (o : Option Sent) → n ≡ length vs → o ≡ posted vs k →
    cond (eqb m k) (received n o) o ≡ posted (Event.Receive a m ∷ vs) k
post_receive vs a m k n o e f = rw (e, f) refl
