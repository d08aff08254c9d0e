-- A list of places is read place by place, in one way only.
use Rattle.std.proofs.Common.{◌≡◌, ℕ, ◌+◌, ◌<◌, ◌≤◌, List, [], ◌∷◌, ◌++◌, length, get_or, take, drop, set, sym, refl, ap, ◌∙◌, subst, append_assoc, append-nil, arith, length-append}
use Rattle.causality.specs.declared.Place.{Place}
use Rattle.std.specs.List.{AllByRecursion}
use Rattle.std.proofs.ByRecursion.{All-push}
use Rattle.std.proofs.lemmas.List.{length-set, length-take-le, take_more_set, drop-drop, drop-set-lt}
use Rattle.line_parts.specs.Parts.{Digit, PlaceAt, SoundPlace, placed}
use Rattle.line_parts.proofs.Reading.{no_digit, same_place}
use Rattle.place_lists.specs.Lists.{Lists, SoundPlaces, Stores, listed}

-- what stands behind the first of the places
abbrev pub behind : List Place → List ℕ
behind [] = []
behind (q ∷ ps) = 44 ∷ listed (q ∷ ps)

listed_split : (p : Place) (ps : List Place) → listed (p ∷ ps) ≡ placed p ++ behind ps
listed_split p [] = sym (append-nil (placed p))
listed_split p (q ∷ ps) = refl

no_digit_behind : (ps : List Place) → Digit (get_or (behind ps) 0 0) → ⊥
no_digit_behind [] d = no_digit 0 (omega arith) d
no_digit_behind (q ∷ ps) d = no_digit 44 (omega arith) d

listed_at : (s : List ℕ) (p : Place) (ps : List Place) → SoundPlace p → s ≡ listed (p ∷ ps) → PlaceAt s p (behind ps)
listed_at s p ps sound e = record { sound = sound; spelt = e ∙ listed_split p ps; stops = no_digit_behind ps }

-- places that were read, each with its comma
abbrev pub before : List Place → List ℕ
before [] = []
before (p ∷ ps) = placed p ++ (44 ∷ before ps)

before_at : (p : Place) (ps : List Place) (rest : List ℕ) → SoundPlace p → PlaceAt (before (p ∷ ps) ++ rest) p (44 ∷ (before ps ++ rest))
before_at p ps rest sound = record { sound = sound; spelt = append_assoc (placed p) (44 ∷ before ps) rest; stops = no_digit 44 (omega arith) }

before_more : (done : List Place) (q : Place) → before (done ++ q ∷ []) ≡ before done ++ (placed q ++ (44 ∷ []))
before_more [] q = refl
before_more (p ∷ done) q = ap (λ l. placed p ++ (44 ∷ l)) (before_more done q) ∙ sym (append_assoc (placed p) (44 ∷ before done) (placed q ++ (44 ∷ [])))

joins : (done : List Place) (q : Place) → before done ++ placed q ≡ listed (done ++ q ∷ [])
joins [] q = refl
joins (p ∷ []) q = append_assoc (placed p) (44 ∷ []) (placed q)
joins (p ∷ r ∷ done) q = append_assoc (placed p) (44 ∷ before (r ∷ done)) (placed q) ∙ ap (λ l. placed p ++ (44 ∷ l)) (joins (r ∷ done) q)

-- ---- what the loop keeps: the places `done` are read, and `rest` is left

pub record Sofar (s rest : List ℕ) (done : List Place) : Type 0 where
  pub sound : AllByRecursion SoundPlace done
  pub is : s ≡ before done ++ rest

pub more : {s rest after next : List ℕ} {done : List Place} {p : Place} → Sofar s rest done → PlaceAt rest p after → after ≡ 44 ∷ next → Sofar s next (done ++ p ∷ [])
more {next = next} {done = done} {p = p} h k e = record {
  sound = All-push SoundPlace done p h.sound k.sound;
  is = h.is ∙ ap (λ l. before done ++ l) (k.spelt ∙ ap (λ l. placed p ++ l) e ∙ sym (append_assoc (placed p) (44 ∷ []) next))
      ∙ sym (append_assoc (before done) (placed p ++ (44 ∷ [])) next) ∙ ap (λ l. l ++ next) (sym (before_more done p));
}

-- a place with nothing behind it is the last
pub ended : {s rest after : List ℕ} {done : List Place} {p : Place} → Sofar s rest done → PlaceAt rest p after → after ≡ [] → length done < 512 → Lists s (done ++ p ∷ [])
ended {done = done} {p = p} h k e small =
    let long = length-append done (p ∷ []) in
    record {
      sound = record { some = omega arith; few = omega arith; all = All-push SoundPlace done p h.sound k.sound };
      is = h.is ∙ ap (λ l. before done ++ l) (k.spelt ∙ ap (λ l. placed p ++ l) e ∙ append-nil (placed p)) ∙ joins done p;
    }

-- the same with the number of places alone
abbrev pub Counted : List ℕ → List ℕ → ℕ → Type 0
Counted s rest n = (done : List Place) × Sofar s rest done × (length done ≡ n)

module _ {s rest after : List ℕ} {p : Place} (n : ℕ) (small : n < 512) (k : PlaceAt rest p after) where
  pub count-more : {next : List ℕ} → Counted s rest n → after ≡ 44 ∷ next → Counted s next (n + 1)
  count-more (done, h, long) e = (done ++ p ∷ [], more h k e, omega (arith, length-append done (p ∷ [])))

  pub count_ended : Counted s rest n → after ≡ [] → (ps : List Place) × Lists s ps × (length ps ≡ n + 1)
  count_ended (done, h, long) e = (done ++ p ∷ [], ended h k e (omega arith), omega (arith, length-append done (p ∷ [])))

-- and with the places in memory, which was `old`
pub record Stored (s rest : List ℕ) (old : List Place) (n : ℕ) (ps : List Place) : Type 0 where
  pub long : length ps ≡ 512
  pub front : Sofar s rest (take n ps)
  pub behind : drop n ps ≡ drop n old

module _ {s rest after : List ℕ} {old : List Place} {p : Place} (n : ℕ) (small : n < 512) (k : PlaceAt rest p after) (ps : List Place) (h : Stored s rest old n ps) where
  stays : drop (n + 1) (set ps n p) ≡ drop (n + 1) old
  stays = drop-set-lt (n + 1) ps n p (omega arith) ∙ sym (drop-drop 1 n ps) ∙ ap (drop 1) h.behind ∙ drop-drop 1 n old

  pub store_more : {next : List ℕ} → after ≡ 44 ∷ next → Stored s next old (n + 1) (set ps n p)
  store_more {next = next} e =
      let long = h.long in
      record {
        long = length-set ps n p ∙ h.long;
        front = subst (λ l. Sofar s next l) (sym (take_more_set ps n p (omega arith))) (more h.front k e);
        behind = stays;
      }

  pub store_ended : after ≡ [] → Stores s (n + 1) (set ps n p) × (drop (n + 1) (set ps n p) ≡ drop (n + 1) old)
  store_ended e =
      let long = h.long in
      let front = length-take-le n ps (omega arith) in (
        record {
          within = omega (arith, length-set ps n p);
          lists = subst (λ l. Lists s l) (sym (take_more_set ps n p (omega arith))) (ended h.front k e (omega arith));
        },
        stays,
      )

-- ---- what is left of a list of which some places were read

pub record Left (done ps : List Place) (rest : List ℕ) : Type 0 where
  pub one : Place
  pub others : List Place
  pub are : ps ≡ done ++ (one ∷ others)
  pub sound : SoundPlace one
  pub is : rest ≡ listed (one ∷ others)

unlist : (done ps : List Place) (rest : List ℕ) → AllByRecursion SoundPlace done → AllByRecursion SoundPlace ps → 1 ≤ length ps → before done ++ rest ≡ listed ps → Left done ps rest
unlist done [] rest sd sp some e = absurd (omega arith)
unlist [] (q ∷ qs) rest sd sp some e = record { one = q; others = qs; are = refl; sound = sp.0; is = e }
unlist (p ∷ done) (q ∷ []) rest sd sp some e =
    let same = same_place (before_at p done rest sd.0) (listed_at _ q [] sp.0 e) in
    absurd (let z = ap length same.1 in omega arith)
unlist (p ∷ done) (q ∷ r ∷ qs) rest sd sp some e =
    let same = same_place (before_at p done rest sd.0) (listed_at _ q (r ∷ qs) sp.0 e) in
    let next : before done ++ rest ≡ listed (r ∷ qs) = ap (drop 1) same.1 in
    let on = unlist done (r ∷ qs) rest sd.1 sp.1 (omega arith) next in
    let first : q ≡ p = sym same.0 in
    record { one = on.one; others = on.others; are = λ i. first i ∷ on.are i; sound = on.sound; is = on.is }

left : {s rest : List ℕ} {done : List Place} → Sofar s rest done → (ps : List Place) → Lists s ps → Left done ps rest
left {rest = rest} {done = done} h ps k = unlist done ps rest h.sound k.sound.all k.sound.some (sym h.is ∙ k.is)

-- no list goes on so
pub no_place : {s rest : List ℕ} {done : List Place} → Sofar s rest done → ((p : Place) (t : List ℕ) → PlaceAt rest p t → ⊥) → (ps : List Place) → Lists s ps → ⊥
no_place h none ps k = let l = left h ps k in none l.one (behind l.others) (listed_at _ l.one l.others l.sound l.is)

comma_or_end : (after : List ℕ) (ms : List Place) → after ≡ behind ms → 0 < length after → ((t : List ℕ) → after ≡ 44 ∷ t → ⊥) → ⊥
comma_or_end after [] e some none = let z = ap length e in omega arith
comma_or_end after (m ∷ ms) e some none = none _ e

pub no_comma : {s rest after : List ℕ} {done : List Place} {p : Place} → Sofar s rest done → PlaceAt rest p after → 0 < length after → ((t : List ℕ) → after ≡ 44 ∷ t → ⊥) → (ps : List Place) → Lists s ps → ⊥
no_comma h k some none ps j =
    let l = left h ps j in
    comma_or_end _ l.others (same_place k (listed_at _ l.one l.others l.sound l.is)).1 some none

pub too_many : {s rest : List ℕ} {done : List Place} → Sofar s rest done → 512 ≤ length done → (ps : List Place) → Lists s ps → ⊥
too_many {done = done} h big ps k =
    let l = left h ps k in
    let few = k.sound.few in
    omega (arith, ap length l.are, length-append done (l.one ∷ l.others))

-- ---- a list is read in one way

same_places : (ps qs : List Place) → 1 ≤ length ps → 1 ≤ length qs → AllByRecursion SoundPlace ps → AllByRecursion SoundPlace qs → listed ps ≡ listed qs → ps ≡ qs
same_places [] qs m n s t e = absurd (omega arith)
same_places (p ∷ ps) [] m n s t e = absurd (omega arith)
same_places (p ∷ []) (q ∷ []) m n s t e =
    let r = same_place (listed_at _ p [] s.0 refl) (listed_at _ q [] t.0 e) in λ i. r.0 i ∷ []
same_places (p ∷ []) (q ∷ r ∷ qs) m n s t e =
    let z = ap length (same_place (listed_at _ p [] s.0 refl) (listed_at _ q (r ∷ qs) t.0 e)).1 in absurd (omega arith)
same_places (p ∷ r ∷ ps) (q ∷ []) m n s t e =
    let z = ap length (same_place (listed_at _ p (r ∷ ps) s.0 refl) (listed_at _ q [] t.0 e)).1 in absurd (omega arith)
same_places (p ∷ r ∷ ps) (q ∷ u ∷ qs) m n s t e =
    let one = same_place (listed_at _ p (r ∷ ps) s.0 refl) (listed_at _ q (u ∷ qs) t.0 e) in
    let on = same_places (r ∷ ps) (u ∷ qs) (omega arith) (omega arith) s.1 t.1 (ap (drop 1) one.1) in
    λ i. one.0 i ∷ on i

pub same_list : (ps qs : List Place) → SoundPlaces ps → SoundPlaces qs → listed ps ≡ listed qs → ps ≡ qs
same_list ps qs s t e = same_places ps qs s.some t.some s.all t.all e
