-- What one request does, from what its call obeys.
use Rattle.std.proofs.Common.{◌≡◌, ℕ, ◌-◌, List, ◌++◌, length, take, drop, IfOk, MatchResult, Some, Ok, Err, Result, sym, refl, ap, ◌∙◌, subst, ap₂, arith}
use borrow.Rule.Slice.PartMut.{post_of}
use Rattle.std.specs.Option.{option_map}
use Rattle.std.specs.Result.{IsOkAnd}
use Rattle.std.proofs.lemmas.List.{length-take-le}
use Rattle.history.specs.declared.refusal.Refusal.{Refusal}
use Rattle.history.specs.History.{History}
use Rattle.history.specs.Calls.{Call, refusal, next_history}
use Rattle.history.specs.Answers.{Obeys, reason}
use Rattle.history.specs.Refusals.{number}
use Rattle.promise.specs.declared.requests.Answer.{Answer}
use Rattle.promise.specs.declared.requests.Lent.{Lent}
use Rattle.promise.specs.declared.requests.Request.{Request}
use Rattle.promise.specs.declared.requests.Value.{Value}
use Rattle.promise.specs.Requests.{call_of, Right, left_by, lent_length, with_lent, valued, Performed}

pub reason-valued : {X : Type 0} (f : X → Value) (r : Result X Refusal) → reason (valued f r) ≡ reason r
reason-valued f (Ok x) = refl
reason-valued f (Err e) = refl

pub made_valued : {X : Type 0} (f : X → Value) (P : X → Type 0) (Q : Value → Type 0) → ((x : X) → P x → Q (f x)) → (r : Result X Refusal) → IfOk r P → IfOk (valued f r) Q
made_valued f P Q g (Ok x) h = g x h
made_valued f P Q g (Err e) h = tt

-- a result that is mapped, by a closure that answers f of what it is given
pub mapped : {X : Type 0} (f : X → Value) {Post : X → Value → Type 0} → ((x : X) (v : Value) → Post x v → v ≡ f x) →
    (r : Result X Refusal) (s : Result Value Refusal) → MatchResult r (λ x. IsOkAnd s (Post x)) (λ e. s ≡ Err e) → s ≡ valued f r
mapped f is (Ok x) (Ok v) h = ap Ok (is x v h)
mapped f is (Ok x) (Err e) h = absurd h
mapped f is (Err e) s h = h

-- a call that obeys the history performs its request
pub performed : {X : Type 0} (h h' : History) (q : Request) (c : Call) (f : X → Value) (r : Result X Refusal) (P : X → Type 0) (a : Answer) → call_of q ≡ c → a.result ≡ valued f r → a.row ≡ left_by h q →
    ((x : X) → P x → Right h (call_of q) (f x)) → Obeys h c r P h' → Performed h q a h'
performed h h' q c f r P a same result row right ob =
    let refuses : reason a.result ≡ refusal h (call_of q) = ap reason result ∙ reason-valued f r ∙ ob.refuses ∙ ap (refusal h) (sym same) in
    record {
      refuses = refuses;
      numbers = ap (option_map number) refuses;
      right = subst (λ v. IfOk v (Right h (call_of q))) (sym result) (made_valued f P (Right h (call_of q)) right r ob.answers);
      row = row;
      leaves = ob.leaves ∙ ap (next_history h) (sym same);
    }

-- a call that writes into the lent part of a row
module _ (l : Lent) (m : ℕ) (here : m ≡ lent_length l) (sixteen : length l.row.counts ≡ 16) where
  part : take (m - 0) l.row.counts ≡ take (lent_length l) l.row.counts
  part = let whole : m - 0 ≡ lent_length l = omega arith in ap (λ (k : ℕ). take k l.row.counts) whole

  pub part_long : length (take (m - 0) l.row.counts) ≡ lent_length l
  part_long = ap length part ∙ length-take-le (lent_length l) l.row.counts (omega arith)

  pub lent_left : (f : ℕ → List ℕ → List ℕ) (new : List ℕ) → new ≡ f (length (take (m - 0) l.row.counts)) (take (m - 0) l.row.counts) →
      Some (record { counts = new ++ post_of 0 (m - 0) l.row.counts }) ≡ Some (with_lent l (f (lent_length l)))
  lent_left f new e =
      let whole : m - 0 ≡ lent_length l = omega arith in
      ap₂ (λ (xs ys : List ℕ). Some (record { counts = xs ++ ys })) (e ∙ ap₂ f part_long part) (ap (λ (k : ℕ). drop k l.row.counts) whole)
