-- What a run keeps, and what two runs agree on.
use Rattle.std.proofs.Common.{◌≡◌, ℕ, zero, suc, List, [], ◌∷◌, ◌++◌, length, map, take, drop, IfOk, Some, None, Option, Ok, Err, Result, sym, refl, ap, ◌∙◌, subst, arith}
use Rattle.std.specs.Option.{option_map}
use Rattle.agreement.specs.Agreement.{Reached}
use Rattle.agreement.proofs.Reached.{reached}
use Rattle.agreement.proofs.Orders.{orders-agree}
use Rattle.agreement.proofs.Rows.{stamps_agree}
use Rattle.causality.specs.declared.CausalOrder.{CausalOrder}
use Rattle.causality.proofs.Newest.{nothing}
use Rattle.history.specs.declared.refusal.Refusal.{Refusal}
use Rattle.history.specs.History.{History, idle}
use Rattle.history.specs.Calls.{Call, refusal, next_history, history_after}
use Rattle.history.specs.Answers.{Answered, reason, OrderOf, stamped}
use Rattle.promise.specs.declared.requests.Answer.{Answer}
use Rattle.promise.specs.declared.requests.Lent.{Lent}
use Rattle.promise.specs.declared.requests.Request.{Request}
use Rattle.promise.specs.declared.requests.Value.{Value}
use Rattle.promise.specs.Requests.{call_of, lent_of, lent_length, with_lent, written, Right, Performed}
use Rattle.promise.specs.Runs.{nth, found, Ran, Run}
use Rattle.promise.specs.Promise.{Kept, Agree, Promise, Both}

-- ---- one run

found_reached : (qs : List Request) (k : ℕ) → Reached (found qs k)
found_reached qs k = reached (map call_of (take k qs))

ran_count : (h : History) (qs : List Request) (rs : List Answer) → Ran h qs rs → length rs ≡ length qs
ran_count h [] [] r = refl
ran_count h [] (a ∷ rs) r = absurd r
ran_count h (q ∷ qs) [] r = absurd r
ran_count h (q ∷ qs) (a ∷ rs) (_, more) = ap suc (ran_count (next_history h (call_of q)) qs rs more)

ran_each : (h : History) (qs : List Request) (rs : List Answer) → Ran h qs rs → (k : ℕ) (q : Request) (a : Answer) → nth qs k ≡ Some q → nth rs k ≡ Some a →
    Performed (history_after h (map call_of (take k qs))) q a (next_history (history_after h (map call_of (take k qs))) (call_of q))
ran_each h [] rs r k q a e f = absurd (nothing e)
ran_each h (x ∷ qs) [] r k q a e f = absurd r
ran_each h (x ∷ qs) (b ∷ rs) (one, more) zero q a e f =
    let same : x ≡ q = cc in
    let also : b ≡ a = cc in
    subst (λ (y : Request). Performed h y a (next_history h (call_of y))) same (subst (λ (y : Answer). Performed h x y (next_history h (call_of x))) also one)
ran_each h (x ∷ qs) (b ∷ rs) (one, more) (suc k) q a e f = ran_each (next_history h (call_of x)) qs rs more k q a e f

pub ran_kept : (qs : List Request) (rs : List Answer) → Ran idle qs rs → Kept qs rs
ran_kept qs rs r = record { count = ran_count idle qs rs r; each = ran_each idle qs rs r }

-- ---- two runs

-- results that hold what `wrap` makes of an answer agree if the answers do
module _ {X : Type 0} (wrap : X → Value) (h k : History) (c d : Call) (P Q : X → Type 0) (agree : (r s : Result X Refusal) → Answered h c r P → Answered k d s Q → r ≡ s) where
  alike : (a b : Result Value Refusal) → reason a ≡ refusal h c → reason b ≡ refusal k d → IfOk a (λ v. (x : X) × (v ≡ wrap x) × P x) → IfOk b (λ v. (x : X) × (v ≡ wrap x) × Q x) → a ≡ b
  alike (Ok v) (Ok w) ea eb (x, vx, px) (y, wy, qy) =
      let same : ◌≡◌ {A = Result X Refusal} (Ok x) (Ok y) = agree (Ok x) (Ok y) (ea, px) (eb, qy) in
      let inner : x ≡ y = cc in
      ap Ok (vx ∙ ap wrap inner ∙ sym wy)
  alike (Ok v) (Err f) ea eb (x, vx, px) u = let same : ◌≡◌ {A = Result X Refusal} (Ok x) (Err f) = agree (Ok x) (Err f) (ea, px) (eb, tt) in let z : ◌≡◌ {A = ℕ} 0 1 = cc in absurd (omega arith)
  alike (Err e) (Ok w) ea eb u (y, wy, qy) = let same : ◌≡◌ {A = Result X Refusal} (Err e) (Ok y) = agree (Err e) (Ok y) (ea, tt) (eb, qy) in let z : ◌≡◌ {A = ℕ} 0 1 = cc in absurd (omega arith)
  alike (Err e) (Err f) ea eb u v =
      let same : ◌≡◌ {A = Result X Refusal} (Err e) (Err f) = agree (Err e) (Err f) (ea, tt) (eb, tt) in
      let inner : e ≡ f = cc in
      ap Err inner

-- what the history says of a request that makes the call c
module _ (h h' : History) (q : Request) (c : Call) (a : Answer) (done : Performed h q a h') (call : call_of q ≡ c) where
  refused_by : reason a.result ≡ refusal h c
  refused_by = done.refuses ∙ ap (refusal h) call

  right_by : IfOk a.result (Right h c)
  right_by = subst (λ (x : Call). IfOk a.result (Right h x)) call done.right

  row_by : a.row ≡ option_map (λ l. with_lent l (written h c)) (lent_of q)
  row_by = done.row ∙ ap (λ (x : Call). option_map (λ l. with_lent l (written h x)) (lent_of q)) call

-- rows that are written alike, in the same memory
rows_alike : (l l' : Option Lent) (f g : List ℕ → List ℕ) → l ≡ l' → ((old : List ℕ) → f old ≡ g old) →
    option_map (λ x. with_lent x f) l ≡ option_map (λ x. with_lent x g) l'
rows_alike None l' f g e same = ap (option_map (λ (x : Lent). with_lent x g)) e
rows_alike (Some l) l' f g e same =
    ap (λ (xs : List ℕ). Some (record { counts = xs ++ drop (lent_length l) l.row.counts })) (same (take (lent_length l) l.row.counts)) ∙ ap (option_map (λ (x : Lent). with_lent x g)) e

module _ (qs : List Request) (rs : List Answer) (qs' : List Request) (rs' : List Answer) (kept : Kept qs rs) (kept' : Kept qs' rs') where
  pub kept-agree : Agree qs rs qs' rs'
  kept-agree = record {
    orders = λ k l p p' a b pair.
        let mine = kept.each k pair.q a pair.asked pair.told in
        let yours = kept'.each l pair.q' b pair.also_asked pair.also_told in
        alike (λ (o : CausalOrder). Value.Ordered o) (found qs k) (found qs' l) (Call.order p p') (Call.order p p') (OrderOf (found qs k) p p') (OrderOf (found qs' l) p p')
        (orders-agree (found qs k) (found qs' l) (found_reached qs k) (found_reached qs' l) pair.columns p p') a.result b.result
        (refused_by _ _ _ _ a mine pair.call) (refused_by _ _ _ _ b yours pair.also_call) (right_by _ _ _ _ a mine pair.call) (right_by _ _ _ _ b yours pair.also_call);
    stamps = λ k l p d len a b pair lent stage.
        row_by _ _ _ _ a (kept.each k pair.q a pair.asked pair.told) pair.call
        ∙ rows_alike (lent_of pair.q) (lent_of pair.q') (stamped (found qs k) p d len) (stamped (found qs' l) p d len) lent
        (λ old. stamps_agree (found qs k) (found qs' l) (found_reached qs k) (found_reached qs' l) pair.columns stage p d len old)
        ∙ sym (row_by _ _ _ _ b (kept'.each l pair.q' b pair.also_asked pair.also_told) pair.also_call);
  }

pub promised : (qs : List Request) (rs : List Answer) (qs' : List Request) (rs' : List Answer) → Ran idle qs rs → Ran idle qs' rs' → Promise qs rs qs' rs'
promised qs rs qs' rs' r r' =
    let kept = ran_kept qs rs r in
    let kept' = ran_kept qs' rs' r' in
    record { first = kept; second = kept'; agree = kept-agree qs rs qs' rs' kept kept' }

-- both runs were made
pub both_run : (qs qs' : List Request) (old old' new new' : List Answer) → Run qs old (Ok tt) new → Run qs' old' (Ok tt) new' → Both qs qs' old old' (Ok tt) new new'
both_run qs qs' old old' new new' (ran, rest) (ran', rest') = (promised qs (take (length qs) new) qs' (take (length qs') new') ran ran', rest, rest')
