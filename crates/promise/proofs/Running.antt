-- Requests one after another.
use Rattle.std.proofs.Common.{◌≡◌, ℕ, ◌+◌, ◌<◌, List, [], ◌∷◌, ◌++◌, length, get_or, map, take, drop, set, sym, ap, ◌∙◌, subst, arith}
use Rattle.std.proofs.lemmas.List.{map-append, take_more, take_more_set, drop-drop, drop-set-lt}
use Rattle.history.specs.History.{History, idle}
use Rattle.history.specs.Calls.{next_history, history_after}
use Rattle.history.proofs.Calls.{after_push}
use Rattle.promise.specs.declared.requests.Answer.{Answer}
use Rattle.promise.specs.declared.requests.Request.{Request}
use Rattle.promise.specs.Requests.{call_of, Performed}
use Rattle.promise.specs.Runs.{found, Ran}

ran_push : (h : History) (qs : List Request) (rs : List Answer) (q : Request) (a : Answer) → Ran h qs rs → Performed (history_after h (map call_of qs)) q a (next_history (history_after h (map call_of qs)) (call_of q)) → Ran h (qs ++ (q ∷ [])) (rs ++ (a ∷ []))
ran_push h [] [] q a r p = (p, tt)
ran_push h [] (b ∷ rs) q a r p = absurd r
ran_push h (x ∷ qs) [] q a r p = absurd r
ran_push h (x ∷ qs) (b ∷ rs) q a (one, more) p = (one, ran_push (next_history h (call_of x)) qs rs q a more p)

module _ (qs : List Request) (old rs : List Answer) (k : ℕ) (d : Request) (low : k < length qs) (room : k < length rs) (h h' : History) (a : Answer) (here : h ≡ found qs k) (done : Performed h (get_or qs k d) a h') where
  pub after_more : h' ≡ found qs (k + 1)
  after_more =
      let one = get_or qs k d in
      done.leaves ∙ ap (λ (x : History). next_history x (call_of one)) here ∙ sym (after_push idle (map call_of (take k qs)) (call_of one))
      ∙ ap (history_after idle) (sym (ap (map call_of) (take_more qs k d low) ∙ map-append call_of (take k qs) (one ∷ [])))

  pub ran_more : Ran idle (take k qs) (take k rs) → Ran idle (take (k + 1) qs) (take (k + 1) (set rs k a))
  ran_more ran =
      let told = subst (λ (x : History). Performed x (get_or qs k d) a (next_history x (call_of (get_or qs k d)))) here (subst (λ (x : History). Performed h (get_or qs k d) a x) done.leaves done) in
      let pushed = ran_push idle (take k qs) (take k rs) (get_or qs k d) a ran told in
      subst (λ (xs : List Request). Ran idle xs (take (k + 1) (set rs k a))) (sym (take_more qs k d low)) (subst (λ (ys : List Answer). Ran idle (take k qs ++ (get_or qs k d ∷ [])) ys) (sym (take_more_set rs k a room)) pushed)

  pub behind_more : drop k rs ≡ drop k old → drop (k + 1) (set rs k a) ≡ drop (k + 1) old
  behind_more same = drop-set-lt (k + 1) rs k a (omega arith) ∙ sym (drop-drop 1 k rs) ∙ ap (drop 1) same ∙ drop-drop 1 k old
