-- The walks answer each relation, and the answer is fixed by what is asked of it.
use Rattle.std.proofs.Common.{◌≡◌, ℕ, suc, Bool, true, false, not, ◌⊎◌, List, [], ◌∷◌, ◌++◌, length, sym, refl, ap, ◌∙◌, ap₂, inl, inr}
use Rattle.std.specs.List.{AllByRecursion}
use Rattle.std.proofs.lemmas.Bool.Decides.{same_from_decides}
use Rattle.relating.specs.Walks.{Ranked, WalksRelated, OneAnswer, is_every, compared}
use Rattle.relating.proofs.Steps.{other_way, steps_ranked}
use Rattle.relating.proofs.Walks.{walks_decide}

pub walks_related : WalksRelated
walks_related vs orderly n nodes x xs y ys lx ly r low high = record {
  verdict = walks_decide vs orderly n nodes x xs y ys lx ly r low high;
  steps = steps_ranked r vs n x xs y ys;
}

one_of_two : (v stop : Bool) → (v ≡ stop) ⊎ (v ≡ not stop)
one_of_two true true = inl refl
one_of_two true false = inr refl
one_of_two false true = inr refl
one_of_two false false = inl refl

-- the first `stop` of a list stands at one place
first_stop : (stop : Bool) (before before' after after' : List Bool) → AllByRecursion (λ b. b ≡ not stop) before → AllByRecursion (λ b. b ≡ not stop) before' →
    before ++ (stop ∷ after) ≡ before' ++ (stop ∷ after') → length before ≡ length before'
first_stop stop [] [] after after' all all' e = refl
first_stop stop [] (b ∷ bs) after after' all (h, _) e = absurd (other_way stop (cc))
first_stop stop (b ∷ bs) [] after after' (h, _) all' e = absurd (other_way stop (cc))
first_stop stop (b ∷ bs) (b' ∷ bs') after after' (_, all) (_, all') e = ap suc (first_stop stop bs bs' after after' all all' (cc))

ranked_once : (stop : Bool) (bs : List Bool) (v : Bool) (k k' : ℕ) → Ranked stop bs (v, k) → Ranked stop bs (v, k') → k ≡ k'
ranked_once stop bs v k k' r r' =
    elim (one_of_two v stop) [
      | inl e ↦
          let (before, after, split, all, n) = r.stopped e in
          let (before', after', split', all', n') = r'.stopped e in
          n ∙ ap suc (first_stop stop before before' after after' all all' (sym split ∙ split')) ∙ sym n'
      | inr e ↦ (r.unstopped e).1 ∙ sym (r'.unstopped e).1
    ]

pub one_answer : OneAnswer
one_answer r vs n x xs y ys (v, k) (v', k') a b =
    let same : v ≡ v' = same_from_decides v v' a.verdict b.verdict in
    ap₂ (λ (w : Bool) (j : ℕ). (w, j)) same (ranked_once (not (is_every r)) (compared r vs n x xs y ys) v' k k' (rw same at a.steps) b.steps)
