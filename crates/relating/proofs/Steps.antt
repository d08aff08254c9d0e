-- The steps of a walk are the rank of the comparison that stopped it.
use Rattle.std.proofs.Common.{◌≡◌, ℕ, suc, Bool, true, false, not, List, [], ◌∷◌, sym, refl, ap, inl, inr, arith}
use Rattle.std.proofs.lemmas.Bool.{cases_Bool, true≢false, false≢true}
use Rattle.relating.specs.Walks.{one_more, every_walk, some_walk, is_every, Ranked, StepsRanked}

pub other_way : (b : Bool) → b ≡ not b → ⊥
other_way true e = true≢false e
other_way false e = false≢true e

module _ (stop : Bool) where
  ranked_none : Ranked stop [] (not stop, 0)
  ranked_none = record {
    at_most = omega arith;
    at_least = λ l. omega arith;
    unstopped = λ _. (tt, refl);
    stopped = λ e. absurd (other_way stop (sym e));
  }

  ranked_here : (bs : List Bool) → Ranked stop (stop ∷ bs) (stop, 1)
  ranked_here bs = record {
    at_most = omega arith;
    at_least = λ _. omega arith;
    unstopped = λ e. absurd (other_way stop e);
    stopped = λ _. ([], bs, refl, tt, refl);
  }

  ranked_more : (bs : List Bool) (answer : Bool × ℕ) → Ranked stop bs answer → Ranked stop (not stop ∷ bs) (one_more answer)
  ranked_more bs (verdict, steps) r = record {
    at_most = omega (arith, r.at_most);
    at_least = λ _. omega arith;
    unstopped = λ e. let (all, n) = r.unstopped e in ((refl, all), ap suc n);
    stopped = λ e. let (before, after, split, all, n) = r.stopped e in (not stop ∷ before, after, ap (λ cs. not stop ∷ cs) split, (refl, all), ap suc n);
  }

every_ranked : (bs : List Bool) → Ranked false bs (every_walk bs)
every_ranked [] = ranked_none false
every_ranked (true ∷ bs) = ranked_more false bs (every_walk bs) (every_ranked bs)
every_ranked (false ∷ bs) = ranked_here false bs

some_ranked : (bs : List Bool) → Ranked true bs (some_walk bs)
some_ranked [] = ranked_none true
some_ranked (true ∷ bs) = ranked_here true bs
some_ranked (false ∷ bs) = ranked_more true bs (some_walk bs) (some_ranked bs)

pub steps_ranked : StepsRanked
steps_ranked r vs n x xs y ys = elim (cases_Bool (is_every r)) [ inl h ↦ rw h (every_ranked _) | inr h ↦ rw h (some_ranked _) ]
