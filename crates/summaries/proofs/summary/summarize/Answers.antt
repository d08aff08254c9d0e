use Rattle.std.proofs.Common.{◌≡◌, ℕ, [], ◌∷◌, ◌++◌, refl, min, max, List, length, map, take, ap, ◌∙◌, arith, rules}
use Rattle.gathering.specs.declared.Row.{Row}
use Rattle.gathering.specs.Gathering.{earliest, joined_all}
use Rattle.gathering.specs.Absent.{earliest_associative}
use Rattle.gathering.proofs.Made.{made_map}
use Rattle.counting.specs.Counting.{count_row, or_zeros}
use Rattle.counting.proofs.Joint.{op}
use Rattle.summaries.specs.Rows.{own_row_of, row_from_last, length-row}
use Rattle.summaries.proofs.Indexes.{present-earliest, present-greatest}
use Rattle.summaries.proofs.Summing.{at-past, at_future, at_own, at_end}
use Rattle.summaries.proofs.summary.summarize.Goals as goal

least : (a b d : ℕ) → min (min a b) d ≡ min a (min b d)
least a b d = omega arith

most : (a b d : ℕ) → max (max a b) d ≡ max a (max b d)
most a b d = omega arith

-- rows that are joined, where each is what `of` makes of a member
bound : (f : ℕ → ℕ → ℕ) (law : (x y z : ℕ) → f (f x y) z ≡ f x (f y z)) (of : ℕ → Row) (ms : List ℕ) (rows : List Row) (r : Row) → rows ≡ map of ms → r ≡ or_zeros (joined_all (op f law) rows) → r ≡ or_zeros (joined_all (op f law) (map of ms))
bound f law of ms rows r is h = h ∙ ap (λ (rs : List Row). or_zeros (joined_all (op f law) rs)) is

take_front : (xs ys : List ℕ) → take (length xs) (xs ++ ys) ≡ xs
take_front [] ys = refl
take_front (x ∷ xs) ys = ap (λ (zs : List ℕ). x ∷ zs) (take_front xs ys)

-- what is copied to the front of an array
front : (copied rest members : List ℕ) → copied ≡ members → take (length members) (copied ++ rest) ≡ members
front copied rest members e = rw e (take_front members rest)

pub returns-clause-summed : goal.returns-clause-summed
returns-clause-summed g c vs n x xs t members held =
    let es = c.args.trace.now.events.now in
    let μ = g.F.Clock.means c.args.trace.now.forward.now in
    let ρ = g.R.Clock.means c.args.trace.now.reverse.now in
    let ms = c.as_slice-held.result.now in
    let held_are : ms ≡ x ∷ xs = c.as_slice-held.ensures.value ∙ members in
    let (own, own_each, first, last) = c.bounds.ensures in
    let (whole, whole_each, joint_past, whole_past) = c.bounds-2.ensures in
    let (ahead, ahead_each, near, far) = c.bounds-3.ensures in
    let own_is = made_map _ (own_row_of μ es) ms own own_each (λ x y h. search rules) in
    let whole_is = made_map _ (count_row μ) ms whole whole_each (λ x y h. search rules) in
    let all : min (length es) 65535 ≡ length es = omega (arith, t.few) in
    let ends : c.lengths-ends.result ≡ length-row μ ρ (length es) = c.lengths-ends.ensures ∙ ap (length-row μ ρ) all in
    let ahead_is = made_map _ (row_from_last ρ (min (length es) 65535)) ms ahead ahead_each (λ x y h. search rules) ∙ ap (λ (k : ℕ). map (row_from_last ρ k) ms) all in
    record {
      members = front c.copy_from_slice.new.self _ ms c.copy_from_slice.ensures.after ∙ held_are;
      held = held;
      firsts = λ i node. at_own vs n μ ρ es t x xs held i node earliest earliest_associative ms held_are c.bounds.result.0 min present-earliest (bound earliest earliest_associative (own_row_of μ es) ms own _ own_is first);
      lasts = λ i node. at_own vs n μ ρ es t x xs held i node max most ms held_are c.bounds.result.1 max present-greatest (bound max most (own_row_of μ es) ms own _ own_is last);
      joint_pasts = λ i node. at-past vs n μ ρ es t x xs held i node min least ms held_are c.bounds-2.result.0 (bound min least (count_row μ) ms whole _ whole_is joint_past);
      whole_pasts = λ i node. at-past vs n μ ρ es t x xs held i node max most ms held_are c.bounds-2.result.1 (bound max most (count_row μ) ms whole _ whole_is whole_past);
      first_reaches = λ i node. at_end vs n μ ρ es t x xs held i node c.lengths-ends.result c.bounds-3.result.1 c.from_end.result _ ends (at_future vs n μ ρ es t x xs held i node max most ms held_are c.bounds-3.result.1 (bound max most (row_from_last ρ (length es)) ms ahead _ ahead_is far)) c.from_end.ensures;
      joint_reaches = λ i node. at_end vs n μ ρ es t x xs held i node c.lengths-ends.result c.bounds-3.result.0 c.from_end-2.result _ ends (at_future vs n μ ρ es t x xs held i node min least ms held_are c.bounds-3.result.0 (bound min least (row_from_last ρ (length es)) ms ahead _ ahead_is near)) c.from_end-2.ensures;
    }
