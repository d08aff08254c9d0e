use Rattle.std.proofs.lemmas.Bool.{both_ways}
use Rattle.correlator.proofs.Questions.{same_event, before_event, after_event, concurrent_event}
use Rattle.correlator.proofs.state.Correlator.compare.Goals as goal

pub returns-then-x-y : goal.returns-then-x-y
returns-then-x-y g c = same_event _ c.requires.orderly _ _ c.if-x-y.true

pub returns-then-reaches : goal.returns-then-reaches
returns-then-reaches g c = before_event _ c.requires.orderly _ _ c.if-x-y.false (c.reaches.ensures.0 c.if-reaches.true)

pub returns-then-reaches-2 : goal.returns-then-reaches-2
returns-then-reaches-2 g c =
    after_event _ c.requires.orderly _ _ c.if-x-y.false (λ to. both_ways _ c.if-reaches.false (c.reaches.ensures.1 to)) (c.reaches-else-reaches.ensures.0 c.if-reaches-2.true)

pub returns-else-reaches-2 : goal.returns-else-reaches-2
returns-else-reaches-2 g c =
    concurrent_event _ c.requires.orderly _ _ c.if-x-y.false (λ to. both_ways _ c.if-reaches.false (c.reaches.ensures.1 to)) (λ to. both_ways _ c.if-reaches-2.false (c.reaches-else-reaches.ensures.1 to))
