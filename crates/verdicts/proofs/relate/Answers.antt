use Rattle.std.proofs.Common.{ℕ, Bool, leb, ap, ◌∙◌}
use Rattle.relating.specs.Walks.{every_walk, some_walk}
use Rattle.verdicts.proofs.Rows.{rows_compared}
use Rattle.verdicts.proofs.relate.Goals as goal

abbrev at_most : ℕ → ℕ → Bool
at_most k bound = leb k bound

abbrev at_least : ℕ → ℕ → Bool
at_least k bound = leb bound k

pub returns-in-R1 : goal.returns-in-R1
returns-in-R1 c =
    record { few = c.every.ensures.few; walked = λ vs x xs y ys o p. rw c.in-R1.is (c.every.ensures.walked at_most (λ k bound r l h e. e) ∙ ap every_walk (rows_compared c.args.nodes _ at_most _ o.lasts p.joint_pasts)) }

pub returns-in-R2 : goal.returns-in-R2
returns-in-R2 c =
    record { few = c.every-in-R2.ensures.few; walked = λ vs x xs y ys o p. rw c.in-R2.is (c.every-in-R2.ensures.walked at_most (λ k bound r l h e. e) ∙ ap every_walk (rows_compared c.args.nodes _ at_most _ o.lasts p.whole_pasts)) }

pub returns-in-R2P : goal.returns-in-R2P
returns-in-R2P c =
    record { few = c.some.ensures.few; walked = λ vs x xs y ys o p. rw c.in-R2P.is (c.some.ensures.walked at_least (λ k bound r l h e. e) ∙ ap some_walk (rows_compared c.args.nodes _ at_least _ p.lasts o.joint_reaches)) }

pub returns-in-R3 : goal.returns-in-R3
returns-in-R3 c =
    record { few = c.some-in-R3.ensures.few; walked = λ vs x xs y ys o p. rw c.in-R3.is (c.some-in-R3.ensures.walked at_most (λ k bound r l h e. e) ∙ ap some_walk (rows_compared c.args.nodes _ at_most _ o.firsts p.joint_pasts)) }

pub returns-in-R3P : goal.returns-in-R3P
returns-in-R3P c =
    record { few = c.every-in-R3P.ensures.few; walked = λ vs x xs y ys o p. rw c.in-R3P.is (c.every-in-R3P.ensures.walked at_least (λ k bound r l h e. e) ∙ ap every_walk (rows_compared c.args.nodes _ at_least _ p.firsts o.first_reaches)) }

pub returns-in-R4 : goal.returns-in-R4
returns-in-R4 c =
    record { few = c.some-in-R4.ensures.few; walked = λ vs x xs y ys o p. rw c.in-R4.is (c.some-in-R4.ensures.walked at_most (λ k bound r l h e. e) ∙ ap some_walk (rows_compared c.args.nodes _ at_most _ o.firsts p.whole_pasts)) }
