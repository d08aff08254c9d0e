-- The k-th entry of a node is what a search finds.
use Rattle.std.proofs.Common.{sym, ◌∙◌}
use Rattle.std.proofs.lemmas.Bool.{cond-true}
use Rattle.clock.proofs.Takes.{meanings_answer}
use Rattle.link_clock.specs.Links.{all_takes}
use Rattle.link_clock.proofs.LinkClockClock.at.Goals as goal

pub returns : goal.returns
returns c =
    let s = c.args.self.now in
    c.find.ensures ∙ sym (cond-true _ _ _ (sym c.if-not-is_node.ensures)) ∙ sym (meanings_answer s.nodes (all_takes s.links) 0 c.args.i c.args.k).1
