-- A count is what a walk meets.
use Rattle.std.proofs.Common.{◌≡◌, length, sym, ◌∙◌, rules}
use Rattle.std.specs.Option.{IfSome}
use Rattle.causality.specs.Entries.{stamp}
use Rattle.clock.proofs.Takes.{tally-stamp, count_is}
use Rattle.link_clock.specs.Links.{all_takes, links_mean}
use Rattle.link_clock.proofs.Links.{length_held}
use Rattle.link_clock.proofs.LinkClockClock.count.Goals as goal

pub returns : goal.returns
returns c =
    let s = c.args.self.now in
    let e = c.args.e in
    let i = c.args.i in
    let links = s.links in
    let len = length links in
    let walked = stamp (all_takes links) e i in
    let same : IfSome c.then.result (λ n. n ≡ walked) = search rules in
    count_is (links_mean s.nodes links) len (length_held links len) e i walked c.then.result
    (c.then.ensures.variant ∙ rw c.len.ensures at c.knows.ensures) same (λ known. sym (tally-stamp (all_takes links) e i))
