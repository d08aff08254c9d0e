-- A take refuses, or adds one link.
use Rattle.std.proofs.Common.{◌≡◌, ℕ, true, List, [], ◌∷◌, ◌++◌, length, Some, Option, sym, ap, ◌∙◌, arith}
use Rattle.clock.specs.Meaning.{admits, taken, number}
use Rattle.clock.specs.Takes.{meaning}
use Rattle.clock.proofs.Arrays.{Admitted, admitted}
use Rattle.clock.proofs.Takes.{take_refused, take-accepted}
use Rattle.link_clock.specs.declared.Link.{Link}
use Rattle.link_clock.specs.declared.LinkClock.{LinkClock}
use Rattle.link_clock.specs.Links.{links_mean, Kept, latest_of, Noted}
use Rattle.link_clock.proofs.Links.{length_held, takes_all, kept_more}
use Rattle.link_clock.proofs.LinkClockClock.take.Goals as goal

pub returns-then-not-admits : goal.returns-then-not-admits
returns-then-not-admits c =
    let s = c.args.self.now in
    let (same, none) = take_refused (links_mean s.nodes s.links) (length s.links) (length_held s.links (length s.links)) c.args.entry.node c.args.entry.partner c.args.entry.prior (rw c.len-e.ensures at c.if-not-admits.ensures) in
    record { after = same; value = none }

module _ (s : LinkClock) (a : ℕ) (b m : Option ℕ) (h : true ≡ admits s.nodes (length s.links) a b m) where
  ok : Admitted (length s.links) a b m
  ok = admitted s.nodes (length s.links) a b m s.within.1 (sym h)

  -- one more link
  grown : (own other : Option ℕ) (latest : List (Option ℕ)) (links : List Link) → own ≡ latest_of s.latest (Some a) → other ≡ latest_of s.latest b → Noted s.latest a b (length s.links) latest →
      links ≡ s.links ++ (record { entry = record { node = a; partner = b; prior = m }; before = record { own = own; other = other } } ∷ []) →
      Kept links latest
      × (links_mean s.nodes links ≡ taken (links_mean s.nodes s.links) a b m)
      × (Some (length s.links) ≡ number (links_mean s.nodes s.links) a b m)
  grown own other latest links p q noted is =
      let held = s.links in
      let len = length held in
      let (after, value) = take-accepted (links_mean s.nodes held) len (length_held held len) a b m h in
      rw is (
        kept_more held s.latest latest a b m own other ok p q noted s.kept,
        ap (meaning s.nodes) (takes_all held s.latest latest a b m own other ok p q noted) ∙ after,
        value,
      )

pub invariant_of-self : goal.invariant_of-self
invariant_of-self c =
    let s = c.args.self.now in
    let h = rw c.len-e.ensures at c.if-not-admits.ensures in
    let k = ok s c.args.entry.node c.args.entry.partner c.args.entry.prior h in
    let (kept, _, _) = grown s c.args.entry.node c.args.entry.partner c.args.entry.prior h c.latest_at.result c.latest_at-2.result c.note.new.latest c.push.new.self
    c.latest_at.ensures c.latest_at-2.ensures (rw c.len-e.ensures at c.note.ensures.noted) c.push.ensures.items in
    record {
      long = c.note.ensures.long ∙ s.long;
      within = (omega (arith, k.room, c.push.ensures.len), s.within.1);
      kept = kept;
    }

pub returns : goal.returns
returns c =
    let s = c.args.self.now in
    let (_, after, value) = grown s c.args.entry.node c.args.entry.partner c.args.entry.prior (rw c.len-e.ensures at c.if-not-admits.ensures) c.latest_at.result c.latest_at-2.result c.note.new.latest c.push.new.self
    c.latest_at.ensures c.latest_at-2.ensures (rw c.len-e.ensures at c.note.ensures.noted) c.push.ensures.items in
    record { after = after; value = ap Some c.len-e.ensures ∙ value }
