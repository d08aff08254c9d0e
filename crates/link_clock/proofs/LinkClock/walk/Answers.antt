-- A walk visits each entry from e down to the oldest.
use Rattle.std.proofs.Common.{◌≡◌, ℕ, ◌+◌, ◌-◌, ◌<◌, Bool, true, false, cond, List, get_or, length, subst, refl, add-one, arith}
use mir.Val.{bool_byte}
use Rattle.clock.specs.Meaning.{max_entries}
use Rattle.link_clock.specs.declared.LinkClock.{LinkClock}
use Rattle.link_clock.specs.Links.{no_link, visited, met, Walked}
use Rattle.link_clock.proofs.Links.{earlier_up, Linked, linked}
use Rattle.link_clock.proofs.Walks.{walked_start, walked_step}
use Rattle.link_clock.proofs.LinkClock.walk.Goals as goal

of : (s : LinkClock) → Linked s.links (length s.links)
of s = linked s.links s.latest s.kept

pub loop-x-init : goal.loop-x-init
loop-x-init c = let s = c.args.self.now in walked_start s.links c.args.e c.args.i (of s) c.requires s.within.0

pub visit-requires : goal.visit-requires
visit-requires c =
    let s = c.args.self.now in
    let z = c.loop-x.x in
    let low : z < (length s.links) = omega (arith, c.loop-x.invariant.low, c.requires) in
    (omega (arith, s.within), earlier_up z max_entries (get_or s.links z no_link) (omega (arith, s.within)) ((of s).low z low))

one_of : (b : Bool) → bool_byte b ≡ cond b 1 0
one_of true = refl
one_of false = refl

step : (s : LinkClock) (e i z count n : ℕ) (marks marks' : List Bool) (hit : Bool) → e < (length s.links) → Walked s.links e i marks (z + 1) count →
    marks' ≡ visited s.links marks z → hit ≡ met s.links marks z i → n ≡ bool_byte hit → Walked s.links e i marks' z (count + n)
step s e i z count n marks marks' hit low w p q r =
    rw (r, one_of hit, p, q) (walked_step s.links e i (of s) low s.within.0 marks z count (subst (λ y. Walked s.links e i marks y count) (add-one z) w))

pub loop-x-preserved : goal.loop-x-preserved
loop-x-preserved c =
    let s = c.args.self.now in
    let x = c.loop-x.x in
    let down : x ≡ x - 1 + 1 = omega arith in
    let more = step s c.args.e c.args.i x c.loop-x.count c.from-count.result c.loop-x.marks c.visit.new.marks c.visit.result
    c.requires c.loop-x.invariant c.visit.ensures.after c.visit.ensures.value c.from-count.ensures in
    subst (λ y. Walked s.links c.args.e c.args.i c.visit.new.marks y (c.loop-x.count + c.from-count.result)) down more

pub returns-2 : goal.returns-2
returns-2 c =
    let s = c.args.self.now in
    let x = c.loop-x.x in
    let end : x ≡ 0 = omega arith in
    let more = step s c.args.e c.args.i x c.loop-x.count c.from-count.result c.loop-x.marks c.visit.new.marks c.visit.result
    c.requires c.loop-x.invariant c.visit.ensures.after c.visit.ensures.value c.from-count.ensures in
    omega (arith, (subst (λ y. Walked s.links c.args.e c.args.i c.visit.new.marks y (c.loop-x.count + c.from-count.result)) end more).counted)
