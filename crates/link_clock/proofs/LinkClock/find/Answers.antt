-- The k-th of the entries that stand at the node.
use Rattle.std.proofs.Common.{◌≡◌, ℕ, ◌+◌, ◌-◌, ◌<◌, ◌∙◌, Some, None, Option, MatchOption, Bor, ap, sym, arith, rules, tests}
use Rattle.std.specs.Option.{option_map}
use Rattle.std.proofs.lemmas.Iterator.{YieldsList-from_slice}
use Rattle.std.proofs.lemmas.Iterator.Consumers.{YieldsList-at, YieldsList-from_enumerate, YieldsList-from_filter, nth_from_yields_List}
use Rattle.causality.specs.Entries.{at}
use Rattle.link_clock.specs.declared.Link.{Link}
use Rattle.link_clock.specs.Links.{all_takes}
use Rattle.link_clock.proofs.Finds.{stands_at, found-at, found-low}
use Rattle.link_clock.proofs.LinkClock.find.Goals as goal

cast : (o : Option (ℕ × Bor Link)) (all answer : Option ℕ) → MatchOption o (answer ≡ None) (λ p. p.0 < 65536 → answer ≡ Some p.0) →
    option_map (λ (p : ℕ × Link). p.0) (option_map (λ (p : ℕ × Bor Link). (p.0, p.1.now)) o) ≡ all → ((x : ℕ) → all ≡ Some x → x < 65536) → answer ≡ all
cast None all answer step is low = step ∙ is
cast (Some p) all answer step is low = step (low p.0 (sym is)) ∙ is

pub returns : goal.returns
returns c =
    let links = c.args.self.now.links in
    let i = c.args.i in
    let numbered = YieldsList-from_enumerate (YieldsList-at c.enumerate.ensures.source (YieldsList-from_slice links (c.iter.ensures.rest ∙ c.deref.ensures.0))) c.enumerate.ensures.count in
    let nth = nth_from_yields_List c.nth.result _ _ c.nth.ensures.ran
    (YieldsList-from_filter _ (stands_at links i) (YieldsList-at c.filter-standing.ensures.source numbered) c.filter-standing.ensures.closure (λ x r q k. search (rules, tests))) in
    let step : MatchOption c.nth.result (c.map.result ≡ None) (λ p. p.0 < 65536 → c.map.result ≡ Some p.0) = search (rules, tests) in
    let found = ap (option_map (λ (p : ℕ × Link). p.0)) nth ∙ found-at links i (c.args.k - 1) in
    let back : c.args.k - 1 + 1 ≡ c.args.k = omega arith in
    cast c.nth.result _ c.map.result step found (λ x e. omega (arith, found-low links i (c.args.k - 1) x e, c.args.self.now.within)) ∙ ap (at (all_takes links) i) back
