use Rattle.std.proofs.Common.{◌≡◌, ◌++◌, length, drop, true, sym, ◌∙◌, arith, rules, tests}
use Rattle.std.proofs.lemmas.Iterator.{YieldsList-from_slice}
use Rattle.std.proofs.lemmas.Iterator.Search.{all_from_yields_List}
use Rattle.history.specs.History.{is_letter, all_letters}
use Rattle.names.proofs.Packing.{no_name, no_letters, a_name, each_letter, padded, places_number, zeros}
use Rattle.names.proofs.pack.Goals as goal
use Rattle.names.proofs.pack.Goals.{then-not-contains-via-then-not-contains, then-not-contains-via-else-not-contains+then-not-all}

pub returns-then-not-contains : goal.returns-then-not-contains
returns-then-not-contains c =
    let bs = c.args.name.now in
    elim c.then-not-contains.branch [
      | then-not-contains-via-then-not-contains w ↦ no_name bs (λ some few. search rules)
      | then-not-contains-via-else-not-contains+then-not-all w ↦
          let all = all_from_yields_List is_letter _ _ w.all.result w.all.ensures.ran (YieldsList-from_slice bs cc) (λ x b q k. search (rules, tests)) in
          no_letters bs (sym (each_letter bs) ∙ sym all ∙ w.if-not-all.true)
    ]

pub returns : goal.returns
returns c =
    let bs = c.args.name.now in
    let all = all_from_yields_List is_letter _ _ c.all.result c.all.ensures.ran (YieldsList-from_slice bs cc) (λ x b q k. search (rules, tests)) in
    let letters : all_letters bs ≡ true = sym (each_letter bs) ∙ sym all ∙ c.if-not-all.false in
    let number = places_number bs (c.copy_from_slice.new.self ++ drop (length bs) (zeros 8)) (λ k. rw c.copy_from_slice.ensures.after (padded bs 8 (length bs) k)) in
    (a_name bs (search rules) (search rules) letters, omega (arith, number))
