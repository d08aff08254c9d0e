-- One more entry in the columns of its nodes.
use Rattle.std.proofs.Common.{◌≡◌, ◌-◌, ◌∷◌, length, length-set, set, ap, ◌∙◌, rules, arith}
use Rattle.std.proofs.lemmas.List.{get_or_default}
use Rattle.causality.specs.Limits.{max_nodes}
use Rattle.clock.proofs.Arrays.{node_bounds}
use Rattle.row_clock.specs.Rows.{no_column, line}
use Rattle.row_clock.proofs.Columns.{line-push, filed_alone, filed_two}
use Rattle.row_clock.proofs.file.Goals as goal

pub returns-in_default-clause-filed : goal.returns-in_default-clause-filed
returns-in_default-clause-filed c =
    let columns = c.args.columns.now in
    let a = c.args.entry.node in
    let long : length columns ≡ max_nodes = search rules in
    let (low, high) = node_bounds max_nodes a c.requires.node in
    let pushed = line-push _ c.push.new.self c.args.e c.push.ensures.items ∙ ap (λ d. c.args.e ∷ line d) (get_or_default columns (a - 1) c.index-columns-entry.result no_column (omega arith)) in
    filed_alone columns c.push.new.self a c.args.e c.requires.node long pushed c.args.entry.partner c.in_default.is

pub returns-in-Some-clause-filed : goal.returns-in-Some-clause-filed
returns-in-Some-clause-filed c =
    let columns = c.args.columns.now in
    let a = c.args.entry.node in
    let b = c.in-Some.partner in
    let e = c.args.e in
    let is_some = c.in-Some.is in
    let long : length columns ≡ max_nodes = search rules in
    let (low, high) = node_bounds max_nodes a c.requires.node in
    let there = rw is_some at c.requires.partner in
    let apart = rw is_some at c.requires.apart in
    let (low', high') = node_bounds max_nodes b there in
    let pushed = line-push _ c.push.new.self e c.push.ensures.items ∙ ap (λ d. e ∷ line d) (get_or_default columns (a - 1) c.index-columns-entry.result no_column (omega arith)) in
    let pushed' = line-push _ c.push-in-Some.new.self e c.push-in-Some.ensures.items
    ∙ ap (λ d. e ∷ line d) (get_or_default (set columns (a - 1) c.push.new.self) (b - 1) c.index-columns-partner.result no_column (omega (arith, length-set columns (a - 1) c.push.new.self))) in
    filed_two columns c.push.new.self a e c.requires.node long pushed c.push-in-Some.new.self b c.args.entry.partner is_some there apart pushed'
