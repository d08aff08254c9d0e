use Rattle.promise.proofs.Keeping.{both_run}
use Rattle.promise.proofs.runs.run_both.Goals as goal

pub returns : goal.returns
returns g c =
    both_run c.args.first.now c.args.second.now c.args.answers.now c.args.others.now c.perform_all.new.answers c.perform_all-2.new.answers c.perform_all.ensures c.perform_all-2.ensures
