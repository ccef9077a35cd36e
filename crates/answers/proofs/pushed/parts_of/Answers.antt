-- `parts_of` gives the parts of the bound: each is what the definition has, and all fit since none is above the completion.
use Rattle.std.proofs.Common.{arith}
use Rattle.answers.specs.Turn.{source_meant}
use Rattle.answers.proofs.Signed.{back}
use Rattle.answers.proofs.Pushing.{found-near, found-few, found-early, found-completes, found-made, completion-fits, jobs-fit, rivals-fit}
use Rattle.answers.proofs.Readings.{setting-in}
use Rattle.answers.proofs.pushed.parts_of.Goals as goal

pub of-x-requires : goal.of-x-requires
unfolding source_meant
of-x-requires c = c.requires.bound_by.first.gives.setting

pub job-requires : goal.job-requires
job-requires c = found-near c.requires.lent.table.kept c.requires.subject.chosen.is_task c.args.by c.requires.bound_by c.of-x.ensures

pub completion-w-requires : goal.completion-w-requires
completion-w-requires c =
    let kept = c.requires.lent.table.kept in
    let is_task = c.requires.subject.chosen.is_task in
    record {
      arrives_bound = found-early kept is_task c.args.by c.requires.bound_by c.of-x.ensures c.job.ensures c.arrival-arrives.ensures;
      t = found-completes kept is_task c.args.by c.requires.bound_by c.of-x.ensures c.job.ensures c.arrival-arrives.ensures;
    }

pub split_of-requires-clause-t_bound : goal.split_of-requires-clause-t_bound
split_of-requires-clause-t_bound c =
    omega (
      arith,
      completion-fits c.requires.lent.table.kept c.requires.subject.chosen.is_task c.args.by c.requires.bound_by c.of-x.ensures c.job.ensures c.arrival-arrives.ensures c.completion-w.ensures,
    )

pub invariant_of-own : goal.invariant_of-own
invariant_of-own c =
    let setting = c.of-x.ensures.setting in
    setting-in c.requires.lent c.requires.subject (record { owner = c.requires.subject.chosen.is_task.owner; place = setting.place }) setting.mode c.split_of.ensures.is_split

pub overflow_add-result : goal.overflow_add-result
overflow_add-result c = omega (arith, found-few c.requires.lent.table.kept c.requires.subject.chosen.is_task c.args.by c.requires.bound_by c.of-x.ensures)

pub overflow_mul-result : goal.overflow_mul-result
overflow_mul-result c = omega (arith, jobs-fit c.requires.lent.table.kept c.requires.subject.chosen.is_task c.args.by c.requires.bound_by c.of-x.ensures)

pub overflow_cast-result-4 : goal.overflow_cast-result-4
overflow_cast-result-4 c = omega (arith, jobs-fit c.requires.lent.table.kept c.requires.subject.chosen.is_task c.args.by c.requires.bound_by c.of-x.ensures)

pub overflow_cast-result-5 : goal.overflow_cast-result-5
overflow_cast-result-5 c =
    omega (
      arith,
      rivals-fit c.requires.lent.table.kept c.requires.subject.chosen.is_task c.args.by c.requires.bound_by c.of-x.ensures c.job.ensures c.arrival-arrives.ensures c.completion-w.ensures c.split_of.ensures.at c.charge-rivals.ensures,
    )

pub returns : goal.returns
returns c =
    let kept = c.requires.lent.table.kept in
    let is_task = c.requires.subject.chosen.is_task in
    let early = found-early kept is_task c.args.by c.requires.bound_by c.of-x.ensures c.job.ensures c.arrival-arrives.ensures in
    found-made kept is_task c.args.by c.requires.bound_by c.of-x.ensures c.job.ensures c.arrival-arrives.ensures c.completion-w.ensures c.split_of.ensures.at c.charge-rivals.ensures _
    (back _ (omega (arith, early)))
