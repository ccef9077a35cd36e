-- `chains::busy` meets its contract: it is the demand of the jobs to the last by t, charged whole.
use Rattle.std.proofs.Common.{refl, ◌∙◌}
use Rattle.analysis.specs.Bound.{busy}
use Rattle.answers.proofs.Instants.{instant-last}
use Rattle.answers.proofs.lent.Linked.busy.Goals as goal

pub returns : goal.returns
unfolding busy
returns c =
    let last = c.last_job.ensures ∙ instant-last c.requires.instant.kept c.requires.instant.is_task c.requires.instant c.args.t.0 in
    c.demand.ensures ∙ rw last refl
