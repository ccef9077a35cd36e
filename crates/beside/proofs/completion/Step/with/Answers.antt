-- A rival is counted, and any other task is passed over.
use Rattle.std.proofs.Common.{subst}
use Rattle.beside.specs.Lent.{Shows}
use Rattle.beside.proofs.Passes.{pass-over}
use Rattle.beside.proofs.completion.Step.with.Goals as goal

pub returns-else-is_rival : goal.returns-else-is_rival
returns-else-is_rival c =
    pass-over c.args.self.now.task.single_row.table.kept c.requires.i_bound c.requires.pass (subst (Shows _) c.if-is_rival.false c.is_rival.ensures)
