-- A rival counts with its demand, and any other task with 0.
use Rattle.std.proofs.Common.{sym, subst, ◌∙◌}
use Rattle.jitter.specs.Start.{rival_load}
use Rattle.beside.specs.Lent.{Shows}
use Rattle.beside.proofs.Fields.{rival-counts, other-counts-not}
use Rattle.beside.proofs.reads.Alone.rival_load.Goals as goal

pub returns-then-is_rival : goal.returns-then-is_rival
unfolding rival_load
returns-then-is_rival c =
    c.demand.ensures ∙ sym (rival-counts _ _ _ _ (subst (Shows _) c.if-is_rival.true c.is_rival.ensures))

pub returns-else-is_rival : goal.returns-else-is_rival
unfolding rival_load
returns-else-is_rival c = sym (other-counts-not _ _ _ _ (subst (Shows _) c.if-is_rival.false c.is_rival.ensures))
