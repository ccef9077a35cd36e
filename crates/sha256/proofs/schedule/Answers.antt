-- `sha256::schedule` meets its contract: after t turns the first t words are those of the schedule.
use Rattle.std.proofs.Common.{refl, arith, length-set}
use Rattle.sha256.specs.Sum.{schedule}
use Rattle.sha256.proofs.Words.{one_more}
use Rattle.sha256.proofs.schedule.Goals as goal

pub loop-t-init : goal.loop-t-init
unfolding schedule
loop-t-init c = (refl, refl)

pub loop-t-preserved : goal.loop-t-preserved
loop-t-preserved c = (simp length-set c.loop-t.invariant.0, one_more _ _ _ _ _ (omega arith) c.loop-t.invariant.1 c.next_word.ensures)
