-- One name that opens every definition on the way to a task's answer, so that what is stated of a given table computes.
use Rattle.std.proofs.Math.Decide.{dec_lt}
use Rattle.analysis.specs.Rival.{candidate?}
use Rattle.analysis.specs.Bound.{bounding}
use Rattle.analysis.specs.Overload.{load, counts?, most_load, frame_demand, overload?}
use Rattle.analysis.specs.Order.{from, running_modes, candidates, turns, walk_order}
use Rattle.analysis.specs.Needed.{job, start}
use Rattle.table.specs.Number.{before, number}
use Rattle.analysis.specs.Answer.{named, code_by, cells}
use Rattle.analysis.specs.Who.{second_if, most_by, in_mode, in_modes, most_charged}
use Rattle.analysis.specs.Walk.{
  better_by,
  better,
  answered,
  chain,
  walk_jobs,
  walk_turn,
  walk_turns,
  answer_of,
  answer_by,
  answer,
}

unfoldable pub computing : Unit {0}
unfolding bounding dec_lt candidate? load counts? most_load frame_demand overload? from running_modes candidates turns walk_order job start before number named code_by cells second_if most_by in_mode in_modes most_charged better_by better answered chain walk_jobs walk_turn walk_turns answer_of answer_by answer
computing = tt
