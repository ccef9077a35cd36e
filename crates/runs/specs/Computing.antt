-- One name that opens every definition of a run, so that what is stated of the first ticks of a given run computes.
use Rattle.std.proofs.Math.Decide.{dec_le, dec_lt, ℕ_discrete}
use Rattle.table.specs.Computing.{computing as tables}
use Rattle.analysis.specs.Choice.{when}
use Rattle.runs.specs.Run.{event_tick, arrival, serves, served}
use Rattle.runs.specs.Legal.{lower, lower_ticks}

unfoldable pub ticking : Unit {0}
unfolding tables dec_le dec_lt ℕ_discrete when event_tick arrival serves served lower lower_ticks
ticking = tt
