-- What the code's types say: a task's answer, and its cells.
use Rattle.analysis.specs.Answer as definition
use Rattle.analysis.specs.Answer.{Answer, bound, overload, beyond, spent, Cells}
use Rattle.told.specs.declared.Named.{Named}
use Rattle.told.specs.declared.TaskAnswer.{TaskAnswer}
use Rattle.told.specs.declared.TaskAnswer.TheVariants.{Bound, Overload, Beyond, Spent}
use Rattle.told.specs.declared.TaskCells.{TaskCells}

abbrev pub named_meant : Named → definition.Named
named_meant x = record { mode = x.mode; candidate = x.candidate; job = x.job }

unfoldable pub meant : TaskAnswer → Answer
meant (Bound R n by) = bound R n (named_meant by)
meant Overload = overload
meant (Beyond n) = beyond n
meant (Spent n) = spent n

abbrev pub cells_meant : TaskCells → Cells
cells_meant c =
    record {
      code = c.code;
      bound = c.bound;
      evaluations = c.evaluations;
      mode = c.mode;
      candidate = c.candidate;
      job = c.job;
    }
