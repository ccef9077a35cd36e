-- A transaction at one t that is split by its period, in the code's own type.
use Rattle.std.specs.Prelude.{◌≡◌, List, ℕ, ◌+◌, ◌*◌, ◌^◌, ◌<◌, ◌≤◌}
use Rattle.table.specs.Table.{Table, IsTask, transactions, period, modes, tasks}
use Rattle.table.specs.Number.{before}
use Rattle.table.specs.Limits.{modes_most, tasks_most, tasks_in_all}
use Rattle.row.specs.Row.{table_of}
use Rattle.answers.specs.declared.charges.Split.{Split}
use Rattle.answers.specs.declared.charges.Subject.{Subject}
use Rattle.answers.specs.Work.{Lent, IsSubject}

-- the t that is split
unfoldable pub moment : Split → ℕ
moment x = x.periods * x.period + x.rest

-- x holds a t of 32 bits, split by the period of transaction i, and where its tasks stand
pub record IsSplit (tab : Table) (i : ℕ) (x : Split) : Type 0 where
  pub owner : i < transactions tab
  pub first : x.first ≡ before tab i
  pub count : x.count ≡ tasks tab i
  pub period : x.period ≡ period tab i
  pub below : x.rest < x.period
  pub within : moment x < 2 ^ 32

-- of that t
pub record IsSplitAt (tab : Table) (i t : ℕ) (x : Split) : Type 0 where
  pub is_split : IsSplit tab i x
  pub at : moment x ≡ t

-- what is read of candidate c in mode m lies within the work cells, and there is a task
pub record InWork (x : Split) (m c : ℕ) : Type 0 where
  pub number : x.first + c < tasks_in_all
  pub mode : m < modes_most
  pub some : 1 ≤ x.count
  pub few : x.count ≤ tasks_most

-- candidate c of transaction i in mode m, at a t that x splits, by the subject's work cells
pub record IsSetting (work : List ℕ) (s : Subject) (i m c : ℕ) (x : Split) : Type 0 where
  pub lent : Lent work
  pub subject : IsSubject work s
  pub is_task : IsTask (table_of work) i c
  pub mode : m < modes (table_of work) i
  pub split : IsSplit (table_of work) i x
