-- What a bound is made of: when the job that gives it completes, what it waits for until then, and when it arrived.
use Rattle.std.specs.Prelude.{◌≡◌, refl, [], ◌∷◌, ℤ, pos, negsuc, ◌+ℤ◌, ◌-ℤ◌, ℕ, suc, ◌+◌, ◌*◌}
use Rattle.table.specs.Table.{Table, offset, blocking, time}
use Rattle.table.specs.Sample.{S, plain, task, transaction, table}
use Rattle.periods.specs.Charge.{imposed}
use Rattle.analysis.specs.Choice.{count}
use Rattle.analysis.specs.Charge.{charge, others}
use Rattle.analysis.specs.Bound.{arrival, Completion, bounding, queued}
use Rattle.analysis.specs.Needed.{job}
use Rattle.analysis.specs.Order.{Source}
use Rattle.analysis.specs.Who.{BoundBy}

-- In ticks from the critical instant on; a job that was held back arrived before it
pub record Parts : Type 0 where
  pub completion : ℕ
  pub arrival : ℤ
  pub offset : ℕ
  pub blocking : ℕ
  pub own_jobs : ℕ
  pub own_rivals : ℕ

-- MadeOf tab u a R x p: p are the parts of the bound R that x gives. What is charged until the completion adds up to it, with the
-- greatest charges of the other transactions; and the bound is completion − arrival + offset
pub record MadeOf (tab : Table) (u a R : ℕ) (x : Source) (p : Parts) : Type 0 where
  pub by : BoundBy imposed tab u a R x
  pub completion : Completion imposed tab u a x.turn.mode x.turn.candidate (job tab u a x.turn.candidate x.job) p.completion
  pub arrival : p.arrival ≡ arrival tab u a x.turn.candidate (job tab u a x.turn.candidate x.job)
  pub offset : p.offset ≡ offset tab u a
  pub blocking : p.blocking ≡ blocking tab u a
  pub own_jobs : p.own_jobs ≡ suc x.job * time tab u x.turn.mode a
  pub own_rivals : p.own_rivals ≡ charge imposed tab u a u x.turn.mode x.turn.candidate p.completion
  pub adds : p.blocking + p.own_jobs + p.own_rivals + others imposed tab u a p.completion ≡ p.completion
  pub bound : pos R ≡ pos p.completion -ℤ p.arrival +ℤ pos p.offset

-- Computed: the completion is found back from the bound
unfoldable pub parts_of : Table → (u a R : ℕ) → Source → Parts
parts_of tab u a R x =
    record {
      completion = back;
      arrival = arrives;
      offset = offset tab u a;
      blocking = blocking tab u a;
      own_jobs = suc x.job * time tab u x.turn.mode a;
      own_rivals = charge imposed tab u a u x.turn.mode x.turn.candidate back;
    }
  where
    arrives : ℤ
    arrives = arrival tab u a x.turn.candidate (job tab u a x.turn.candidate x.job)

    back : ℕ
    back = count (pos R -ℤ pos (offset tab u a) +ℤ arrives)

-- mode, candidate and job
abbrev from : (m c N : ℕ) → Source
from m c N = record { turn = record { mode = m; candidate = c }; job = N }

-- One task, T 10, C 2, J 12: its first job completes at 2, arrived at −12, and has the bound 14
queued-parts : parts_of queued 0 0 14 (from 0 0 0) ≡ record { completion = 2; arrival = negsuc 11; offset = 0; blocking = 0; own_jobs = 2; own_rivals = 0 }
unfolding bounding job parts_of
queued-parts = refl

-- S: task 1 arrives 4 after its event and completes at 3; task 2 completes at 5, of which the other transaction charges 3
S-parts :
    parts_of S 0 1 7 (from 0 1 0) ∷ parts_of S 1 0 5 (from 0 0 0) ∷ []
    ≡ record { completion = 3; arrival = pos 0; offset = 4; blocking = 0; own_jobs = 3; own_rivals = 0 }
    ∷ record { completion = 5; arrival = pos 0; offset = 0; blocking = 0; own_jobs = 2; own_rivals = 0 }
    ∷ []
unfolding bounding job parts_of
S-parts = refl

-- two tasks of equal priority, the second of which sets the instant: the first arrives 1 after it, blocked for 3, and waits for 2
rival-parts : parts_of (table 8 (transaction 8 1 (task 1 0 3 20 2 (1 ∷ []) ∷ plain 0 2 2 20 ∷ []) ∷ [])) 0 0 6 (from 0 1 0) ≡ record { completion = 6; arrival = pos 1; offset = 1; blocking = 3; own_jobs = 1; own_rivals = 2 }
unfolding bounding job parts_of
rival-parts = refl
