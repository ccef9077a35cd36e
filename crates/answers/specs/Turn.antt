-- What a turn of the walk and its chains are, in the code's own types.
use Rattle.std.specs.Prelude.{◌≡◌, ℤ, ℕ, ◌-◌, ◌≤◌, Result, Ok, Err}
use Rattle.table.specs.Kept.{Kept}
use Rattle.table.specs.Table.{Table, IsTask, period, tasks, offset, blocking, time}
use Rattle.table.specs.Limits.{horizon}
use Rattle.periods.specs.Charge.{imposed}
use Rattle.analysis.specs.Charge.{phase_of}
use Rattle.analysis.specs.Bound.{Setting, first_job, last_job, jobs_to, demand, busy}
use Rattle.analysis.specs.Chain.{came, over}
use mathlib.Core.List.{List, [], map, filter}
use Rattle.analysis.specs.Order as order
use Rattle.analysis.specs.Order.{Turn, from}
use Rattle.analysis.specs.Rival.{runs?, candidate?}
use Rattle.analysis.specs.Walk as walk
use Rattle.analysis.specs.Walk.{ended, through, past}
use Rattle.answers.specs.declared.instant.Instant.{Instant}
use Rattle.answers.specs.declared.chains.Came.{Came}
use Rattle.answers.specs.declared.chains.Stopped.{Stopped}
use Rattle.answers.specs.declared.chains.Stopped.TheVariants.{Past, Short}
use Rattle.answers.specs.declared.walk.Source.{Source}
use Rattle.answers.specs.declared.walk.Best.{Best}
use Rattle.answers.specs.declared.walk.Walk.{Walk}

-- x holds the numbers of that mode and that candidate, of a task of a kept table
pub record IsInstant (tab : Table) (u a m c : ℕ) (x : Instant) : Type 0 where
  pub kept : Kept tab
  pub is_task : IsTask tab u a
  pub setting : Setting tab u a m c
  pub mode : x.mode ≡ m
  pub candidate : x.candidate ≡ c
  pub period : x.period.0 ≡ period tab u
  pub offset : x.offset.0 ≡ offset tab u a
  pub blocking : x.blocking.0 ≡ blocking tab u a
  pub time : x.time.0 ≡ time tab u m a
  pub phase : x.phase.0 ≡ phase_of tab u c a
  pub first : x.first.number ≡ first_job tab u a c

-- some t within the horizon satisfies the demand of job p, so that its chain ends there at the latest
pub record Reaches (tab : Table) (u a m c : ℕ) (p : ℤ) : Type 0 where
  pub t : ℕ
  pub within : t ≤ horizon
  pub enough : demand imposed tab u a m c p t ≤ t

-- the busy time of the turn lasts to L, within the horizon, and holds that many jobs
pub record Lasts (tab : Table) (u a m c n : ℕ) : Type 0 where
  pub L : ℕ
  pub some : 1 ≤ L
  pub within : L ≤ horizon
  pub enough : busy tab u a m c L ≤ L
  pub jobs : n ≡ jobs_to tab u a c (last_job tab u a c L)

-- how a chain stopped, with the evaluations made of a budget, as the code says it
unfoldable pub stopped : (budget : ℕ) → walk.Stop → Result Came Stopped
stopped budget (ended (came t) left) = Ok (record { t = record { 0 = t }; used = budget - left })
stopped budget (ended over left) = Err (Past (budget - left))
stopped budget walk.Stop.short = Err Short

-- a job of the walk and its response, as the definitions say them
unfoldable pub source_meant : Source → order.Source
source_meant x = record { turn = record { mode = x.mode; candidate = x.candidate }; job = x.job.0 }

unfoldable pub best_meant : Best → walk.Best
best_meant b = record { response = b.response.0; source = source_meant b.source }

-- and as the code does
unfoldable pub best_said : walk.Best → Best
best_said b =
    record {
      response = record { 0 = b.response };
      source =
          record {
            mode = b.source.turn.mode;
            candidate = b.source.turn.candidate;
            job = record { 0 = b.source.job };
          };
    }

-- how far a walk came, as the code says it
unfoldable pub walked : (budget : ℕ) → walk.Walked → Result Walk Stopped
walked budget (through left best) = Ok (record { used = budget - left; best = best_said best })
walked budget (past left) = Err (Past (budget - left))
walked budget walk.Walked.short = Err Short

-- the turns of the candidates from c on, n of them, in mode m
unfoldable pub turns_from : Table → (u a m c n : ℕ) → List Turn
turns_from tab u a m c n = map (λ k. record { mode = m; candidate = k }) (filter (candidate? tab u a m) (from c n))

unfoldable pub turns_by : {A : Type 0} → Dec A → List Turn → List Turn
turns_by (yes h) xs = xs
turns_by (no h) xs = []

-- the turns of one mode: none where a does not run
unfoldable pub mode_turns : Table → (u a m : ℕ) → List Turn
mode_turns tab u a m = turns_by (runs? tab u m a) (turns_from tab u a m 0 (tasks tab u))
