-- What has to be known of a number R for it to bound the responses of a task a in transaction u: some busy length and
-- completions, no matter whether they are the least ones. Jobs are counted from the first, and a response is compared
-- with R without signs, so that all of it is over ℕ.
use Prim.Native.Nat.{ℕ, ◌+◌, ◌*◌, ◌≤◌, ◌<◌}
use Rattle.table.specs.Table.{Table, period, offset}
use Rattle.periods.specs.Charge.{imposed}
use Rattle.analysis.specs.Charge.{phase_of, held_of}
use Rattle.analysis.specs.Bound.{last_job, jobs_to, demand, busy, Setting}
use Rattle.analysis.specs.Needed.{job}

-- Job p0 + N completes by w, and its response w − (F + (p0 + N − 1)·T) + O, where p0 = 1 − held, is at most R
pub record JobBound (tab : Table) (u a m c R N : ℕ) : Type 0 where
  pub w : ℕ
  pub completes : demand imposed tab u a m c (job tab u a c N) w ≤ w
  pub response : w + held_of tab u c a * period tab u + offset tab u a ≤ R + phase_of tab u c a + N * period tab u

-- a busy length for one mode and candidate, and a bound for each job from the first to the last by L
pub record CandidateBound (tab : Table) (u a m c R : ℕ) : Type 0 where
  pub L : ℕ
  pub some : 1 ≤ L
  pub length : busy tab u a m c L ≤ L
  pub job : (N : ℕ) → N < jobs_to tab u a c (last_job tab u a c L) → JobBound tab u a m c R N

-- the same for every mode of u where a runs, and every candidate in it
pub record Bounds (tab : Table) (u a R : ℕ) : Type 0 where
  pub each : (m c : ℕ) → Setting tab u a m c → CandidateBound tab u a m c R
