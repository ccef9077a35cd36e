-- The evaluations that the walk of a task needs, apart from any budget: the chains in walk order, up to and including the
-- first L chain whose value passes H.
use Rattle.std.specs.Prelude.{◌≡◌, refl, List, [], ◌∷◌, ℤ, pos, ◌+ℤ◌, ℕ, suc, ◌+◌, ◌*◌, ◌<◌}
use Rattle.table.specs.Table.{Table, blocking, time}
use Rattle.table.specs.Limits.{horizon}
use Rattle.periods.specs.Charge.{imposed}
use Rattle.analysis.specs.Bound.{first_job, last_job, jobs_to, demand, busy, bounding, queued}
use Rattle.analysis.specs.Chain.{Chain, came, over}
use Rattle.analysis.specs.Order.{Turn}

-- a value of an L chain that exceeds H; nothing ends a job's chain but its t coming back
abbrev pub Beyond : ℕ → Type 0
Beyond v = horizon < v

abbrev pub Never : ℕ → Type 0
Never v = ⊥

-- the N-th job counted from the first, p0 + N
unfoldable pub job : Table → (u a c N : ℕ) → ℤ
job tab u a c N = first_job tab u a c +ℤ pos N

-- where the chain of job p starts: B + (p − p0 + 1)·C
unfoldable pub start : Table → (u a m c : ℕ) (p : ℤ) → ℕ
start tab u a m c p = blocking tab u a + jobs_to tab u a c p * time tab u m a

-- of the queued task the second job is job 0, and its chain starts at 2·C
second : job queued 0 0 0 1 ≡ pos 0
unfolding bounding job
second = refl

second-start : start queued 0 0 0 0 (pos 0) ≡ 4
unfolding bounding start
second-start = refl

-- the chains of the first N jobs make n evaluations together
pub data JobChains (tab : Table) (u a m c : ℕ) : (N n : ℕ) → Type 0 where
  none : JobChains tab u a m c 0 0
  one : {N n k w : ℕ} → JobChains tab u a m c N n → Chain (demand imposed tab u a m c (job tab u a c N)) Never (start tab u a m c (job tab u a c N)) k (came w) → JobChains tab u a m c (suc N) (n + k)

-- whether every busy length met is within the horizon, or one is not
pub data Outcome : Type 0 where
  bounded : Outcome
  past_horizon : Outcome

-- the turns make n evaluations and come to this outcome
pub data Needed (tab : Table) (u a : ℕ) : (order : List Turn) (n : ℕ) → Outcome → Type 0 where
  none : Needed tab u a [] 0 bounded
  past : {m c n : ℕ} {rest : List Turn} → Chain (busy tab u a m c) Beyond 1 n over → Needed tab u a (record { mode = m; candidate = c } ∷ rest) n past_horizon
  turn : {m c L n k l : ℕ} {rest : List Turn} {o : Outcome} → Chain (busy tab u a m c) Beyond 1 n (came L) → JobChains tab u a m c (jobs_to tab u a c (last_job tab u a c L)) k → Needed tab u a rest l o → Needed tab u a (record { mode = m; candidate = c } ∷ rest) (n + k + l) o
