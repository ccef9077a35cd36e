-- The bound of a task a in transaction u: the greatest response over its modes, its candidates and its queued jobs. Job
-- numbers and responses are signed.
use Rattle.std.specs.Prelude.{◌≡◌, refl, [], ◌∷◌, map, ℤ, pos, negsuc, ◌+ℤ◌, ◌-ℤ◌, ◌*ℤ◌, ◌≤ℤ◌, ℕ, ◌+◌, ◌*◌, ◌≤◌, ◌<◌}
use Rattle.table.specs.Table.{Table, period, modes, tasks, offset, blocking, time}
use Rattle.table.specs.Limits.{horizon}
use Rattle.periods.specs.Phase.{ceiling}
use Rattle.table.specs.Sample.{S, lone, task}
use Rattle.periods.specs.Charge.{released}
use Rattle.analysis.specs.Choice.{Least, count}
use Rattle.analysis.specs.Rival.{Candidate, Runs}
use Rattle.analysis.specs.Charge.{Later, phase_of, held_of, charge, others, charging}

-- First job number p0 = 1 − floor((J + F)/T), F being a's phase. It can be 0 or below
unfoldable pub first_job : Table → (u a c : ℕ) → ℤ
first_job tab u a c = pos 1 -ℤ pos (held_of tab u c a)

-- ceil((t − F)/T), the last job number by t
unfoldable pub last_job : Table → (u a c t : ℕ) → ℤ
last_job tab u a c t = ceiling (pos t -ℤ pos (phase_of tab u c a)) (period tab u)

-- p − p0 + 1, the number of jobs from the first to p
unfoldable pub jobs_to : Table → (u a c : ℕ) (p : ℤ) → ℕ
jobs_to tab u a c p = count (p -ℤ first_job tab u a c +ℤ pos 1)

-- What u charges, a's own jobs p0 to p among it: (p − p0 + 1)·C + the rivals' charge in u at t
unfoldable pub own : Later → Table → (u a m c : ℕ) (p : ℤ) (t : ℕ) → ℕ
own later tab u a m c p t = jobs_to tab u a c p * time tab u m a + charge later tab u a u m c t

-- B + (p − p0 + 1)·C + the charges at t, of u and of the others
unfoldable pub demand : Later → Table → (u a m c : ℕ) (p : ℤ) (t : ℕ) → ℕ
demand later tab u a m c p t = blocking tab u a + own later tab u a m c p t + others later tab u a t

-- the demand by t of all jobs up to t, with released charges
unfoldable pub busy : Table → (u a m c t : ℕ) → ℕ
busy tab u a m c t = demand released tab u a m c (last_job tab u a c t) t

-- Busy length L: the least t ≥ 1 with that demand ≤ t
abbrev pub BusyLength : Table → (u a m c L : ℕ) → Type 0
BusyLength tab u a m c = Least (λ t. (1 ≤ t) × (busy tab u a m c t ≤ t))

-- Completion w of job p: the least t with demand = t
abbrev pub Completion : Later → Table → (u a m c : ℕ) (p : ℤ) (w : ℕ) → Type 0
Completion later tab u a m c p = Least (λ t. demand later tab u a m c p t ≡ t)

-- Arrival of job p: F + (p − 1)·T. A job held back to the instant arrived before it
abbrev pub arrival : Table → (u a c : ℕ) (p : ℤ) → ℤ
arrival tab u a c p = pos (phase_of tab u c a) +ℤ (p -ℤ pos 1) *ℤ pos (period tab u)

-- Response of job p that completes at w: w − (F + (p − 1)·T) + O
unfoldable pub response : Table → (u a c : ℕ) (p : ℤ) (w : ℕ) → ℤ
response tab u a c p w = pos w -ℤ arrival tab u a c p +ℤ pos (offset tab u a)

-- One name that opens the definitions so far
unfoldable pub bounding : Unit {0}
unfolding charging ceiling count first_job last_job jobs_to own demand busy response
bounding = tt

-- one task, T 10, C 2, J 12: jobs from −1 on; by t = 4 the last is 0, by t = 9 it is 1
abbrev pub queued : Table
queued = lone 10 (task 0 12 0 20 1 (2 ∷ []))

job-numbers : first_job queued 0 0 0 ∷ last_job queued 0 0 0 4 ∷ last_job queued 0 0 0 9 ∷ [] ≡ negsuc 0 ∷ pos 0 ∷ pos 1 ∷ []
unfolding bounding
job-numbers = refl

-- two jobs keep it busy for 4 ticks; the first completes at 2, with a response of 14
demands : busy queued 0 0 0 0 1 ∷ busy queued 0 0 0 0 4 ∷ demand released queued 0 0 0 0 (negsuc 0) 2 ∷ [] ≡ 4 ∷ 4 ∷ 2 ∷ []
unfolding bounding
demands = refl

responses : response queued 0 0 0 (negsuc 0) 2 ∷ response queued 0 0 0 (pos 0) 4 ∷ [] ≡ pos 14 ∷ pos 6 ∷ []
unfolding bounding
responses = refl

-- S: what is released keeps task 2 busy for 7 ticks; task 1's response is counted from the event, 4 before it arrives
S-busy : map (busy S 1 0 0 0) (1 ∷ 5 ∷ 7 ∷ []) ≡ 5 ∷ 7 ∷ 7 ∷ []
unfolding bounding
S-busy = refl

S-response : response S 0 1 1 (pos 1) 3 ≡ pos 7
unfolding bounding
S-response = refl

-- a mode of u where a has C > 0, and a candidate in it
pub record Setting (tab : Table) (u a m c : ℕ) : Type 0 where
  pub mode : m < modes tab u
  pub runs : Runs tab u m a
  pub place : c < tasks tab u
  pub candidate : Candidate tab u a m c

-- r is the response of job p, one of p0 to ceil((L − F)/T), in that mode with that candidate
pub record Response (later : Later) (tab : Table) (u a m c : ℕ) (p r : ℤ) : Type 0 where
  pub L : ℕ
  pub busy_length : BusyLength tab u a m c L
  pub first : first_job tab u a c ≤ℤ p
  pub last : p ≤ℤ last_job tab u a c L
  pub w : ℕ
  pub completion : Completion later tab u a m c p w
  pub is : r ≡ response tab u a c p w

-- some busy length within the horizon
pub record Within (tab : Table) (u a m c : ℕ) : Type 0 where
  pub L : ℕ
  pub busy_length : BusyLength tab u a m c L
  pub within : L ≤ horizon

-- some mode, candidate and job have this response
pub record Attained (later : Later) (tab : Table) (u a : ℕ) (r : ℤ) : Type 0 where
  pub m : ℕ
  pub c : ℕ
  pub p : ℤ
  pub setting : Setting tab u a m c
  pub response : Response later tab u a m c p r

-- The bound: every busy length is within the horizon, some response is R, and none is above it. With `imposed` this is
-- the bound of demand 2, with `released` the whole-job bound of demand 3
pub record Bound (later : Later) (tab : Table) (u a R : ℕ) : Type 0 where
  pub within : (m c : ℕ) → Setting tab u a m c → Within tab u a m c
  pub attained : Attained later tab u a (pos R)
  pub greatest : (m c : ℕ) (p r : ℤ) → Setting tab u a m c → Response later tab u a m c p r → r ≤ℤ pos R

-- No bound is above the one that charges whole jobs: the whole-job bound exists and is not below R
pub record Tight (tab : Table) (u a R : ℕ) : Type 0 where
  pub whole : ℕ
  pub is_bound : Bound released tab u a whole
  pub tight : R ≤ whole
