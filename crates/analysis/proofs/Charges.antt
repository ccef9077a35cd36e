-- How demands grow: with t, from imposed to released charges, and with the number of jobs. Each law is said once, of two
-- charges of later jobs and two times.
use mathlib.Core.Path.{◌≡◌, refl, subst}
use mathlib.Core.Logic.{inl, inr}
use lib.IntN.{ℤ, pos, ◌-ℤ◌}
use Prim.Native.Nat.{ℕ, zero, suc, ◌+◌, ◌-◌, ◌*◌, ◌≤◌, ◌<◌}
use native.Mathlib.Nat.{add-le-add, le_refl, le_trans, mul-le-mul_right, add-mul, one-le-mul}
use native.Mathlib.Decide.{ℕ_discrete}
use native.Mathlib.Omega.{arith}
use Rattle.table.specs.Table.{Table, IsTask, transactions, period, modes, tasks, offset, jitter, time}
use Rattle.table.specs.Kept.{Kept}
use Rattle.table.proofs.Sum.{sum-le, sum-term}
use Rattle.periods.specs.Phase.{ceil, phase, held}
use Rattle.periods.specs.Charge.{imposed, released}
use Rattle.periods.proofs.Phase.{self-held}
use Rattle.periods.proofs.Charge.{rel, imposed-is, released-is, imp_mono, rel-mono, imp≤rel, ceil-mono, ceil-gt}
use Rattle.table.proofs.Ranges.{kept-period}
use Rattle.analysis.specs.Choice.{when}
use Rattle.analysis.specs.Rival.{rival?, Candidate}
use Rattle.analysis.specs.Charge.{Later, phase_of, held_of, task_charge, charge, greatest, others}
use Rattle.analysis.specs.Bound.{last_job, jobs_to, own, demand, busy, Setting}
use Rattle.analysis.specs.Needed.{job, start}
use Rattle.analysis.proofs.Choice.{when-yes, when-mono, unless-mono, most-mono}
use Rattle.analysis.proofs.Join.{jobs-to-job, jobs-by, own-by}

-- by s the one charge is at most what the other is by t
pub record Grows (early late : Later) (s t : ℕ) : Type 0 where
  pub by : (T C φ : ℕ) → 0 < T → early T C (pos s -ℤ pos φ) ≤ late T C (pos t -ℤ pos φ)

-- a charge that never falls, and is at most the released one
pub record Fair (later : Later) : Type 0 where
  pub rises : {s t : ℕ} → s ≤ t → Grows later later s t
  pub within : (t : ℕ) → Grows later released t t

pub released-fair : Fair released
released-fair =
    record {
      rises = λ {s} {t} l. record { by = λ T C φ h. rw (released-is T C s φ, released-is T C t φ) (rel-mono h C (omega arith)) };
      within = λ t. record { by = λ T C φ h. le_refl _ };
    }

pub imposed-fair : Fair imposed
imposed-fair =
    record {
      rises = λ {s} {t} l. record { by = λ T C φ h. rw (imposed-is T C s φ, imposed-is T C t φ) (imp_mono h C (omega arith)) };
      within = λ t. record { by = λ T C φ h. rw (imposed-is T C t φ, released-is T C t φ) (imp≤rel h C (t - φ)) };
    }

module _ {tab : Table} (kept : Kept tab) {early late : Later} {s t : ℕ} (grows : Grows early late s t) where
  charge-grows : (u a i m c : ℕ) → i < transactions tab → charge early tab u a i m c s ≤ charge late tab u a i m c t
  unfolding charge task_charge
  charge-grows u a i m c h =
      sum-le (tasks tab i) (λ j l. when-mono (rival? tab u a i m j) (λ r. add-le-add (le_refl _) (grows.by (period tab i) (time tab i m j) (phase_of tab i c j) (kept-period kept h))))

  greatest-grows : (u a i : ℕ) → i < transactions tab → greatest early tab u a i s ≤ greatest late tab u a i t
  unfolding greatest
  greatest-grows u a i h =
      most-mono (modes tab i) (λ m l. most-mono (tasks tab i) (λ c k. when-mono (rival? tab u a i m c) (λ r. charge-grows u a i m c h)))

  others-grows : (u a : ℕ) → others early tab u a s ≤ others late tab u a t
  unfolding others
  others-grows u a =
      sum-le (transactions tab) (λ i l. unless-mono (ℕ_discrete i u) (λ n. greatest-grows u a i l))

  own-grows : {u a : ℕ} → IsTask tab u a → (m c : ℕ) (p : ℤ) → own early tab u a m c p s ≤ own late tab u a m c p t
  unfolding own
  own-grows {u} {a} is_task m c p = add-le-add (le_refl _) (charge-grows u a u m c is_task.owner)

  pub demand-grows : {u a : ℕ} → IsTask tab u a → (m c : ℕ) (p : ℤ) → demand early tab u a m c p s ≤ demand late tab u a m c p t
  unfolding demand
  demand-grows {u} {a} is_task m c p = omega (arith, own-grows is_task m c p, others-grows u a)

module _ {tab : Table} (kept : Kept tab) {u a : ℕ} (is_task : IsTask tab u a) where
  -- what a chain of a job starts with is in every value of it
  pub start-below : (later : Later) (m c : ℕ) (p : ℤ) (t : ℕ) → start tab u a m c p ≤ demand later tab u a m c p t
  unfolding start demand own
  start-below later m c p t = omega arith

  jobs-rise : (c : ℕ) {s t : ℕ} → s ≤ t → jobs_to tab u a c (last_job tab u a c s) ≤ jobs_to tab u a c (last_job tab u a c t)
  jobs-rise c {s} {t} l =
      let T = kept-period kept is_task.owner in
      rw (jobs-by tab u a c s T, jobs-by tab u a c t T) (add-le-add (le_refl _) (ceil-mono T (omega arith)))

  -- more jobs demand more
  demand-jobs : (later : Later) (m c : ℕ) (p q : ℤ) (t : ℕ) → jobs_to tab u a c p ≤ jobs_to tab u a c q → demand later tab u a m c p t ≤ demand later tab u a m c q t
  unfolding demand own
  demand-jobs later m c p q t l =
      omega (arith, mul-le-mul_right (time tab u m a) l)

  pub busy-rises : (m c : ℕ) {s t : ℕ} → s ≤ t → busy tab u a m c s ≤ busy tab u a m c t
  unfolding busy
  busy-rises m c {s} {t} l =
      le_trans (demand-jobs released m c (last_job tab u a c s) (last_job tab u a c t) s (jobs-rise c l))
      (demand-grows kept (released-fair.rises l) is_task m c (last_job tab u a c t))

  -- a job that arrives by t demands no more by t than all such jobs do with released charges
  pub job-below-busy : {later : Later} → Fair later → (m c N t : ℕ) → N < jobs_to tab u a c (last_job tab u a c t) → demand later tab u a m c (job tab u a c N) t ≤ busy tab u a m c t
  unfolding busy
  job-below-busy {later} fair m c N t l =
      le_trans (demand-grows kept (fair.within t) is_task m c (job tab u a c N))
      (demand-jobs released m c (job tab u a c N) (last_job tab u a c t) t (rw (jobs-to-job tab u a c N) l))

-- ---- something is due from the first tick on

-- The candidate itself has a job by t ≥ 1: one held back, or its phase is 0 and one is released at the instant
pub self-jobs : (tab : Table) (i c t : ℕ) → 0 < period tab i → 1 ≤ t → 1 ≤ held_of tab i c c + ceil (t - phase_of tab i c c) (period tab i)
unfolding held_of phase_of
self-jobs tab i c t h l = go (held T J F) refl
  where
    T : ℕ
    T = period tab i

    J : ℕ
    J = jitter tab i c

    F : ℕ
    F = phase T (offset tab i c) (offset tab i c + J)

    go : (k : ℕ) → held T J F ≡ k → 1 ≤ held T J F + ceil (t - F) T
    go zero e =
        let z : J + F ≡ 0 * T = rw e at (self-held h (offset tab i c) J) in
        let one : 0 < ceil (t - F) T = ceil-gt h 0 (t - F) (omega arith) in
        omega arith
    go (suc k) e = omega arith

self-charge : (tab : Table) (i m c t : ℕ) → 0 < period tab i → 0 < time tab i m c → 1 ≤ t → 1 ≤ task_charge released tab i m c t c
unfolding task_charge rel
self-charge tab i m c t h r l =
    rw (released-is (period tab i) (time tab i m c) t (phase_of tab i c c), ← (add-mul (held_of tab i c c) (ceil (t - phase_of tab i c c) (period tab i)) (time tab i m c))) (one-le-mul (self-jobs tab i c t h l) r)

-- So what u charges by t ≥ 1 is at least 1, whether the candidate is a itself or a rival
own-some : {tab : Table} {u a m c t : ℕ} → Kept tab → IsTask tab u a → Setting tab u a m c → 1 ≤ t → 1 ≤ own released tab u a m c (last_job tab u a c t) t
unfolding charge
own-some {tab} {u} {a} {m} {c} {t} kept is_task h l = rw (own-by released tab u a m c t T) (go h.candidate)
  where
    T : 0 < period tab u
    T = kept-period kept is_task.owner

    jobs : ℕ
    jobs = held_of tab u c a + ceil (t - phase_of tab u c a) (period tab u)

    go : Candidate tab u a m c → 1 ≤ jobs * time tab u m a + charge released tab u a u m c t
    go (inl e) =
        let some : 1 ≤ jobs = subst (λ (x : ℕ). 1 ≤ held_of tab u c x + ceil (t - phase_of tab u c x) (period tab u)) e (self-jobs tab u c t T l) in
        omega (arith, one-le-mul some h.runs)
    go (inr r) =
        let term = sum-term (tasks tab u) (λ j. when (rival? tab u a u m j) (task_charge released tab u m c t j)) c h.place in
        omega (arith, self-charge tab u m c t T r.runs l, when-yes (rival? tab u a u m c) (task_charge released tab u m c t c) r, term)

-- and so is the busy length's demand
pub busy-some : {tab : Table} {u a m c t : ℕ} → Kept tab → IsTask tab u a → Setting tab u a m c → 1 ≤ t → 1 ≤ busy tab u a m c t
unfolding busy demand
busy-some kept is_task h l = omega (arith, own-some kept is_task h l)
