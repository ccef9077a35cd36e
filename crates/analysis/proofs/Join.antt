-- The signed counts of jobs as natural numbers: p0 + N is job N counted from the first, so suc N jobs go up to it, and by
-- t there are the jobs held back and those after the instant. With them, what u charges without signs.
use mathlib.Core.Path.{◌≡◌, refl, ap}
use lib.IntN.{ℤ, pos, negsuc, neg_ℤ, ◌+ℤ◌, ◌-ℤ◌, +ℤ_comm, +ℤ_assoc, neg_ℤ-+ℤ, neg_ℤ-neg_ℤ, +ℤ-neg_ℤ_cancel, -ℤ-+ℤ_cancel}
use Prim.Native.Nat.{ℕ, suc, ◌+◌, ◌-◌, ◌*◌, ◌<◌}
use native.Mathlib.Nat.{add_comm}
use native.Mathlib.Omega.{arith}
use Rattle.table.specs.Table.{Table, period, time}
use Rattle.periods.specs.Phase.{ceil}
use Rattle.periods.proofs.Phase.{phase-lt}
use Rattle.periods.proofs.Charge.{ceiling-is}
use Rattle.analysis.specs.Choice.{count}
use Rattle.analysis.specs.Charge.{Later, phase_of, held_of, charge, rivals}
use Rattle.analysis.specs.Bound.{first_job, last_job, jobs_to, own, demand}
use Rattle.analysis.specs.Needed.{job, start}

-- up to job p0 + N there are suc N jobs: p − p0 + 1 is not negative, so that no count of them is clamped
pub signed-to-job : (tab : Table) (u a c N : ℕ) → job tab u a c N -ℤ first_job tab u a c +ℤ pos 1 ≡ pos (suc N)
unfolding job
signed-to-job tab u a c N =
    rw (+ℤ_comm (first_job tab u a c) (pos N), +ℤ-neg_ℤ_cancel (pos N) (first_job tab u a c)) (ap pos (omega arith))

pub jobs-to-job : (tab : Table) (u a c N : ℕ) → jobs_to tab u a c (job tab u a c N) ≡ suc N
unfolding jobs_to count
jobs-to-job tab u a c N = ap count (signed-to-job tab u a c N)

-- so two counts from the first that give one job are one
pub job-unique : (tab : Table) (u a c : ℕ) {N M : ℕ} → job tab u a c N ≡ job tab u a c M → N ≡ M
job-unique tab u a c {N} {M} e =
    omega (arith, jobs-to-job tab u a c N, jobs-to-job tab u a c M, ap (jobs_to tab u a c) e)

pub own-job : (later : Later) (tab : Table) (u a m c N t : ℕ) → own later tab u a m c (job tab u a c N) t ≡ suc N * time tab u m a + charge later tab u a u m c t
unfolding own
own-job later tab u a m c N t = rw (jobs-to-job tab u a c N) refl

-- q − (1 − h) + 1 = h + q
from_first : (h q : ℕ) → pos q -ℤ (pos 1 -ℤ pos h) +ℤ pos 1 ≡ pos (h + q)
from_first h q =
    rw (
      neg_ℤ-+ℤ (pos 1) (neg_ℤ (pos h)),
      neg_ℤ-neg_ℤ (pos h),
      +ℤ_comm (negsuc 0) (pos h),
      ← (+ℤ_assoc (pos q) (pos h) (negsuc 0)),
      -ℤ-+ℤ_cancel (pos (q + h)) (pos 1),
    )
    (ap pos (add_comm q h))

-- the jobs by t, those held back to the instant and those after it: p − p0 + 1 is not negative here either
pub signed_by : (tab : Table) (u a c t : ℕ) → 0 < period tab u → last_job tab u a c t -ℤ first_job tab u a c +ℤ pos 1 ≡ pos (held_of tab u c a + ceil (t - phase_of tab u c a) (period tab u))
unfolding last_job first_job phase_of
signed_by tab u a c t h =
    let small : phase_of tab u c a < period tab u = phase-lt h _ _ in
    rw (ceiling-is (period tab u) t (phase_of tab u c a) (omega arith))
    (from_first (held_of tab u c a) (ceil (t - phase_of tab u c a) (period tab u)))

pub jobs-by : (tab : Table) (u a c t : ℕ) → 0 < period tab u → jobs_to tab u a c (last_job tab u a c t) ≡ held_of tab u c a + ceil (t - phase_of tab u c a) (period tab u)
unfolding jobs_to count
jobs-by tab u a c t h = ap count (signed_by tab u a c t h)

pub own-by : (later : Later) (tab : Table) (u a m c t : ℕ) → 0 < period tab u → own later tab u a m c (last_job tab u a c t) t ≡ (held_of tab u c a + ceil (t - phase_of tab u c a) (period tab u)) * time tab u m a + charge later tab u a u m c t
unfolding own
own-by later tab u a m c t h = rw (jobs-by tab u a c t h) refl

-- The demand of job p is what its chain starts with, and the rivals' charges
pub demand-rivals : (later : Later) (tab : Table) (u a m c : ℕ) (p : ℤ) (t : ℕ) → demand later tab u a m c p t ≡ start tab u a m c p + rivals later tab u a m c t
unfolding demand own start rivals
demand-rivals later tab u a m c p t = omega arith
