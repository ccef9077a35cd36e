-- Responses of the queued jobs, and what follows for the bound: there is at most one, it is at least 1 and at most
-- 50,331,645, and it bounds every job in the form that is over natural numbers.
use mathlib.Core.Path.{◌≡◌, refl, sym, subst}
use mathlib.Core.Logic.{inl}
use lib.IntN.{ℤ, pos}
use lib.Signed.{◌≤ℤ◌}
use Prim.Native.Nat.{ℕ, ◌+◌, ◌*◌, ◌≤◌, ◌<◌}
use native.Mathlib.Nat.{le_of_eq, le_antisymm, div-mul-le_self}
use native.Mathlib.Omega.{arith}
use Rattle.table.specs.Table.{Table, IsTask, period, modes, tasks, task, offset, jitter, time}
use Rattle.table.specs.Kept.{Kept, KeptTask}
use Rattle.table.proofs.Ranges.{kept-period}
use Rattle.periods.specs.Phase.{held}
use Rattle.periods.specs.Charge.{imposed}
use Rattle.periods.proofs.Phase.{self-held}
use Rattle.analysis.specs.Charge.{Later, phase_of, held_of}
use Rattle.analysis.specs.Bound.{last_job, jobs_to, demand, BusyLength, Completion, response, Setting, Response, Within, Bound}
use Rattle.analysis.specs.Needed.{job}
use Rattle.analysis.proofs.Choice.{least-unique}
use Rattle.analysis.proofs.Bounds.{CandidateBound, Bounds}
use Rattle.analysis.proofs.Join.{job-unique, own-job, jobs-by}
use Rattle.analysis.proofs.Signed.{Minus, minus_pos, le-minus, response-minus, job-range, range-job}
use Rattle.analysis.proofs.Charges.{Fair, imposed-fair, self-jobs}
use Rattle.analysis.proofs.Turn.{job-completion, queued-completes, completion-within}

-- r is the response of the N-th job counted from the first, which is queued by the busy length L and completes at w
pub record Queued (later : Later) (tab : Table) (u a m c L N w : ℕ) (r : ℤ) : Type 0 where
  pub by : N < jobs_to tab u a c (last_job tab u a c L)
  pub completion : Completion later tab u a m c (job tab u a c N) w
  pub is : r ≡ response tab u a c (job tab u a c N) w

module _ {tab : Table} (kept : Kept tab) {u a : ℕ} (is_task : IsTask tab u a) where
  T : 0 < period tab u
  T = kept-period kept is_task.owner

  pub queued-response : {later : Later} {m c L N w : ℕ} {r : ℤ} → BusyLength tab u a m c L → Queued later tab u a m c L N w r → Response later tab u a m c (job tab u a c N) r
  queued-response {c} {L} {N} {w} length q =
      let (first, last) = job-range tab u a c T L N q.by in
      record { L = L; busy_length = length; first = first; last = last; w = w; completion = q.completion; is = q.is }

  -- every response is that of a queued job
  pub response-queued : {later : Later} {m c L : ℕ} {p r : ℤ} → BusyLength tab u a m c L → Response later tab u a m c p r → (N : ℕ) × (w : ℕ) × Queued later tab u a m c L N w r
  response-queued {later} {m} {c} {L} {p} {r} length x =
      let e : x.L ≡ L = least-unique x.busy_length length in
      let (N, by, is) = range-job tab u a c T L p x.first (subst (λ (t : ℕ). p ≤ℤ last_job tab u a c t) e x.last) in (
        N,
        x.w,
        record {
          by = by;
          completion = subst (λ (q : ℤ). Completion later tab u a m c q x.w) is x.completion;
          is = subst (λ (q : ℤ). r ≡ response tab u a c q x.w) is x.is;
        },
      )

  -- and where the job is counted from the first, it is that one
  pub response-job : {later : Later} {m c L N : ℕ} {r : ℤ} → BusyLength tab u a m c L → Response later tab u a m c (job tab u a c N) r → (w : ℕ) × Queued later tab u a m c L N w r
  response-job {c} {L} {N} length x =
      let e : x.L ≡ L = least-unique x.busy_length length in
      let (M, by, is) = range-job tab u a c T L (job tab u a c N) x.first (subst (λ (t : ℕ). job tab u a c N ≤ℤ last_job tab u a c t) e x.last) in
      let same : N ≡ M = job-unique tab u a c is in
      (x.w, record { by = omega arith; completion = x.completion; is = x.is })

  pub queued-minus : {later : Later} {m c L N w : ℕ} {r : ℤ} → Queued later tab u a m c L N w r → Minus r (w + held_of tab u c a * period tab u + offset tab u a) (phase_of tab u c a + N * period tab u)
  queued-minus {c} {N} {w} q = subst (λ (z : ℤ). Minus z (w + held_of tab u c a * period tab u + offset tab u a) (phase_of tab u c a + N * period tab u)) (sym q.is) (response-minus tab u a c N w)

  -- a itself is a candidate, in a mode in which it runs
  task-kept : KeptTask (modes tab u) (task tab u a)
  unfolding modes task tasks
  task-kept = (kept.each u is_task.owner).each a is_task.place

  own-setting : (m : ℕ) × Setting tab u a m a
  unfolding time
  own-setting =
      let runs = task-kept.runs in
      (runs.mode, record { mode = rw (← task-kept.times) runs.within; runs = runs.some; place = is_task.place; candidate = inl refl })

  module _ {later : Later} (fair : Fair later) where
    -- Its first job is queued and has a response of at least 1: its jitter and phase together are whole periods, so that
    -- the response is w + J + O, and w is not 0
    own-response : {m L : ℕ} → Setting tab u a m a → BusyLength tab u a m a L → (w : ℕ) × Queued later tab u a m a L 0 w (response tab u a a (job tab u a a 0) w) × (1 + phase_of tab u a a ≤ w + held_of tab u a a * period tab u + offset tab u a)
    unfolding held_of phase_of demand
    own-response {m} {L} setting length =
        let by : 0 < jobs_to tab u a a (last_job tab u a a L) = rw (jobs-by tab u a a L T) (self-jobs tab u a L T length.has.0) in
        let z = queued-completes kept is_task fair m a length 0 by in
        let done = job-completion kept is_task fair m a (job tab u a a 0) z.chain in
        let whole = self-held T (offset tab u a) (jitter tab u a) in (
          z.w,
          record { by = by; completion = done; is = refl },
          omega (arith, done.has, own-job later tab u a m a 0 z.w, setting.runs),
        )

    -- so whatever no response exceeds is at least 1
    pub some-response : {R : ℕ} → ((m c : ℕ) → Setting tab u a m c → Within tab u a m c) → ((m c : ℕ) (p r : ℤ) → Setting tab u a m c → Response later tab u a m c p r → r ≤ℤ pos R) → 1 ≤ R
    some-response {R} within greatest =
        let (m, setting) = own-setting in
        let length = (within m a setting).busy_length in
        let (w, q, some) = own-response setting length in
        omega (arith, some, le-minus (queued-minus q) (minus_pos R) (greatest m a _ _ setting (queued-response length q)))

    pub bound_some : {R : ℕ} → Bound later tab u a R → 1 ≤ R
    bound_some bound = some-response bound.within bound.greatest

    -- w ≤ L ≤ H, and what the jobs held back add is at most J
    pub bound-most : {R : ℕ} → Bound later tab u a R → R ≤ 50_331_645
    unfolding held_of held offset jitter
    bound-most {R} bound =
        let x = bound.attained in
        let length = bound.within x.m x.c x.setting in
        let (N, w, q) = response-queued length.busy_length x.response in
        let in-L : w ≤ length.L = completion-within kept is_task fair x.m x.c length.busy_length N q.by q.completion in
        omega (arith, (queued-minus q).by, length.within, div-mul-le_self (jitter tab u a + phase_of tab u x.c a) (period tab u), task-kept.offset, task-kept.jitter)

  pub bound-unique : {later : Later} {R Q : ℕ} → Bound later tab u a R → Bound later tab u a Q → R ≡ Q
  bound-unique {later} {R} {Q} x y = le_antisymm (below x y) (below y x)
    where
      below : {R Q : ℕ} → Bound later tab u a R → Bound later tab u a Q → R ≤ Q
      below {R} {Q} v w =
          let z = v.attained in
          omega (arith, le-minus (minus_pos R) (minus_pos Q) (w.greatest z.m z.c z.p (pos R) z.setting z.response))

  -- the bound in natural numbers
  pub bounds : {R : ℕ} → Bound imposed tab u a R → Bounds tab u a R
  bounds {R} bound = record { each = each }
    where
      each : (m c : ℕ) → Setting tab u a m c → CandidateBound tab u a m c R
      each m c setting =
          let x = bound.within m c setting in
          let length = x.busy_length in
          record {
            L = x.L;
            some = length.has.0;
            length = length.has.1;
            job = λ N by.
                let z = queued-completes kept is_task imposed-fair m c length N by in
                let done = job-completion kept is_task imposed-fair m c (job tab u a c N) z.chain in
                let q : Queued imposed tab u a m c x.L N z.w (response tab u a c (job tab u a c N) z.w) = record { by = by; completion = done; is = refl } in
                let most = bound.greatest m c _ _ setting (queued-response length q) in
                record { w = z.w; completes = le_of_eq done.has; response = omega (arith, le-minus (queued-minus q) (minus_pos R) most) };
          }
