-- The plain analysis and document 01: where the plain response is within the period, document 01's bound is that response and the
-- offset, and any answer but a spent budget is that bound. Without that condition no bound is below it, and where the plain analysis has
-- no completion up to H there is no bound.
use mathlib.Core.Path.{◌≡◌, refl, ap, sym, subst, subst₂}
use lib.IntN.{ℤ, pos}
use Prim.Native.Nat.{ℕ, ◌+◌, ◌*◌, ◌≤◌, ◌<◌}
use native.Mathlib.Nat.{le_trans}
use native.Mathlib.Omega.{arith}
use Rattle.table.specs.Table.{Table, IsTask, transactions, period, offset, jitter, time}
use Rattle.table.specs.Limits.{horizon}
use Rattle.table.specs.Kept.{Kept}
use Rattle.table.proofs.Ranges.{kept-period, period-lt}
use Rattle.periods.specs.Phase.{ceil}
use Rattle.periods.specs.Charge.{imposed}
use Rattle.periods.proofs.Phase.{self-held}
use Rattle.periods.proofs.Charge.{ceil-gt}
use Rattle.analysis.specs.Charge.{phase_of, held_of}
use Rattle.analysis.specs.Bound.{last_job, jobs_to, response, BusyLength, Completion, Setting, Response, Within, Bound}
use Rattle.analysis.specs.Needed.{job}
use Rattle.analysis.specs.Answer.{Answer, Answers, overloaded, short, past, kept}
use Rattle.analysis.proofs.Choice.{least-unique}
use Rattle.analysis.proofs.Signed.{minus_pos, le-minus}
use Rattle.analysis.proofs.Charges.{imposed-fair, job-below-busy}
use Rattle.analysis.proofs.Turn.{job-completion, completion-below, queued-completes, completion-within}
use Rattle.analysis.proofs.Response.{Queued, queued-response, response-queued, queued-minus, bound-unique}
use Rattle.analysis.proofs.Greatest.{bound-exists}
use Rattle.analysis.proofs.Answer.{outcome-past}
use Rattle.jitter.specs.Plain.{Single, workload, Completion as PlainCompletion, response_of, Never}
use Rattle.jitter.specs.Agree.{InPeriod, Agrees}
use Rattle.jitter.proofs.Ceil.{ceil-one}
use Rattle.jitter.proofs.Alone.{is_task, setting-alone, setting-only, jobs-alone, busy-alone}
use Rattle.jitter.proofs.Least.{first-completes, first-completion}
use Rattle.jitter.proofs.Overload.{not-overloaded}

module _ {tab : Table} (kept-tab : Kept tab) (single : Single tab) {u : ℕ} (owner : u < transactions tab) where
  T : 0 < period tab u
  T = kept-period kept-tab owner

  itself : IsTask tab u 0
  itself = is_task kept-tab single owner

  setting : Setting tab u 0 0 0
  setting = setting-alone kept-tab single owner

  -- the jobs held back to the instant: so the first of them arrived J before it
  held_back : jitter tab u 0 + phase_of tab u 0 0 ≡ held_of tab u 0 0 * period tab u
  unfolding held_of phase_of
  held_back = self-held T (offset tab u 0) (jitter tab u 0)

  -- some job has come by any t ≥ 1
  first_by : (t : ℕ) → 1 ≤ t → 0 < jobs_to tab u 0 0 (last_job tab u 0 0 t)
  first_by t some = omega (arith, jobs-alone kept-tab single owner t, ceil-gt T 0 (t + jitter tab u 0) (omega arith))

  -- ---- any period

  first-queued : {L : ℕ} → BusyLength tab u 0 0 0 L → (w : ℕ) × Queued imposed tab u 0 0 0 L 0 w (response tab u 0 0 (job tab u 0 0 0) w)
  first-queued {L} length =
      let by = first_by L length.has.0 in
      let z = queued-completes kept-tab itself imposed-fair 0 0 length 0 by in
      (z.w, record { by = by; completion = job-completion kept-tab itself imposed-fair 0 0 (job tab u 0 0 0) z.chain; is = refl })

  -- No bound of document 01 is below the plain response and the offset: that is what the first job has at least
  pub not-below : {t R : ℕ} → PlainCompletion tab u t → Bound imposed tab u 0 R → response_of tab u t + offset tab u 0 ≤ R
  unfolding response_of
  not-below {t} {R} plain bound =
      let length = (bound.within 0 0 setting).busy_length in
      let (w, q) = first-queued length in
      let sooner : t ≤ w = plain.least w (first-completes kept-tab single owner q.completion) in
      let most = bound.greatest 0 0 _ _ setting (queued-response kept-tab itself length q) in
      omega (arith, le-minus (queued-minus kept-tab itself q) (minus_pos R) most, held_back)

  -- Where the plain analysis does not complete up to H, document 01 has no bound
  pub never-bounded : Never tab u → {R : ℕ} → ¬ (Bound imposed tab u 0 R)
  never-bounded never bound =
      let x = bound.within 0 0 setting in
      let (w, q) = first-queued x.busy_length in
      let sooner : w ≤ x.L = completion-within kept-tab itself imposed-fair 0 0 x.busy_length 0 q.by q.completion in
      never w (le_trans sooner x.within) (first-completes kept-tab single owner q.completion)

  -- ---- a response within the period

  module _ {t : ℕ} (plain : PlainCompletion tab u t) (within : InPeriod tab u t) where
    pub one-job : ceil (t + jitter tab u 0) (period tab u) ≡ 1
    unfolding response_of
    one-job = ceil-one T (omega (arith, plain.has.0)) within

    -- the task keeps busy until it completes
    pub length-alone : BusyLength tab u 0 0 0 t
    unfolding workload
    length-alone =
        record {
          has =
              (plain.has.0, omega (arith, busy-alone kept-tab single owner t, ap (λ (n : ℕ). n * time tab u 0 0) one-job, plain.has.1));
          least = λ s b.
              let below = job-below-busy kept-tab itself imposed-fair 0 0 0 s (first_by s b.0) in
              completion-below kept-tab itself imposed-fair 0 0 (job tab u 0 0 0) (first-completion kept-tab single owner plain) s (le_trans below b.1);
        }

    -- so every busy length is within the horizon: a period is
    within-horizon : (m c : ℕ) → Setting tab u 0 m c → Within tab u 0 m c
    unfolding response_of
    within-horizon m c s =
        let (e, f) = setting-only kept-tab single owner s in
        let low : t ≤ horizon = omega (arith, within, period-lt kept-tab owner) in
        subst₂ (Within tab u 0) (sym e) (sym f) (record { L = t; busy_length = length-alone; within = low })

    -- one job is queued, and its response is the plain one and the offset
    response-alone : {m c R : ℕ} {p : ℤ} → Setting tab u 0 m c → Response imposed tab u 0 m c p (pos R) → R ≡ response_of tab u t + offset tab u 0
    unfolding response_of
    response-alone {m} {c} {R} {p} s x =
        let (e, f) = setting-only kept-tab single owner s in
        let (N, w, q) = response-queued kept-tab itself length-alone (subst₂ (λ (m c : ℕ). Response imposed tab u 0 m c p (pos R)) e f x) in
        let only : N ≡ 0 = omega (arith, q.by, jobs-alone kept-tab single owner t, one-job) in
        let done = subst (λ (n : ℕ). Completion imposed tab u 0 0 0 (job tab u 0 0 n) w) only q.completion in
        let same : w ≡ t = least-unique done (first-completion kept-tab single owner plain) in
        omega (arith, (queued-minus kept-tab itself q).by, held_back, ap (λ (n : ℕ). n * period tab u) only)

    -- Document 01's bound is the plain response and the offset
    pub agree-bound : Bound imposed tab u 0 (response_of tab u t + offset tab u 0)
    agree-bound =
        let (R, bound) = bound-exists imposed-fair kept-tab itself within-horizon in
        let x = bound.attained in
        subst (Bound imposed tab u 0) (response-alone x.setting x.response) bound

  -- With a response within the period document 01 gives neither 21 nor 22, and its bound is the plain response and the offset
  pub agree : {t : ℕ} → PlainCompletion tab u t → InPeriod tab u t → {budget : ℕ} {x : Answer} → Answers tab u 0 budget x → Agrees (response_of tab u t + offset tab u 0) x
  unfolding response_of
  agree plain within (overloaded over) = not-overloaded kept-tab single owner plain.has (omega (arith, within)) over
  agree plain within (short free needed l) = tt
  agree plain within (past free needed l) =
      let (m, c, s, none) = outcome-past kept-tab itself needed in
      let x = within-horizon plain within m c s in
      none x.L x.busy_length.has.0 x.within x.busy_length.has.1
  agree plain within (kept free needed l x) =
      bound-unique kept-tab itself x.bound (agree-bound plain within)
