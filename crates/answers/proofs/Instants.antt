-- One turn of the walk: the ranges of its numbers, and that its chains stay within the horizon.
use mathlib.Core.Path.{◌≡◌, refl, sym, ap, subst, subst₂, ◌∙◌}
use lib.IntN.{ℤ, pos, ◌+ℤ◌, ◌-ℤ◌, ◌*ℤ◌}
use Prim.Native.Nat.{ℕ, ◌+◌, ◌-◌, ◌*◌, ◌≤◌, ◌<◌, ◌^◌}
use native.Mathlib.Nat.{le_trans, le_of_eq, le-mul_of_pos_right}
use native.Mathlib.Omega.{arith}
use Rattle.table.specs.Limits.{horizon}
use Rattle.table.specs.Table.{Table, IsTask, period, tasks, task, blocking}
use Rattle.table.specs.Kept.{Kept}
use Rattle.table.proofs.Ranges.{kept-period}
use Rattle.periods.specs.Phase.{ceil, ceiling}
use Rattle.periods.specs.Charge.{imposed}
use Rattle.periods.proofs.Difference.{sub-diff}
use Rattle.periods.proofs.Phase.{phase-lt}
use Rattle.periods.proofs.Charge.{ceiling-is, ceil-le}
use Rattle.analysis.specs.Choice.{count}
use Rattle.analysis.specs.Charge.{phase_of, held_of}
use Rattle.analysis.specs.Bound.{arrival, first_job, last_job, jobs_to, demand, busy, response}
use Rattle.analysis.specs.Needed.{job, start}
use Rattle.analysis.specs.Walk.{chain, beyond?, never?}
use Rattle.analysis.proofs.Join.{jobs-by}
use Rattle.analysis.proofs.Charges.{imposed-fair, demand-grows, start-below, job-below-busy, busy-some}
use Rattle.std.specs.Prelude.{Result, Ok}
use Rattle.answers.specs.declared.chains.Came.{Came}
use Rattle.answers.specs.declared.instant.Instant.{Instant}
use Rattle.answers.specs.declared.chains.Stopped.{Stopped}
use Rattle.answers.specs.Near.{Near}
use Rattle.answers.specs.Turn.{IsInstant, Reaches, Lasts, stopped}
use Rattle.answers.proofs.Chain.{Comes, chain-comes}
use Rattle.charge.proofs.Ranges.{held-of-lt}
use Rattle.answers.proofs.Signed.{mag-diff, mag-shift}

module _ {tab : Table} (kept : Kept tab) {u a : ℕ} (is_task : IsTask tab u a) where
  T : 0 < period tab u
  T = kept-period kept is_task.owner

  pub blocking-lt : blocking tab u a < 2 ^ 24
  unfolding blocking task tasks
  blocking-lt = ((kept.each u is_task.owner).each a is_task.place).blocking

  pub phase-period : (c : ℕ) → phase_of tab u c a < period tab u
  unfolding phase_of
  phase-period c = phase-lt T _ _

  -- ---- job numbers

  -- by t there is at most a job for each tick
  last-few : (c t : ℕ) → ceil (t - phase_of tab u c a) (period tab u) ≤ t
  last-few c t =
      let s : ℕ = t - phase_of tab u c a in
      omega (arith, ceil-le T s s (le-mul_of_pos_right s T))

  pub last-near : (c : ℕ) {t : ℕ} → t ≤ horizon → Near (last_job tab u a c t)
  unfolding last_job
  last-near c {t} h =
      rw (ceiling-is (period tab u) t (phase_of tab u c a) (omega (arith, phase-period c))) (omega (arith, last-few c t))

  pub jobs-few : (c : ℕ) {t : ℕ} → t ≤ horizon → jobs_to tab u a c (last_job tab u a c t) < 2 ^ 26
  jobs-few c {t} h = rw (jobs-by tab u a c t T) (omega (arith, last-few c t, held-of-lt kept is_task c))

  pub job-near : (c : ℕ) {t N : ℕ} → t ≤ horizon → N < jobs_to tab u a c (last_job tab u a c t) → Near (job tab u a c N)
  unfolding job first_job
  job-near c {t} {N} h l =
      let few : N < held_of tab u c a + ceil (t - phase_of tab u c a) (period tab u) = rw (← (jobs-by tab u a c t T)) l in
      omega (arith, mag-shift (pos 1 -ℤ pos (held_of tab u c a)) 1 (held_of tab u c a) N (sub-diff 1 (held_of tab u c a)), held-of-lt kept is_task c, last-few c t)

  -- ---- what a turn holds

  module _ {m c : ℕ} {x : Instant} (instant : IsInstant tab u a m c x) where
    pub instant-first : Near x.first.number
    unfolding first_job
    instant-first =
        let h = held_of tab u c a in
        rw instant.first (omega (arith, mag-diff (pos 1 -ℤ pos h) 1 h (sub-diff 1 h), held-of-lt kept is_task c))

    pub instant-start : (p : ℤ) → x.blocking.0 + count (p -ℤ x.first.number +ℤ pos 1) * x.time.0 ≡ start tab u a m c p
    unfolding start jobs_to
    instant-start p = rw (instant.blocking, instant.first, instant.time) refl

    pub instant-last : (t : ℕ) → ceiling (pos t -ℤ pos x.phase.0) x.period.0 ≡ last_job tab u a c t
    unfolding last_job
    instant-last t = rw (instant.phase, instant.period) refl

    pub instant-job : (N : ℕ) → x.first.number +ℤ pos N ≡ job tab u a c N
    unfolding job
    instant-job N = rw instant.first refl

    pub instant-jobs : (p : ℤ) → count (p -ℤ x.first.number +ℤ pos 1) ≡ jobs_to tab u a c p
    unfolding jobs_to
    instant-jobs p = rw instant.first refl

    pub instant-arrival : (p : ℤ) → pos x.phase.0 +ℤ (p -ℤ pos 1) *ℤ pos x.period.0 ≡ arrival tab u a c p
    instant-arrival p = rw (instant.phase, instant.period) refl

    pub instant-response : (p : ℤ) (w : ℕ) → pos w -ℤ (pos x.phase.0 +ℤ (p -ℤ pos 1) *ℤ pos x.period.0) +ℤ pos x.offset.0 ≡ response tab u a c p w
    unfolding response
    instant-response p w = rw (instant.phase, instant.period, instant.offset) refl

    -- the same turn, by the mode and the candidate that it holds
    pub instant-own : IsInstant tab u a x.mode x.candidate x
    instant-own = subst₂ (λ (n k : ℕ). IsInstant tab u a n k x) (sym instant.mode) (sym instant.candidate) instant

  -- ---- demands

  -- some t within the horizon meets the demand of each job of the turn
  pub lasts-reaches : {m c n N : ℕ} → Lasts tab u a m c n → N < n → Reaches tab u a m c (job tab u a c N)
  lasts-reaches {m} {c} {n} {N} lasts l =
      let by : N < jobs_to tab u a c (last_job tab u a c lasts.L) = rw (← lasts.jobs) l in
      record {
        t = lasts.L;
        within = lasts.within;
        enough = le_trans (job-below-busy kept is_task imposed-fair m c N lasts.L by) lasts.enough;
      }

  -- so that the values of the job's chain stay there
  module _ {m c : ℕ} {p : ℤ} (reaches : Reaches tab u a m c p) where
    pub reaches-start : start tab u a m c p ≤ reaches.t
    reaches-start = le_trans (start-below kept is_task imposed m c p reaches.t) reaches.enough

    pub reaches-on : (t : ℕ) → t ≤ reaches.t → demand imposed tab u a m c p t ≤ reaches.t
    reaches-on t h = le_trans (demand-grows kept (imposed-fair.rises h) is_task m c p) reaches.enough

    -- and so does where it comes back
    pub reaches-came : (budget left : ℕ) {r : Result Came Stopped} {x : Came} → r ≡ stopped budget (chain (demand imposed tab u a m c p) never? left (start tab u a m c p)) → r ≡ Ok x → x.t.0 ≤ horizon
    reaches-came budget left is came =
        let back = subst (Comes budget (λ w. (w ≤ reaches.t) × (demand imposed tab u a m c p w ≡ w))) (sym is ∙ came) (chain-comes (demand imposed tab u a m c p) never? budget {Has = λ w. w ≤ reaches.t} (λ t h o. reaches-on t h) left (start tab u a m c p) reaches-start) in
        le_trans back.0.0 reaches.within

  -- where the L chain of a turn came back: the busy time lasts so long
  module _ {m c : ℕ} {x : Instant} (instant : IsInstant tab u a m c x) (budget left : ℕ) {r : Result Came Stopped} {came : Came} (is : r ≡ stopped budget (chain (busy tab u a m c) beyond? left 1)) (ok : r ≡ Ok came) where
    busy-comes : (((1 ≤ came.t.0) × (came.t.0 ≤ horizon)) × (busy tab u a m c came.t.0 ≡ came.t.0)) × (came.used ≤ budget)
    busy-comes =
        subst (Comes budget (λ w. ((1 ≤ w) × (w ≤ horizon)) × (busy tab u a m c w ≡ w))) (sym is ∙ ok)
        (chain-comes (busy tab u a m c) beyond? budget (λ t h o. (busy-some kept is_task instant.setting h.0, omega arith)) left 1 (omega arith))

    pub came-used : came.used ≤ budget
    came-used = busy-comes.1

    pub came-some : 1 ≤ came.t.0
    came-some = busy-comes.0.0.0

    pub came-within : came.t.0 ≤ horizon
    came-within = busy-comes.0.0.1

    module _ {p : ℤ} (last : p ≡ ceiling (pos came.t.0 -ℤ pos x.phase.0) x.period.0) where
      pub came-near : Near p
      came-near = rw (last, instant-last instant came.t.0) (last-near c came-within)

      pub came-jobs : {n : ℕ} → n ≡ count (p -ℤ x.first.number +ℤ pos 1) → n ≡ jobs_to tab u a c (last_job tab u a c came.t.0)
      came-jobs few = few ∙ instant-jobs instant p ∙ ap (jobs_to tab u a c) (last ∙ instant-last instant came.t.0)

      pub came-lasts : {n : ℕ} → n ≡ count (p -ℤ x.first.number +ℤ pos 1) → Lasts tab u a m c n
      came-lasts few = record { L = came.t.0; some = came-some; within = came-within; enough = le_of_eq busy-comes.0.1; jobs = came-jobs few }

  -- the N-th job of a turn
  module _ {m c n N : ℕ} {x : Instant} {p : ℤ} (instant : IsInstant tab u a m c x) (lasts : Lasts tab u a m c n) (l : N < n) (is : p ≡ x.first.number +ℤ pos N) where
    pub nth-number : p ≡ job tab u a c N
    nth-number = is ∙ instant-job instant N

    pub nth-near : Near p
    nth-near = rw nth-number (job-near c lasts.within (rw lasts.jobs at l))

    pub nth-reaches : Reaches tab u a m c p
    nth-reaches = rw nth-number (lasts-reaches lasts l)
