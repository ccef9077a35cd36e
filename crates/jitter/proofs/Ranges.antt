-- Ranges of what the code adds up and multiplies, for a t within the horizon: far below 2 ^ 64.
use Prim.Native.Nat.{ℕ, ◌+◌, ◌*◌, ◌^◌, ◌/◌, ◌≤◌, ◌<◌}
use native.Mathlib.Nat.{le_trans, mul-le-mul, le-mul_of_pos_right, div-le_self}
use native.Mathlib.Decide.{ℕ_discrete}
use native.Mathlib.Omega.{arith}
use Rattle.table.specs.Sum.{sum}
use Rattle.table.specs.Table.{Table, transactions, period, tasks, task, jitter, blocking, time}
use Rattle.table.specs.Limits.{horizon, transactions_most}
use Rattle.table.specs.Kept.{Kept}
use Rattle.table.proofs.Sum.{sum_room, sum-most, sum_grow}
use Rattle.table.proofs.Ranges.{kept-period, period-lt, jitter-lt, time-lt}
use Rattle.periods.specs.Phase.{ceil}
use Rattle.periods.proofs.Charge.{ceil-le}
use Rattle.analysis.specs.Choice.{when, unless}
use Rattle.analysis.specs.Rival.{urgent?}
use Rattle.analysis.proofs.Choice.{when-le, unless-le}
use Rattle.jitter.specs.Request.{request}
use Rattle.jitter.specs.Plain.{Single, request_of, rival_request}
use Rattle.jitter.specs.Start.{rival_load, load, Line}
use Rattle.jitter.proofs.Alone.{is_task}
use Rattle.jitter.proofs.Approximation.{line-above}

-- what is chosen is at most what there is
chosen-le : {A B : Type 0} (d : Dec A) (e : Dec B) (x : ℕ) → unless d (when e x) ≤ x
chosen-le d e x = le_trans (unless-le d (when e x)) (when-le e x)

module _ {tab : Table} (kept : Kept tab) (single : Single tab) where
  module _ {i : ℕ} (h : i < transactions tab) where
    pub jitter-small : jitter tab i 0 < 2 ^ 24
    jitter-small = jitter-lt kept (is_task kept single h)

    pub time-small : time tab i 0 0 < 2 ^ 24
    time-small = time-lt kept (is_task kept single h) (omega (arith, single.one_mode i h))

    pub blocking-small : blocking tab i 0 < 2 ^ 24
    unfolding blocking task tasks
    blocking-small = ((kept.each i h).each 0 (is_task kept single h).place).blocking

    -- at most a job for each tick
    pub jobs-small : {t : ℕ} → t ≤ horizon → ceil (t + jitter tab i 0) (period tab i) < 2 ^ 25
    jobs-small {t} within =
        let y = t + jitter tab i 0 in
        omega (arith, jitter-small, ceil-le (kept-period kept h) y y (le-mul_of_pos_right y (kept-period kept h)))

    pub request-small : {t : ℕ} → t ≤ horizon → request_of tab i t ≤ 2 ^ 49
    unfolding request_of request
    request-small within = mul-le-mul {n₂ = 2 ^ 25} {m₂ = 2 ^ 24} (omega (arith, jobs-small within)) (omega (arith, time-small))

    -- the approximation, by its two cases
    pub beyond-small : {t : ℕ} → t ≤ horizon → time tab i 0 0 * period tab i + (t + jitter tab i 0) * time tab i 0 0 ≤ 2 ^ 50
    beyond-small {t} within =
        let C = time tab i 0 0 in
        let long : C * period tab i ≤ 2 ^ 24 * 2 ^ 24 = mul-le-mul {n₂ = 2 ^ 24} {m₂ = 2 ^ 24} (omega (arith, time-small)) (omega (arith, period-lt kept h)) in
        let far : (t + jitter tab i 0) * C ≤ 2 ^ 25 * 2 ^ 24 = mul-le-mul {n₂ = 2 ^ 25} {m₂ = 2 ^ 24} (omega (arith, jitter-small)) (omega (arith, time-small)) in
        omega arith

    pub exact-small : {t : ℕ} → t ≤ horizon → request_of tab i t * period tab i ≤ 2 ^ 50
    unfolding request_of
    exact-small {t} within =
        omega (arith, line-above (kept-period kept h) (jitter tab i 0) (time tab i 0 0) t, beyond-small within)

    pub demand-small : tab.frame / period tab i * time tab i 0 0 ≤ 2 ^ 48
    demand-small =
        mul-le-mul {n₂ = 2 ^ 24} {m₂ = 2 ^ 24} (omega (arith, div-le_self tab.frame (period tab i), kept.frame)) (omega (arith, time-small))

  module _ (u : ℕ) where
    rival-small : {t : ℕ} → t ≤ horizon → (i : ℕ) → i < transactions tab → rival_request tab u t i ≤ 2 ^ 49
    unfolding rival_request
    rival-small within i h = le_trans (chosen-le (ℕ_discrete i u) (urgent? tab u 0 i 0) _) (request-small h within)

    load-small : (i : ℕ) → i < transactions tab → rival_load tab u i ≤ 2 ^ 48
    unfolding rival_load
    load-small i h = le_trans (chosen-le (ℕ_discrete i u) (urgent? tab u 0 i 0) _) (demand-small h)

    pub requests-most : {t : ℕ} → t ≤ horizon → sum (transactions tab) (rival_request tab u t) ≤ transactions_most * 2 ^ 49
    requests-most within = omega (arith, sum-most (transactions tab) (rival-small within), kept.few_transactions)

    -- as a loop adds them up
    pub loads-room : (i : ℕ) → i < transactions tab → sum i (rival_load tab u) + rival_load tab u i ≤ transactions_most * 2 ^ 48
    loads-room i h = omega (arith, sum_room i load-small h, kept.few_transactions)

  -- a line below rivals that leave something of the major frame
  pub line_small :
      {u t n slope jitters level : ℕ}
      → n ≤ transactions tab
      → load tab u < tab.frame
      → t ≤ horizon
      → Line tab u t n slope jitters level
      → (slope < tab.frame) × (jitters ≤ 2 ^ 48) × (level ≤ transactions_most * 2 ^ 49)
  unfolding load
  line_small {u} {t} {n} few short low line =
      let loads : sum n (rival_load tab u) ≤ sum (transactions tab) (rival_load tab u) = sum_grow n (transactions tab) (rival_load tab u) few in
      let requests : sum n (rival_request tab u t) ≤ sum (transactions tab) (rival_request tab u t) = sum_grow n (transactions tab) (rival_request tab u t) few in
      (omega (arith, line.steep), omega (arith, line.few, kept.frame), omega (arith, line.flat, requests-most u low))
