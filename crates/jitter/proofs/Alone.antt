-- Where each transaction has one task and one mode, each rival is its own only candidate: what document 01 sums and takes the greatest
-- of are single charges, and with released charges its demands are those of the plain analysis. (The computed cases are brought in so
-- that they are checked first.)
use mathlib.Core.Path.{◌≡◌, refl, ap, ◌∙◌, subst}
use mathlib.Core.Logic.{inl}
use Prim.Native.Nat.{ℕ, suc, ◌+◌, ◌*◌, ◌/◌, ◌≤◌, ◌<◌}
use native.Mathlib.Nat.{div-add-mod'}
use native.Mathlib.Decide.{ℕ_discrete}
use native.Mathlib.Omega.{arith}
use Rattle.table.specs.Sum.{sum}
use Rattle.table.specs.Table.{Table, IsTask, transactions, period, modes, tasks, task, offset, jitter, blocking, time}
use Rattle.table.specs.Kept.{Kept}
use Rattle.table.proofs.Sum.{sum-ext}
use Rattle.table.proofs.Ranges.{kept-period}
use Rattle.periods.specs.Phase.{ceil}
use Rattle.periods.specs.Charge.{released}
use Rattle.periods.proofs.Charge.{rel, released-is}
use Rattle.analysis.specs.Choice.{when, unless, most}
use Rattle.analysis.specs.Rival.{Rival, urgent?, rival?}
use Rattle.analysis.specs.Charge.{Later, phase_of, held_of, task_charge, charge, greatest, others}
use Rattle.analysis.specs.Bound.{last_job, jobs_to, own, demand, busy, Setting}
use Rattle.analysis.specs.Overload.{counts?, load, most_load}
use Rattle.analysis.specs.Needed.{job}
use Rattle.analysis.proofs.Choice.{when-yes, when-no, when-le}
use Rattle.analysis.proofs.Join.{own-job, jobs-by}
use Rattle.jitter.specs.Cases
use Rattle.jitter.specs.Request.{request}
use Rattle.jitter.specs.Plain.{Single, request_of, rival_request, workload}
use Rattle.jitter.proofs.Sums.{sum_one, most-one, unless-same}
use Rattle.jitter.proofs.Ceil.{self-released, self-ceil}

-- ---- what a transaction charges

-- what transaction i charges by t for the task of u: its task's charge, if that is another one of equal or higher priority
abbrev pub rival_charge : Later → Table → (u t i : ℕ) → ℕ
rival_charge later tab u t i = unless (ℕ_discrete i u) (when (urgent? tab u 0 i 0) (task_charge later tab i 0 0 t 0))

-- a major frame is so many periods
pub whole-frame : {tab : Table} → Kept tab → {i : ℕ} → i < transactions tab → tab.frame / period tab i * period tab i ≡ tab.frame
unfolding period
whole-frame {tab} kept {i} h = omega (arith, div-add-mod' tab.frame (period tab i), (kept.each i h).divides)

module _ {tab : Table} (kept : Kept tab) (single : Single tab) where
  pub is_task : {i : ℕ} → i < transactions tab → IsTask tab i 0
  is_task {i} h = record { owner = h; place = omega (arith, single.one_task i h) }

  -- a task of one mode runs in it
  pub runs-alone : {i : ℕ} → i < transactions tab → 0 < time tab i 0 0
  unfolding time task tasks modes
  runs-alone {i} h =
      let k = (kept.each i h).each 0 (is_task h).place in
      let only : k.runs.mode ≡ 0 = omega (arith, k.runs.within, k.times, single.one_mode i h) in
      subst (λ (m : ℕ). 0 < time tab i m 0) only k.runs.some

  module _ (later : Later) (u : ℕ) {i : ℕ} (h : i < transactions tab) (t : ℕ) where
    charge-alone : charge later tab u 0 i 0 0 t ≡ when (rival? tab u 0 i 0 0) (task_charge later tab i 0 0 t 0)
    unfolding charge
    charge-alone =
        sum_one (λ j. when (rival? tab u 0 i 0 j) (task_charge later tab i 0 0 t j)) (single.one_task i h)

    greatest-alone : ¬ (i ≡ u) → greatest later tab u 0 i t ≡ when (urgent? tab u 0 i 0) (task_charge later tab i 0 0 t 0)
    unfolding greatest
    greatest-alone other =
        let of : (m c : ℕ) → ℕ = λ m c. when (rival? tab u 0 i m c) (charge later tab u 0 i m c t) in
        let one : most (modes tab i) (λ m. most (tasks tab i) (of m)) ≡ of 0 0 = most-one (λ m. most (tasks tab i) (of m)) (single.one_mode i h) ∙ most-one (of 0) (single.one_task i h) in
        let x : ℕ = task_charge later tab i 0 0 t 0 in
        elim (urgent? tab u 0 i 0) [
          | yes g ↦
              let r : Rival tab u 0 i 0 0 = record { other = λ b. other b.0; urgent = g; runs = runs-alone h } in
              omega (arith, one, when-yes (rival? tab u 0 i 0 0) (charge later tab u 0 i 0 0 t) r, charge-alone, when-yes (rival? tab u 0 i 0 0) x r, when-yes (urgent? tab u 0 i 0) x g)
          | no g ↦
              omega (arith, one, when-no (rival? tab u 0 i 0 0) (charge later tab u 0 i 0 0 t) (λ r. g r.urgent), when-no (urgent? tab u 0 i 0) x g)
        ]

  -- released charges are requests
  request-alone : (u : ℕ) {i : ℕ} → i < transactions tab → (t : ℕ) → rival_charge released tab u t i ≡ rival_request tab u t i
  unfolding rival_request request_of request task_charge held_of phase_of rel
  request-alone u {i} h t =
      let T = period tab i in
      let C = time tab i 0 0 in
      let is : task_charge released tab i 0 0 t 0 ≡ request_of tab i t = omega (arith, released-is T C t (phase_of tab i 0 0), self-released (kept-period kept h) C (offset tab i 0) (jitter tab i 0) t) in
      unless-same (ℕ_discrete i u) (λ n. ap (when (urgent? tab u 0 i 0)) is)

  -- the load of a transaction is at most its task's time, and that only if the task is urgent
  pub load-alone : (u : ℕ) {i : ℕ} → i < transactions tab → most_load tab u 0 i ≤ when (urgent? tab u 0 i 0) (time tab i 0 0)
  unfolding most_load load
  load-alone u {i} h =
      omega (
        arith,
        most-one (λ m. when (counts? tab u 0 i m) (load tab u 0 i m)) (single.one_mode i h),
        when-le (counts? tab u 0 i 0) (load tab u 0 i 0),
        sum_one (λ j. when (urgent? tab u 0 i j) (time tab i 0 j)) (single.one_task i h),
      )

  -- ---- what the task of u is charged

  module _ {u : ℕ} (owner : u < transactions tab) where
    pub setting-alone : Setting tab u 0 0 0
    setting-alone =
        record { mode = omega (arith, single.one_mode u owner); runs = runs-alone owner; place = (is_task owner).place; candidate = inl refl }

    pub setting-only : {m c : ℕ} → Setting tab u 0 m c → (m ≡ 0) × (c ≡ 0)
    setting-only s =
        (omega (arith, s.mode, single.one_mode u owner), omega (arith, s.place, single.one_task u owner))

    own-charge : (later : Later) (t : ℕ) → charge later tab u 0 u 0 0 t ≡ 0
    own-charge later t =
        charge-alone later u owner t ∙ when-no (rival? tab u 0 u 0 0) (task_charge later tab u 0 0 t 0) (λ r. r.other (refl, refl))

    others-alone : (later : Later) (t : ℕ) → others later tab u 0 t ≡ sum (transactions tab) (rival_charge later tab u t)
    unfolding others
    others-alone later t =
        sum-ext (transactions tab) (λ i h. unless-same (ℕ_discrete i u) (greatest-alone later u h t))

    pub demand-alone : (later : Later) (N t : ℕ) → demand later tab u 0 0 0 (job tab u 0 0 N) t ≡ blocking tab u 0 + suc N * time tab u 0 0 + sum (transactions tab) (rival_charge later tab u t)
    unfolding demand
    demand-alone later N t =
        omega (arith, own-job later tab u 0 0 0 N t, own-charge later t, others-alone later t)

    requests-alone : (t : ℕ) → sum (transactions tab) (rival_charge released tab u t) ≡ sum (transactions tab) (rival_request tab u t)
    requests-alone t = sum-ext (transactions tab) (λ i h. request-alone u h t)

    -- the first job's demand with released charges is the plain workload
    pub demand-workload : (t : ℕ) → demand released tab u 0 0 0 (job tab u 0 0 0) t ≡ workload tab u t
    unfolding workload
    demand-workload t = omega (arith, demand-alone released 0 t, requests-alone t)

    -- the task's jobs by t, as its request has them
    pub jobs-alone : (t : ℕ) → jobs_to tab u 0 0 (last_job tab u 0 0 t) ≡ ceil (t + jitter tab u 0) (period tab u)
    unfolding held_of phase_of
    jobs-alone t =
        jobs-by tab u 0 0 t (kept-period kept owner)
        ∙ self-ceil (kept-period kept owner) (offset tab u 0) (jitter tab u 0) t

    -- and the busy length's demand has them in place of one
    pub busy-alone : (t : ℕ) → busy tab u 0 0 0 t ≡ blocking tab u 0 + ceil (t + jitter tab u 0) (period tab u) * time tab u 0 0 + sum (transactions tab) (rival_request tab u t)
    unfolding busy demand own
    busy-alone t =
        omega (
          arith,
          ap (λ (n : ℕ). n * time tab u 0 0) (jobs-alone t),
          own-charge released t,
          others-alone released t,
          requests-alone t,
        )
