-- Ranges: of the fields of a table that keeps its bounds, and of what its tasks charge by a t within the horizon. Every
-- sum that the code makes stays far below 2 ^ 64.
use mathlib.Core.Path.{◌≡◌}
use mathlib.Core.Bool.{Bool, true, false}
use lib.IntN.{pos, ◌-ℤ◌}
use Prim.Native.Nat.{ℕ, ◌+◌, ◌-◌, ◌*◌, ◌^◌, ◌≤◌, ◌<◌, max}
use native.Mathlib.Nat.{
  mul-le-mul,
  mul-le-mul_right,
  le_trans,
  le-mul_of_pos_right,
  div-le_self,
}
use native.Mathlib.Numerals.{add-one}
use native.Mathlib.Decide.{ℕ_discrete}
use native.Mathlib.Omega.{arith}
use Rattle.table.specs.Sum.{sum}
use Rattle.table.specs.Limits.{horizon, transactions_most, tasks_most}
use Rattle.table.specs.Table.{Table, IsTask, transactions, period, modes, tasks, jitter, time}
use Rattle.table.specs.Kept.{Kept}
use Rattle.table.proofs.Ranges.{kept-period, period-lt, tasks-few, jitter-lt, time-lt}
use Rattle.table.proofs.Sum.{sum-most, sum_room}
use Rattle.periods.specs.Phase.{held}
use Rattle.periods.proofs.Phase.{phase-lt}
use Rattle.periods.proofs.Charge.{rel, imposed-is, released-is, imp≤rel, ceil-le}
use Rattle.analysis.specs.Choice.{when, unless, most}
use Rattle.analysis.specs.Rival.{rival?}
use Rattle.analysis.specs.Charge.{phase_of, held_of, task_charge, charge, greatest, others, rivals}
use Rattle.analysis.proofs.Choice.{when-le, unless-le, most-le}
use Rattle.charge.specs.Later.{later_of}

-- ---- sums and greatest as a loop makes them

pub most-next : (n : ℕ) (f : ℕ → ℕ) → most (n + 1) f ≡ max (most n f) (f n)
unfolding most
most-next n f = rw (add-one n)

-- ---- the fields

module _ {tab : Table} (kept : Kept tab) {i j : ℕ} (t : IsTask tab i j) where
  pub phase-of-lt : (c : ℕ) → phase_of tab i c j < 2 ^ 24
  unfolding phase_of
  phase-of-lt c =
      let short : phase_of tab i c j < period tab i = phase-lt (kept-period kept t.owner) _ _ in
      omega (arith, period-lt kept t.owner)

  pub held-of-lt : (c : ℕ) → held_of tab i c j < 2 ^ 25
  unfolding held_of held
  held-of-lt c = omega (arith, div-le_self (jitter tab i j + phase_of tab i c j) (period tab i), jitter-lt kept t, phase-of-lt c)

-- ---- charges

-- later jobs charge at most a job for each tick

rel-le : {T : ℕ} (C t φ : ℕ) → 0 < T → rel T C (t - φ) ≤ t * C
unfolding rel
rel-le C t φ h =
    le_trans (mul-le-mul_right C (ceil-le h (t - φ) (t - φ) (le-mul_of_pos_right (t - φ) h))) (mul-le-mul_right {m = t - φ} {n = t} C (omega arith))

later-le : (whole : Bool) {T : ℕ} (C t φ : ℕ) → 0 < T → later_of whole T C (pos t -ℤ pos φ) ≤ t * C
later-le true {T} C t φ h = rw (released-is T C t φ) (rel-le C t φ h)
later-le false {T} C t φ h = rw (imposed-is T C t φ) (le_trans (imp≤rel h C (t - φ)) (rel-le C t φ h))

-- ---- what the loops add up or compare: the charge of a rival, of a candidate and of another transaction

abbrev rival_charge : Bool → Table → (u a i m c t j : ℕ) → ℕ
rival_charge whole tab u a i m c t j = when (rival? tab u a i m j) (task_charge (later_of whole) tab i m c t j)

abbrev pub candidate_charge : Bool → Table → (u a i m t c : ℕ) → ℕ
candidate_charge whole tab u a i m t c = when (rival? tab u a i m c) (charge (later_of whole) tab u a i m c t)

abbrev pub other_charge : Bool → Table → (u a t i : ℕ) → ℕ
other_charge whole tab u a t i = unless (ℕ_discrete i u) (greatest (later_of whole) tab u a i t)

-- what a task charges at most, and a transaction
abbrev task_most : ℕ
task_most = 2 ^ 50

abbrev charge_most : ℕ
charge_most = tasks_most * task_most

module _ {tab : Table} (kept : Kept tab) where
  module _ {i m j : ℕ} (is_task : IsTask tab i j) (mode : m < modes tab i) (c : ℕ) where
    held-charge-le : held_of tab i c j * time tab i m j ≤ 2 ^ 49
    held-charge-le =
        mul-le-mul {n₂ = 2 ^ 25} {m₂ = 2 ^ 24} (omega (arith, held-of-lt kept is_task c)) (omega (arith, time-lt kept is_task mode))

    task-charge-le : (whole : Bool) {t : ℕ} → t ≤ horizon → task_charge (later_of whole) tab i m c t j ≤ task_most
    unfolding task_charge
    task-charge-le whole {t} short =
        omega (
          arith,
          held-charge-le,
          later-le whole (time tab i m j) t (phase_of tab i c j) (kept-period kept is_task.owner),
          mul-le-mul {n₁ = t} {m₁ = time tab i m j} {n₂ = 2 ^ 24} {m₂ = 2 ^ 24} (omega arith) (omega (arith, time-lt kept is_task mode)),
        )

  module _ (whole : Bool) {t : ℕ} (short : t ≤ horizon) (u a : ℕ) where
    module _ {i m : ℕ} (h : i < transactions tab) (mode : m < modes tab i) (c : ℕ) where
      rival-charge-le : (j : ℕ) → j < tasks tab i → rival_charge whole tab u a i m c t j ≤ task_most
      rival-charge-le j l =
          le_trans (when-le (rival? tab u a i m j) _) (task-charge-le (record { owner = h; place = l }) mode c whole short)

      charge-le : charge (later_of whole) tab u a i m c t ≤ charge_most
      unfolding charge
      charge-le = omega (arith, sum-most (tasks tab i) rival-charge-le, tasks-few kept h)

    greatest-le : {i : ℕ} → i < transactions tab → greatest (later_of whole) tab u a i t ≤ charge_most
    unfolding greatest
    greatest-le {i} h =
        most-le (modes tab i) (λ m l. most-le (tasks tab i) (λ c k. le_trans (when-le (rival? tab u a i m c) _) (charge-le h l c)))

    other-charge-le : (i : ℕ) → i < transactions tab → other_charge whole tab u a t i ≤ charge_most
    other-charge-le i h = le_trans (unless-le (ℕ_discrete i u) _) (greatest-le h)

    -- the other transactions up to i
    pub others-room : (i : ℕ) → i < transactions tab → sum i (other_charge whole tab u a t) + other_charge whole tab u a t i ≤ transactions_most * charge_most
    others-room i h = omega (arith, sum_room i other-charge-le h, kept.few_transactions)

    -- and with the task's own transaction
    pub rivals-le : {m : ℕ} → u < transactions tab → m < modes tab u → (c : ℕ) → rivals (later_of whole) tab u a m c t ≤ (transactions_most + 1) * charge_most
    unfolding rivals others
    rivals-le h mode c =
        omega (arith, charge-le h mode c, sum-most (transactions tab) other-charge-le, kept.few_transactions)
