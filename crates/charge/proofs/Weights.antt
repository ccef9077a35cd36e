-- Weights: which tasks weigh something, and how much at most.
use mathlib.Core.Path.{◌≡◌, refl}
use Prim.Native.Nat.{ℕ, ◌*◌, ◌^◌, ◌≤◌, ◌<◌}
use native.Mathlib.Nat.{mul-le-mul}
use native.Mathlib.Decide.{dec_lt}
use native.Mathlib.Omega.{arith}
use Rattle.table.specs.Limits.{tasks_most}
use Rattle.table.specs.Table.{Table, transactions, modes, tasks, time}
use Rattle.table.specs.Kept.{Kept}
use Rattle.table.proofs.Sum.{sum-term, sum-most}
use Rattle.table.proofs.Ranges.{tasks-few, time-lt}
use Rattle.analysis.specs.Choice.{when, most}
use Rattle.analysis.specs.Rival.{Rival, Urgent, rival?}
use Rattle.analysis.specs.Charge.{Later, held_of, charge, greatest}
use Rattle.analysis.proofs.Choice.{when-no, when-le, most-ge, most-le}
use Rattle.charge.specs.Weight.{weight, mode_weight, held_back}
use Rattle.charge.proofs.Ranges.{held-of-lt}

-- ---- what weighs something

-- what is chosen with C, which is not 0 where the decision is yes
none : {A : Type 0} (d : Dec A) (C x : ℕ) → (A → 0 < C) → when d C ≡ 0 → when d x ≡ 0
unfolding when
none (yes a) C x some e = absurd (omega (arith, some a))
none (no f) C x some e = refl

all : {A : Type 0} (d : Dec A) (C x : ℕ) → ¬ (when d C ≡ 0) → when d x ≡ x
unfolding when
all (yes a) C x h = refl
all (no f) C x h = absurd (h refl)

module _ (tab : Table) (u a i m j : ℕ) where
  -- a task that weighs nothing is not chosen, and any other is

  pub weightless : weight tab u a i m j ≡ 0 → (x : ℕ) → when (rival? tab u a i m j) x ≡ 0
  unfolding weight
  weightless e x = none (rival? tab u a i m j) (time tab i m j) x (λ r. r.runs) e

  pub weighty : ¬ (weight tab u a i m j ≡ 0) → (x : ℕ) → when (rival? tab u a i m j) x ≡ x
  unfolding weight
  weighty h x = all (rival? tab u a i m j) (time tab i m j) x h

  pub weight-none : ¬ Rival tab u a i m j → weight tab u a i m j ≡ 0
  unfolding weight
  weight-none h = when-no (rival? tab u a i m j) (time tab i m j) h

  -- a task that is no rival only for its time weighs that time, 0
  pub weight-time : Urgent tab u a i j → ¬ ((i ≡ u) × (j ≡ a)) → weight tab u a i m j ≡ time tab i m j
  unfolding weight when
  weight-time urgent other = go (rival? tab u a i m j)
    where
      go : (d : Dec (Rival tab u a i m j)) → when d (time tab i m j) ≡ time tab i m j
      go (yes r) = refl
      go (no h) =
          elim (dec_lt 0 (time tab i m j)) [
            | yes l ↦ absurd (h (record { other = other; urgent = urgent; runs = l }))
            | no l ↦ omega arith
          ]

-- a transaction whose weights are 0 in every mode charges nothing
pub greatest-weightless : (later : Later) (tab : Table) (u a i t : ℕ) → most (modes tab i) (mode_weight tab u a i) ≡ 0 → greatest later tab u a i t ≡ 0
unfolding greatest mode_weight
greatest-weightless later tab u a i t e =
    let none : greatest later tab u a i t ≤ 0 =
    most-le (modes tab i)
    (λ m l. most-le (tasks tab i)
    (λ c k.
    let zero : weight tab u a i m c ≡ 0 = omega (arith, sum-term (tasks tab i) (weight tab u a i m) c k, most-ge (modes tab i) (mode_weight tab u a i) m l) in
    omega (arith, weightless tab u a i m c zero (charge later tab u a i m c t)))) in
    omega arith

-- ---- ranges

module _ {tab : Table} (kept : Kept tab) (u a : ℕ) {i m : ℕ} (h : i < transactions tab) (mode : m < modes tab i) where
  pub weight-lt : (j : ℕ) → j < tasks tab i → weight tab u a i m j < 2 ^ 24
  unfolding weight
  weight-lt j l =
      omega (arith, when-le (rival? tab u a i m j) (time tab i m j), time-lt kept {j = j} (record { owner = h; place = l }) mode)

  pub mode-weight-le : mode_weight tab u a i m ≤ tasks_most * 2 ^ 24
  unfolding mode_weight
  mode-weight-le =
      omega (arith, sum-most (tasks tab i) {f = weight tab u a i m} {K = 2 ^ 24} (λ j l. omega (arith, weight-lt j l)), tasks-few kept h)

  pub held-back-le : (c : ℕ) → held_back tab u a i m c ≤ tasks_most * 2 ^ 49
  unfolding held_back
  held-back-le c =
      omega (
        arith,
        sum-most (tasks tab i) {f = λ j. held_of tab i c j * weight tab u a i m j} {K = 2 ^ 49}
            (λ j l. mul-le-mul {n₁ = held_of tab i c j} {m₁ = weight tab u a i m j} {n₂ = 2 ^ 25} {m₂ = 2 ^ 24} (omega (arith, held-of-lt kept {j = j} (record { owner = h; place = l }) c)) (omega (arith, weight-lt j l))),
        tasks-few kept h,
      )
