-- The charge of a transaction at a t that is split by its period: the held-back sum, whole periods of its weights, and the
-- rests of its tasks. It is at most the held-back sum and a period more.
use mathlib.Core.Path.{◌≡◌, refl, ap}
use mathlib.Core.Bool.{Bool, true, false}
use lib.IntN.{pos, ◌-ℤ◌}
use Prim.Native.Nat.{ℕ, zero, suc, ◌+◌, ◌*◌, ◌-◌, ◌≤◌, ◌<◌, min}
use native.Mathlib.Nat.{zero-mul, mul-zero, suc-mul, add-mul, mul_comm}
use native.Mathlib.Decide.{dec_lt, dec_le}
use native.Mathlib.Omega.{arith}
use borrow.Author.Tests.{lt-ltb, le-ltb, le-leb, lt-leb}
use Rattle.table.specs.Sum.{sum}
use Rattle.table.specs.Table.{Table, transactions, period, tasks, time}
use Rattle.table.specs.Kept.{Kept}
use Rattle.table.proofs.Sum.{sum-le, sum-ext, sum-add, sum-mul}
use Rattle.table.proofs.Ranges.{kept-period}
use Rattle.periods.proofs.Phase.{phase-lt}
use Rattle.periods.proofs.Charge.{imposed-is, released-is}
use Rattle.periods.proofs.Quotient.{rel-passed, rel-waiting, imp-passed, imp-waiting, imp-first}
use Rattle.analysis.specs.Choice.{when}
use Rattle.analysis.specs.Rival.{rival?}
use Rattle.analysis.specs.Charge.{phase_of, held_of, task_charge, charge}
use Rattle.charge.specs.Later.{later_of}
use Rattle.charge.specs.Split.{whole_periods, rest_of, rest_at, rests, charge_cap}
use Rattle.charge.specs.Weight.{weight, mode_weight, held_back}

-- ---- the rest of one task, case by case

module _ (q T r φ C : ℕ) where
  pub released-passed : φ < r → rest_of true q T r φ C ≡ C
  unfolding rest_of
  released-passed l = rw (lt-ltb φ r l)

  pub released-waiting : r ≤ φ → rest_of true q T r φ C ≡ 0
  unfolding rest_of
  released-waiting l = rw (le-ltb φ r l)

pub imposed-first : (T r φ C : ℕ) → rest_of false 0 T r φ C ≡ min (r - φ) C
unfolding rest_of
imposed-first T r φ C = refl

pub imposed-passed : (q T r φ C : ℕ) → 0 < q → φ ≤ r → rest_of false q T r φ C ≡ C + min (r - φ) C
unfolding rest_of
imposed-passed zero T r φ C h l = omega arith
imposed-passed (suc q) T r φ C h l = rw (le-leb φ r l)

pub imposed-waiting : (q T r φ C : ℕ) → 0 < q → r < φ → rest_of false q T r φ C ≡ min (r + T - φ) C
unfolding rest_of
imposed-waiting zero T r φ C h l = omega arith
imposed-waiting (suc q) T r φ C h l = rw (lt-leb φ r l)

-- a rest is at most two jobs
pub rest_le : (whole : Bool) (q T r φ C : ℕ) → rest_of whole q T r φ C ≤ 2 * C
rest_le true q T r φ C =
    elim (dec_lt φ r) [
      | yes l ↦ omega (arith, released-passed q T r φ C l)
      | no l ↦ omega (arith, released-waiting q T r φ C (omega arith))
    ]
rest_le false zero T r φ C = omega (arith, imposed-first T r φ C)
rest_le false (suc q) T r φ C =
    elim (dec_le φ r) [
      | yes l ↦ omega (arith, imposed-passed (suc q) T r φ C (omega arith) l)
      | no l ↦ omega (arith, imposed-waiting (suc q) T r φ C (omega arith) (omega arith))
    ]

-- and no smaller for a greater weight
pub rest-mono : (whole : Bool) (q T r φ : ℕ) {C D : ℕ} → C ≤ D → rest_of whole q T r φ C ≤ rest_of whole q T r φ D
rest-mono true q T r φ {C} {D} h =
    elim (dec_lt φ r) [
      | yes l ↦ omega (arith, released-passed q T r φ C l, released-passed q T r φ D l)
      | no l ↦ omega (arith, released-waiting q T r φ C (omega arith))
    ]
rest-mono false zero T r φ {C} {D} h = omega (arith, imposed-first T r φ C, imposed-first T r φ D)
rest-mono false (suc q) T r φ {C} {D} h =
    elim (dec_le φ r) [
      | yes l ↦
          omega (arith, imposed-passed (suc q) T r φ C (omega arith) l, imposed-passed (suc q) T r φ D (omega arith) l)
      | no l ↦
          let k : r < φ = omega arith in
          omega (arith, imposed-waiting (suc q) T r φ C (omega arith) k, imposed-waiting (suc q) T r φ D (omega arith) k)
    ]

-- with the whole periods it is the charge of the later jobs
module _ {T : ℕ} (h : 0 < T) (C φ : ℕ) (below : φ < T) (r : ℕ) (rest : r < T) where
  later-split : (whole : Bool) (q : ℕ) → later_of whole T C (pos (q * T + r) -ℤ pos φ) ≡ whole_periods whole q * C + rest_of whole q T r φ C
  unfolding whole_periods
  later-split true q =
      elim (dec_lt φ r) [
        | yes l ↦ omega (arith, released-is T C (q * T + r) φ, rel-passed h C φ below r rest q l, released-passed q T r φ C l)
        | no l ↦
            let k : r ≤ φ = omega arith in
            omega (arith, released-is T C (q * T + r) φ, rel-waiting h C φ below r rest q k, released-waiting q T r φ C k)
      ]
  later-split false zero =
      elim (dec_le φ r) [
        | yes l ↦ omega (arith, imposed-is T C (0 * T + r) φ, imp-passed h C φ below r rest 0 l, imposed-first T r φ C, zero-mul C)
        | no l ↦ omega (arith, imposed-is T C (0 * T + r) φ, imp-first h C φ below r rest (omega arith), imposed-first T r φ C, zero-mul C)
      ]
  later-split false (suc q) =
      let less : (suc q - 1) * C ≡ q * C = ap (λ (x : ℕ). x * C) (omega arith) in
      elim (dec_le φ r) [
        | yes l ↦ omega (arith, less, imposed-is T C (suc q * T + r) φ, imp-passed h C φ below r rest (suc q) l, imposed-passed (suc q) T r φ C (omega arith) l, suc-mul q C)
        | no l ↦
            let k : r < φ = omega arith in
            omega (arith, less, imposed-is T C (suc q * T + r) φ, imp-waiting h C φ below r rest q k, imposed-waiting (suc q) T r φ C (omega arith) k)
      ]

-- and together they are at most a job for each period and one more
split-le : (whole : Bool) (q T r φ C : ℕ) → whole_periods whole q * C + rest_of whole q T r φ C ≤ (q + 1) * C
unfolding whole_periods
split-le true q T r φ C =
    elim (dec_lt φ r) [
      | yes l ↦ omega (arith, released-passed q T r φ C l, add-mul q 1 C)
      | no l ↦ omega (arith, released-waiting q T r φ C (omega arith), add-mul q 1 C)
    ]
split-le false zero T r φ C = omega (arith, imposed-first T r φ C, zero-mul C, add-mul 0 1 C)
split-le false (suc q) T r φ C =
    let less : (suc q - 1) * C ≡ q * C = ap (λ (x : ℕ). x * C) (omega arith) in
    omega (arith, less, rest_le false (suc q) T r φ C, add-mul (suc q) 1 C, suc-mul q C)

-- ---- the transaction

-- one task: a task that is no rival weighs 0 and charges 0
weighed :
    {A : Type 0} (d : Dec A) (whole : Bool) (held C : ℕ) {T : ℕ} (h : 0 < T) (φ : ℕ)
    → φ < T
    → (q r : ℕ)
    → r < T
    → when d (held * C + later_of whole T C (pos (q * T + r) -ℤ pos φ))
    ≡ held * when d C + (whole_periods whole q * when d C + rest_of whole q T r φ (when d C))
unfolding when
weighed (yes a) whole held C h φ below q r rest = ap (λ (x : ℕ). held * C + x) (later-split h C φ below r rest whole q)
weighed (no f) whole held C {T} h φ below q r rest =
    omega (arith, mul-zero held, mul-zero (whole_periods whole q), rest_le whole q T r φ 0)

module _ {tab : Table} (kept : Kept tab) (whole : Bool) {i : ℕ} (owner : i < transactions tab) (q r : ℕ) (below : r < period tab i) (u a m c : ℕ) where
  pub rival-split :
      (j : ℕ)
      → when (rival? tab u a i m j) (task_charge (later_of whole) tab i m c (q * period tab i + r) j)
      ≡ held_of tab i c j * weight tab u a i m j
      + (whole_periods whole q * weight tab u a i m j + rest_at whole tab u a i m c q r j)
  unfolding task_charge weight rest_at phase_of
  rival-split j =
      weighed (rival? tab u a i m j) whole (held_of tab i c j) (time tab i m j) (kept-period kept owner) (phase_of tab i c j) (phase-lt (kept-period kept owner) _ _) q r below

  pub charge-split :
      charge (later_of whole) tab u a i m c (q * period tab i + r)
      ≡ held_back tab u a i m c + whole_periods whole q * mode_weight tab u a i m + rests whole tab u a i m c q r
  unfolding charge held_back mode_weight rests
  charge-split =
      let n = tasks tab i in
      let p = whole_periods whole q in
      let w = weight tab u a i m in
      let held : ℕ → ℕ = λ j. held_of tab i c j * w j in
      let passed : ℕ → ℕ = λ j. p * w j in
      let rest = rest_at whole tab u a i m c q r in
      let each = sum-ext n (λ j l. rival-split j) in
      let both = sum-add n held (λ j. passed j + rest j) in
      let later = sum-add n passed rest in
      let turned = sum-ext n {f = passed} {g = λ j. w j * p} (λ j l. mul_comm p (w j)) in
      omega (arith, each, both, later, turned, sum-mul n w p, mul_comm (sum n w) p)

  -- the rests with the whole periods are at most a period more
  pub charge-capped : charge (later_of whole) tab u a i m c (q * period tab i + r) ≤ charge_cap tab u a i m c q
  unfolding charge charge_cap held_back mode_weight rest_at
  charge-capped =
      let n = tasks tab i in
      let w = weight tab u a i m in
      let held : ℕ → ℕ = λ j. held_of tab i c j * w j in
      let most : ℕ → ℕ = λ j. (q + 1) * w j in
      let each = sum-ext n (λ j l. rival-split j) in
      let less = sum-le n {f = λ j. held j + (whole_periods whole q * w j + rest_at whole tab u a i m c q r j)} {g = λ j. held j + most j} (λ j l. omega (arith, split-le whole q (period tab i) r (phase_of tab i c j) (w j))) in
      let turned = sum-ext n {f = most} {g = λ j. w j * (q + 1)} (λ j l. mul_comm (q + 1) (w j)) in
      omega (arith, each, less, sum-add n held most, turned, sum-mul n w (q + 1), mul_comm (sum n w) (q + 1))
