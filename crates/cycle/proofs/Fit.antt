-- The most cycles that have room: the lesser of what the ticks and what the evaluations allow.
use mathlib.Core.Path.{◌≡◌, refl}
use mathlib.Core.Logic.{◌⊎◌, inl, inr, ⊎_elim}
use Prim.Native.Nat.{ℕ, zero, suc, ◌+◌, ◌*◌, ◌/◌, ◌≤◌, ◌<◌, min}
use native.Mathlib.Nat.{mul-zero, one-mul, add-mul, mul-le-mul_right, div-mul-le_self, div-le_self, div-add-mod', mod-lt, le_trans}
use native.Mathlib.Decide.{dec_le, ℕ_discrete}
use native.Mathlib.Omega.{arith}
use Rattle.std.proofs.Common.{Option, Some, None}
use Rattle.std.specs.Option.{SomeIff, unwrap_or}
use Rattle.cycle.specs.Cycle.{times, Rounds}

times_none : (x y : ℕ) → y ≡ 0 → times x y ≡ 0
unfolding times
times_none x zero e = refl
times_none x (suc y) e = absurd (omega arith)

-- the quotient, where there is one
pub quotient-or-none : (r : Option ℕ) (x y : ℕ) → SomeIff r (0 < y) (x / y) → unwrap_or r 0 ≡ times x y
unfolding times
quotient-or-none (Some z) x zero h = absurd (omega arith)
quotient-or-none (Some z) x (suc y) h = h.1
quotient-or-none None x zero h = refl
quotient-or-none None x (suc y) h = absurd (h (omega arith))

-- so many have room, and one more has not
times-room : (x y : ℕ) → times x y * y ≤ x
unfolding times
times-room x zero = omega (arith, mul-zero 0)
times-room x (suc y) = div-mul-le_self x (suc y)

times-most : (x y : ℕ) → 0 < y → x < (times x y + 1) * y
unfolding times
times-most x zero h = absurd (omega arith)
times-most x (suc y) h = omega (arith, div-add-mod' x (suc y), mod-lt x h, add-mul (x / suc y) 1 (suc y), one-mul (suc y))

pub times-le : (x y : ℕ) → times x y ≤ x
unfolding times
times-le x zero = omega arith
times-le x (suc y) = div-le_self x (suc y)

pub lesser-rounds : (D n room left : ℕ) → Rounds D n room left (min (times room D) (times left n))
lesser-rounds D n room left =
    record {
      ticks = le_trans (mul-le-mul_right {n = times room D} D (omega arith)) (times-room room D);
      evaluations = le_trans (mul-le-mul_right {n = times left n} n (omega arith)) (times-room left n);
      most = either;
      none = ⊎_elim (λ e. omega (arith, times_none room D e)) (λ e. omega (arith, times_none left n e));
    }
  where
    either : 0 < D → 0 < n → (room < (min (times room D) (times left n) + 1) * D) ⊎ (left < (min (times room D) (times left n) + 1) * n)
    either p q =
        elim (dec_le (times room D) (times left n)) [
          | yes l ↦
              let k : min (times room D) (times left n) ≡ times room D = omega arith in
              inl (rw k (times-most room D p))
          | no l ↦
              let k : min (times room D) (times left n) ≡ times left n = omega arith in
              inr (rw k (times-most left n q))
        ]

-- and there is no other most
pub rounds-unique : {D n room left j k : ℕ} → Rounds D n room left j → Rounds D n room left k → j ≡ k
rounds-unique {D} {n} {room} {left} {j} {k} x y = go (ℕ_discrete D 0) (ℕ_discrete n 0)
  where
    -- a greater one would have no room
    less : {j k : ℕ} → Rounds D n room left j → Rounds D n room left k → 0 < D → 0 < n → ¬ (j < k)
    less {j} {k} x y d e l =
        ⊎_elim
        (λ h. omega (arith, h, mul-le-mul_right {m = j + 1} {n = k} D (omega arith), y.ticks))
        (λ h. omega (arith, h, mul-le-mul_right {m = j + 1} {n = k} n (omega arith), y.evaluations))
        (x.most d e)

    go : Dec (D ≡ 0) → Dec (n ≡ 0) → j ≡ k
    go (yes d) e = omega (arith, x.none (inl d), y.none (inl d))
    go (no d) (yes e) = omega (arith, x.none (inr e), y.none (inr e))
    go (no d) (no e) = omega (arith, less x y (omega arith) (omega arith), less y x (omega arith) (omega arith))
