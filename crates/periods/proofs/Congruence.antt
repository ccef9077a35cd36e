-- Numbers that leave the same remainder by T. `step` and `mod-inj` serve for every argument about remainders.
use mathlib.Core.Path.{◌≡◌, ap}
use Prim.Native.Nat.{ℕ, zero, suc, ◌+◌, ◌*◌, ◌/◌, ◌%◌, ◌<◌}
use native.Mathlib.Nat.{div-add-mod', lt_of_mul-lt-mul_right, suc-mul, add-mul, le_dest}
use native.Mathlib.Omega.{arith}

-- A = B + N-as-T
pub record Steps (T A B : ℕ) : Type 0 where
  pub N : ℕ
  pub is : A ≡ B + N * T

-- A number that leaves B's remainder and is above B − T lies whole periods above B: compare the quotients
pub step : {T A B : ℕ} → A % T ≡ B % T → B < A + T → Steps T A B
step {T} {A} {B} e l =
    let a : A / T * T + A % T ≡ A = div-add-mod' A T in
    let b : B / T * T + B % T ≡ B = div-add-mod' B T in
    let q : B / T < suc (A / T) = lt_of_mul-lt-mul_right T (omega (arith, suc-mul (A / T) T)) in
    let d = le_dest {n = B / T} {m = A / T} (omega arith) in
    record {
      N = d.0;
      is = omega (arith, add-mul (B / T) d.0 T, ap (λ (x : ℕ). x * T) d.1);
    }

-- remainders that agree after the same is added are equal
pub mod-inj : {T x z : ℕ} (y : ℕ) → x < T → z < T → (x + y) % T ≡ (z + y) % T → x ≡ z
mod-inj {T} {x} {z} y hx hz e = go s.N s.is
  where
    s : Steps T (x + y) (z + y)
    s = step e (omega arith)

    go : (N : ℕ) → x + y ≡ z + y + N * T → x ≡ z
    go zero q = omega arith
    go (suc N) q = absurd (omega (arith, suc-mul N T))
