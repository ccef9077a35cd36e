-- The approximation of a request: never below it, never more than C
-- above, and never above (1 + 1/k) of it. In T-ths of a tick, over any period, jitter and time.
use mathlib.Core.Path.{◌≡◌, refl, ap}
use Prim.Native.Nat.{ℕ, suc, ◌+◌, ◌*◌, ◌-◌, ◌≤◌, ◌<◌}
use native.Mathlib.Nat.{mul-le-mul_right, mul-le-mul_left, mul_right_comm, mul_assoc, mul_comm, mul-add, add-mul, suc-mul, div-mul-le_self}
use native.Mathlib.Decide.{dec_le}
use native.Mathlib.Omega.{arith}
use Rattle.periods.specs.Phase.{ceil}
use Rattle.periods.proofs.Charge.{ceil-gt}
use Rattle.jitter.specs.Request.{request, IsExact, approximate_by, approximate}
use Rattle.jitter.proofs.Ceil.{ceil-covers}
use Rattle.jitter.specs.Cases
use Rattle.jitter.specs.Start

module _ {T : ℕ} (h : 0 < T) where
  -- ceil(s/T)·T is less than a period above s
  pub ceil-close : (s : ℕ) → ceil s T * T < s + T
  unfolding ceil
  ceil-close s = omega (arith, div-mul-le_self (s + (T - 1)) T)

  module _ (J C t : ℕ) where
    -- which of the two it is
    pub where-exact : (k : ℕ) → IsExact k T J t → approximate k T J C t ≡ request T J C t * T
    unfolding approximate approximate_by
    where-exact k e = go (dec_le (t + J) ((k - 1) * T))
      where
        go : (d : Dec (IsExact k T J t)) → approximate_by d T J C t ≡ request T J C t * T
        go (yes e') = refl
        go (no n) = absurd (n e)

    pub where-beyond : (k : ℕ) → ¬ (IsExact k T J t) → approximate k T J C t ≡ C * T + (t + J) * C
    unfolding approximate approximate_by
    where-beyond k n = go (dec_le (t + J) ((k - 1) * T))
      where
        go : (d : Dec (IsExact k T J t)) → approximate_by d T J C t ≡ C * T + (t + J) * C
        go (yes e) = absurd (n e)
        go (no n') = refl

    -- the request in T-ths
    in-ths : request T J C t * T ≡ ceil (t + J) T * T * C
    unfolding request
    in-ths = mul_right_comm (ceil (t + J) T) C T

    -- beyond, the line lies from the request to C above it
    pub line-above : request T J C t * T ≤ C * T + (t + J) * C
    line-above =
        let most : ceil (t + J) T * T * C ≤ (T + (t + J)) * C = mul-le-mul_right C (omega (arith, ceil-close (t + J))) in
        omega (arith, in-ths, add-mul T (t + J) C, mul_comm T C)

    line-near : C * T + (t + J) * C ≤ request T J C t * T + C * T
    line-near = omega (arith, in-ths, mul-le-mul_right C (ceil-covers h (t + J)))

    -- Never below the request
    pub never-below : (k : ℕ) → request T J C t * T ≤ approximate k T J C t
    never-below k =
        elim (dec_le (t + J) ((k - 1) * T)) [
          | yes e ↦ omega (arith, where-exact k e)
          | no n ↦ omega (arith, where-beyond k n, line-above)
        ]

    -- Never more than C above
    pub within-time : (k : ℕ) → approximate k T J C t ≤ request T J C t * T + C * T
    within-time k =
        elim (dec_le (t + J) ((k - 1) * T)) [
          | yes e ↦ omega (arith, where-exact k e)
          | no n ↦ omega (arith, where-beyond k n, line-near)
        ]

    -- where it is not exact, k jobs and more are requested
    beyond-jobs : (k : ℕ) → 1 ≤ k → ¬ (IsExact k T J t) → k * (C * T) ≤ request T J C t * T
    unfolding request
    beyond-jobs k some n =
        let jobs : k ≤ ceil (t + J) T = omega (arith, ceil-gt h (k - 1) (t + J) (omega arith)) in
        omega (arith, mul_assoc k C T, mul-le-mul_right T (mul-le-mul_right C jobs))

    -- Never above (1 + 1/k) of it
    pub within-share : (k : ℕ) → 1 ≤ k → k * approximate k T J C t ≤ suc k * (request T J C t * T)
    within-share k some =
        elim (dec_le (t + J) ((k - 1) * T)) [
          | yes e ↦ omega (arith, ap (λ (x : ℕ). k * x) (where-exact k e), suc-mul k (request T J C t * T))
          | no n ↦
              omega (
                arith,
                ap (λ (x : ℕ). k * x) (where-beyond k n),
                mul-le-mul_left k line-near,
                mul-add k (request T J C t * T) (C * T),
                beyond-jobs k some n,
                suc-mul k (request T J C t * T),
              )
        ]
