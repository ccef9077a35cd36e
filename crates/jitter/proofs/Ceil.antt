-- The charges of a task that is its own candidate: what is released by t is its request by t, and what is imposed is the same, or falls
-- tick by tick where one goes back over the part of a job that is charged.
use mathlib.Core.Path.{◌≡◌, ap, sym, ◌∙◌}
use mathlib.Core.Logic.{◌⊎◌, inl, inr}
use Prim.Native.Nat.{ℕ, suc, ◌+◌, ◌*◌, ◌-◌, ◌/◌, ◌%◌, ◌≤◌, ◌<◌, min}
use native.Mathlib.Nat.{div-add-mod', mod-lt, suc-mul, mul-le-mul_right}
use native.Mathlib.Decide.{dec_lt}
use native.Mathlib.Omega.{arith}
use Rattle.periods.specs.Phase.{ceil, phase, held}
use Rattle.periods.proofs.Phase.{phase-lt, self-held}
use Rattle.periods.proofs.Charge.{imp, rel, imp-at, imp≤rel, ceil-gt, ceil-le}
use Rattle.periods.proofs.Quotient.{rel-later}

-- r ticks of the charge at s are of the job that is charged in part: r ticks before it is less by r
pub record Part (T C s : ℕ) : Type 0 where
  pub r : ℕ
  pub some : 0 < r
  pub within : r ≤ s
  pub falls : imp T C (s - r) + r ≡ imp T C s

module _ {T : ℕ} (h : 0 < T) where
  -- its jobs held back and those released later are ceil((t + J)/T), for J + F is held·T
  pub self-released : (C O J t : ℕ) → held T J (phase T O (O + J)) * C + rel T C (t - phase T O (O + J)) ≡ rel T C (t + J)
  self-released C O J t =
      let F : ℕ = phase T O (O + J) in
      let k : ℕ = held T J F in
      let e : t + k * T - F ≡ t + J = omega (arith, self-held h O J) in
      omega (arith, rel-later h C F (phase-lt h O (O + J)) t k, ap (rel T C) e)

  pub self-ceil : (O J t : ℕ) → held T J (phase T O (O + J)) + ceil (t - phase T O (O + J)) T ≡ ceil (t + J) T
  unfolding rel
  self-ceil O J t = omega (arith, self-released 1 O J t)

  -- within one period one job
  pub ceil-one : {s : ℕ} → 1 ≤ s → s ≤ T → ceil s T ≡ 1
  ceil-one {s} some within = omega (arith, ceil-gt h 0 s (omega arith), ceil-le h 1 s (omega arith))

  -- s is at most as many periods as it counts
  pub ceil-covers : (s : ℕ) → s ≤ ceil s T * T
  ceil-covers s =
      elim (dec_lt (ceil s T * T) s) [
        | yes l ↦ absurd (omega (arith, ceil-gt h (ceil s T) s l))
        | no l ↦ omega arith
      ]

  -- What is imposed is what is released, unless s mod T is neither 0 nor above C
  pub whole-or-part : (C s : ℕ) → (imp T C s ≡ rel T C s) ⊎ Part T C s
  unfolding rel
  whole-or-part C s =
      let q : ℕ = s / T in
      let r : ℕ = s % T in
      let split : q * T + r ≡ s = div-add-mod' s T in
      let is : imp T C s ≡ q * C + min r C = ap (imp T C) (sym split) ∙ imp-at h C q r (mod-lt s h) in
      let less : imp T C s ≤ ceil s T * C = imp≤rel h C s in
      elim (dec_lt 0 r) [
        | no z ↦ inl (omega (arith, mul-le-mul_right C (ceil-le h q s (omega arith))))
        | yes some ↦
            elim (dec_lt r C) [
              | no big ↦
                  let most : ceil s T ≤ suc q = ceil-le h (suc q) s (omega (arith, suc-mul q T, mod-lt s h)) in
                  inl (omega (arith, mul-le-mul_right C most, suc-mul q C))
              | yes part ↦
                  let e : q * T + 0 ≡ s - r = omega arith in
                  inr (record { r = r; some = some; within = omega arith; falls = omega (arith, imp-at h C q 0 h, ap (imp T C) e) })
            ]
      ]
