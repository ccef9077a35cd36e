-- Charges where t is split by the period, t = q·T + r with r < T: no division is left but that of t. Over any C.
use mathlib.Core.Path.{◌≡◌, ap, sym, ◌∙◌}
use Prim.Native.Nat.{ℕ, zero, suc, ◌+◌, ◌*◌, ◌-◌, ◌/◌, ◌%◌, ◌≤◌, ◌<◌, min}
use native.Mathlib.Nat.{suc-mul, zero-mul, add-mul, div-add-mod', mod-lt}
use native.Mathlib.Decide.{dec_lt}
use native.Mathlib.Omega.{arith}
use Rattle.periods.specs.Phase.{ceil}
use Rattle.periods.proofs.Charge.{imp, rel, imp-at, imp-zero, ceil-gt, ceil-le}

module _ {T : ℕ} (h : 0 < T) (C φ : ℕ) (below : φ < T) (r : ℕ) (rest : r < T) where
  -- a job for each whole period, and one more where r has passed the phase
  pub rel-passed : (q : ℕ) → φ < r → rel T C (q * T + r - φ) ≡ q * C + C
  unfolding rel
  rel-passed q l =
      let most : ceil (q * T + r - φ) T ≤ suc q = ceil-le h (suc q) (q * T + r - φ) (omega (arith, suc-mul q T)) in
      let least : q < ceil (q * T + r - φ) T = ceil-gt h q (q * T + r - φ) (omega arith) in
      let e : ceil (q * T + r - φ) T ≡ suc q = omega arith in
      ap (λ (x : ℕ). x * C) e ∙ suc-mul q C

  pub rel-waiting : (q : ℕ) → r ≤ φ → rel T C (q * T + r - φ) ≡ q * C
  unfolding rel
  rel-waiting zero l =
      let e : ceil (0 * T + r - φ) T ≡ 0 = omega (arith, ceil-le h 0 (0 * T + r - φ) (omega (arith, zero-mul T))) in
      ap (λ (x : ℕ). x * C) e
  rel-waiting (suc q) l =
      let s : ℕ = suc q * T + r - φ in
      let most : ceil s T ≤ suc q = ceil-le h (suc q) s (omega arith) in
      let least : q < ceil s T = ceil-gt h q s (omega (arith, suc-mul q T)) in
      ap (λ (x : ℕ). x * C) (omega arith)

  -- what can have run: of the present period's job what r has passed its phase by, or of the one before what is left of it
  pub imp-passed : (q : ℕ) → φ ≤ r → imp T C (q * T + r - φ) ≡ q * C + min (r - φ) C
  imp-passed q l =
      let e : q * T + r - φ ≡ q * T + (r - φ) = omega arith in
      ap (imp T C) e ∙ imp-at h C q (r - φ) (omega arith)

  pub imp-waiting : (q : ℕ) → r < φ → imp T C (suc q * T + r - φ) ≡ q * C + min (r + T - φ) C
  imp-waiting q l =
      let e : suc q * T + r - φ ≡ q * T + (r + T - φ) = omega (arith, suc-mul q T) in
      ap (imp T C) e ∙ imp-at h C q (r + T - φ) (omega arith)

  -- and before the first
  pub imp-first : r ≤ φ → imp T C (0 * T + r - φ) ≡ 0
  imp-first l =
      let e : 0 * T + r - φ ≡ 0 = omega (arith, zero-mul T) in
      ap (imp T C) e ∙ imp-zero T C

-- ---- n periods later n jobs more are released

module _ {T : ℕ} (h : 0 < T) where
  pub split-later : (t n : ℕ) → (t / T + n) * T + t % T ≡ t + n * T
  split-later t n = omega (arith, div-add-mod' t T, add-mul (t / T) n T)

  pub rel-later : (C φ : ℕ) → φ < T → (t n : ℕ) → rel T C (t + n * T - φ) ≡ rel T C (t - φ) + n * C
  rel-later C φ below t n =
      let at : (s : ℕ) (q : ℕ) → q * T + t % T ≡ s → rel T C (s - φ) ≡ rel T C (q * T + t % T - φ) = λ s q e. ap (λ (x : ℕ). rel T C (x - φ)) (sym e) in
      elim (dec_lt φ (t % T)) [
        | yes l ↦
            omega (
              arith,
              at t (t / T) (div-add-mod' t T),
              at (t + n * T) (t / T + n) (split-later t n),
              rel-passed h C φ below (t % T) (mod-lt t h) (t / T) l,
              rel-passed h C φ below (t % T) (mod-lt t h) (t / T + n) l,
              add-mul (t / T) n C,
            )
        | no l ↦
            omega (
              arith,
              at t (t / T) (div-add-mod' t T),
              at (t + n * T) (t / T + n) (split-later t n),
              rel-waiting h C φ below (t % T) (mod-lt t h) (t / T) (omega arith),
              rel-waiting h C φ below (t % T) (mod-lt t h) (t / T + n) (omega arith),
              add-mul (t / T) n C,
            )
      ]
