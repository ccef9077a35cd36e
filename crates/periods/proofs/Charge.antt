-- Imposed and released charges in ℕ, where t − phase is cut at 0, and their laws over any period and any C.
use mathlib.Core.Path.{◌≡◌, refl, ap, sym, ◌∙◌}
use lib.IntN.{ℤ, pos, negsuc, neg_ℤ, ◌-ℤ◌}
use Prim.Native.Nat.{ℕ, zero, suc, ◌+◌, ◌*◌, ◌-◌, ◌/◌, ◌%◌, ◌≤◌, ◌<◌, min}
use native.Mathlib.Nat.{div-add-mod', suc-mul, zero-mul, mul-le-mul_right, le-div_iff_mul-le, div-mul-le_self, add-div_right, add-mod_right, zero-div, zero-mod, div-eq_of_lt}
use native.Mathlib.Decide.{dec_lt}
use native.Mathlib.Omega.{arith}
use lib.Arith.{digits_div, digits_mod}
use Rattle.periods.specs.Phase.{ceil, ceiling}
use Rattle.periods.specs.Charge.{imposed, released}
use Rattle.periods.proofs.Difference.{Diff, sub-diff}

unfoldable pub imp : (T C s : ℕ) → ℕ
imp T C s = s / T * C + min (s % T) C

unfoldable pub rel : (T C s : ℕ) → ℕ
rel T C s = ceil s T * C

-- nothing is charged at s = 0
pub imp-zero : (T C : ℕ) → imp T C 0 ≡ 0
unfolding imp
imp-zero T C = omega (arith, ap (λ (x : ℕ). x * C) (zero-div T), zero-mul C, zero-mod T)

pub ceil-zero : (T : ℕ) → ceil 0 T ≡ 0
unfolding ceil
ceil-zero zero = refl
ceil-zero (suc T) = div-eq_of_lt (omega arith)

pub rel-zero : (T C : ℕ) → rel T C 0 ≡ 0
unfolding rel
rel-zero T C = ap (λ (x : ℕ). x * C) (ceil-zero T) ∙ zero-mul C

-- a signed charge is that of the difference cut at 0
imposed-of : (T C : ℕ) (z : ℤ) (t φ : ℕ) → Diff z t φ → imposed T C z ≡ imp T C (t - φ)
unfolding imposed imp
imposed-of T C (pos n) t φ d =
    let e : n ≡ t - φ = omega arith in
    ap (imp T C) e
imposed-of T C (negsuc n) t φ d =
    let e : t - φ ≡ 0 = omega arith in
    sym (ap (imp T C) e ∙ imp-zero T C)

pub imposed-is : (T C t φ : ℕ) → imposed T C (pos t -ℤ pos φ) ≡ imp T C (t - φ)
imposed-is T C t φ = imposed-of T C (pos t -ℤ pos φ) t φ (sub-diff t φ)

released-of : (T C : ℕ) (z : ℤ) (t φ : ℕ) → Diff z t φ → released T C z ≡ rel T C (t - φ)
unfolding released rel
released-of T C (pos n) t φ d =
    let e : n ≡ t - φ = omega arith in
    ap (rel T C) e
released-of T C (negsuc n) t φ d =
    let e : t - φ ≡ 0 = omega arith in
    sym (ap (rel T C) e ∙ rel-zero T C)

pub released-is : (T C t φ : ℕ) → released T C (pos t -ℤ pos φ) ≡ rel T C (t - φ)
released-is T C t φ = released-of T C (pos t -ℤ pos φ) t φ (sub-diff t φ)

-- a signed ceiling of t − φ, where φ is below T + t, is that of the difference cut at 0
ceiling-of : (T : ℕ) (z : ℤ) (t φ : ℕ) → φ < T + t → Diff z t φ → ceiling z T ≡ pos (ceil (t - φ) T)
unfolding ceiling
ceiling-of T (pos n) t φ l d =
    let e : n ≡ t - φ = omega arith in
    ap (λ (x : ℕ). pos (ceil x T)) e
ceiling-of T (negsuc n) t φ l d =
    let e : t - φ ≡ 0 = omega arith in
    let small : suc n < T = omega arith in
    let q : suc n / T ≡ 0 = div-eq_of_lt small in
    ap (λ (x : ℕ). neg_ℤ (pos x)) q ∙ sym (ap (λ (x : ℕ). pos (ceil x T)) e ∙ ap pos (ceil-zero T))

pub ceiling-is : (T t φ : ℕ) → φ < T + t → ceiling (pos t -ℤ pos φ) T ≡ pos (ceil (t - φ) T)
ceiling-is T t φ l = ceiling-of T (pos t -ℤ pos φ) t φ l (sub-diff t φ)

module _ {T : ℕ} (h : 0 < T) where
  pub div_mono : {s z : ℕ} → s ≤ z → s / T ≤ z / T
  div_mono {s} {z} l = (le-div_iff_mul-le h).1 (omega (arith, div-mul-le_self s T))

  -- ---- released: jobs counted whole

  pub ceil-mono : {s z : ℕ} → s ≤ z → ceil s T ≤ ceil z T
  unfolding ceil
  ceil-mono {s} {z} l = div_mono {s = s + (T - 1)} {z = z + (T - 1)} (omega arith)

  -- after more than m periods more than m jobs are released
  pub ceil-gt : (m s : ℕ) → m * T < s → m < ceil s T
  unfolding ceil
  ceil-gt m s l = (le-div_iff_mul-le h).1 (omega (arith, suc-mul m T))

  -- and up to m periods at most m
  pub ceil-le : (m s : ℕ) → s ≤ m * T → ceil s T ≤ m
  unfolding ceil
  ceil-le m s l =
      elim (dec_lt m ((s + (T - 1)) / T)) [
        | yes g ↦ absurd (omega (arith, div-mul-le_self (s + (T - 1)) T, suc-mul m T, mul-le-mul_right T g))
        | no g ↦ omega arith
      ]

  pub ceil-add : (s : ℕ) → ceil (s + T) T ≡ suc (ceil s T)
  unfolding ceil
  ceil-add s = ap (λ (x : ℕ). x / T) (omega arith) ∙ add-div_right (s + (T - 1)) h ∙ omega arith

  pub rel-mono : (C : ℕ) {s z : ℕ} → s ≤ z → rel T C s ≤ rel T C z
  unfolding rel
  rel-mono C l = mul-le-mul_right C (ceil-mono l)

  pub rel-add : (C s : ℕ) → rel T C (s + T) ≡ rel T C s + C
  unfolding rel
  rel-add C s = ap (λ (x : ℕ). x * C) (ceil-add s) ∙ suc-mul (ceil s T) C

  -- ---- imposed: what can have run

  pub imp-at : (C m z : ℕ) → z < T → imp T C (m * T + z) ≡ m * C + min z C
  unfolding imp
  imp-at C m z l =
      ap (λ (x : ℕ). x * C + min ((m * T + z) % T) C) (digits_div m l)
      ∙ ap (λ (x : ℕ). m * C + min x C) (digits_mod m l)

  pub imp-is : (C s : ℕ) → imp T C s ≡ s / T * C + min (s % T) C
  unfolding imp
  imp-is C s = refl

  -- m periods and z more, where z may be the whole next period
  pub imp-ge : (C m z : ℕ) → z ≤ T → m * C + min z C ≤ imp T C (m * T + z)
  imp-ge C m z l =
      elim (dec_lt z T) [
        | yes k ↦ omega (arith, imp-at C m z k)
        | no k ↦
            let e : m * T + z ≡ suc m * T + 0 = omega (arith, suc-mul m T) in
            omega (arith, imp-at C (suc m) 0 h, ap (imp T C) e, suc-mul m C)
      ]

  pub imp_mono : (C : ℕ) {s z : ℕ} → s ≤ z → imp T C s ≤ imp T C z
  imp_mono C {s} {z} l =
      elim (dec_lt (s / T) (z / T)) [
        | yes k ↦ omega (arith, imp-is C s, imp-is C z, mul-le-mul_right C k, suc-mul (s / T) C)
        | no k ↦
            let q : s / T ≤ z / T = div_mono l in
            let e : s / T ≡ z / T = omega arith in
            omega (arith, imp-is C s, imp-is C z, ap (λ (x : ℕ). x * C) e, ap (λ (x : ℕ). x * T) e, div-add-mod' s T, div-add-mod' z T)
      ]

  pub imp-add : (C s : ℕ) → imp T C (s + T) ≡ imp T C s + C
  unfolding imp
  imp-add C s =
      let q : (s + T) / T ≡ suc (s / T) = omega (arith, add-div_right s h) in
      omega (arith, ap (λ (x : ℕ). x * C) q, suc-mul (s / T) C, add-mod_right s T)

  -- no more can have run than was released
  pub imp≤rel : (C s : ℕ) → imp T C s ≤ rel T C s
  unfolding rel ceil
  imp≤rel C s =
      let whole : s / T * T + s % T ≡ s = div-add-mod' s T in
      elim (dec_lt (s / T * T) s) [
        | yes k ↦ omega (arith, imp-is C s, mul-le-mul_right C (ceil-gt (s / T) s k), suc-mul (s / T) C)
        | no k ↦ omega (arith, imp-is C s, mul-le-mul_right C (div_mono {s = s} {z = s + (T - 1)} (omega arith)))
      ]

  -- At s = T exactly one job is charged by either rule, of C within the period
  pub imp-period : (C : ℕ) → imp T C T ≡ C
  imp-period C =
      let e : 1 * T + 0 ≡ T = omega arith in
      omega (arith, imp-at C 1 0 h, ap (imp T C) e)

  pub rel-period : (C : ℕ) → rel T C T ≡ C
  rel-period C =
      let e : 0 + T ≡ T = omega arith in
      omega (arith, rel-add C 0, rel-zero T C, ap (rel T C) e)

  -- one tick beyond the period the second job is released whole, and one tick of it can have run
  pub rel-beyond : (C : ℕ) → rel T C (1 + T) ≡ C + C
  unfolding rel
  rel-beyond C =
      let first : ceil 1 T ≡ 1 = omega (arith, ceil-gt 0 1 (omega arith), ceil-le 1 1 (omega arith)) in
      omega (arith, rel-add C 1, ap (λ (x : ℕ). x * C) first)

  pub imp-beyond : (C : ℕ) → 0 < C → 1 < T → imp T C (1 + T) ≡ C + 1
  imp-beyond C c t =
      let e : 0 * T + 1 ≡ 1 = omega arith in
      omega (arith, imp-add C 1, imp-at C 0 1 t, ap (imp T C) e)
