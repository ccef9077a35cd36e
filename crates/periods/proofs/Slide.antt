-- The critical instant slides to a candidate: of one task, the charge counted from the later instant is not below that
-- counted from the earlier one. The jobs that become ready between the two are held back to the later instant.
use mathlib.Core.Path.{◌≡◌, ap, sym, ◌∙◌}
use mathlib.Core.Logic.{◌⊎◌, inl, inr}
use Prim.Native.Nat.{ℕ, suc, ◌+◌, ◌*◌, ◌-◌, ◌/◌, ◌%◌, ◌≤◌, ◌<◌}
use native.Mathlib.Nat.{mod-lt, mod-add-mod, add-mod-mod, div-add-mod', suc-mul, mul-le-mul_right, le-div_iff_mul-le}
use native.Mathlib.Decide.{dec_lt}
use native.Mathlib.Omega.{arith}
use Rattle.periods.specs.Phase.{phase, held}
use Rattle.periods.proofs.Phase.{phase-spec, phase-unique, slide-back, slide-wrap}

-- The phase falls from φ to φ' and no job is lost, or it wraps and one job more is held back
abbrev pub Slid : (T J φ φ' : ℕ) → Type 0
Slid T J φ φ' = ((φ' ≤ φ) × (held T J φ ≤ held T J φ')) ⊎ ((φ' ≤ φ + T) × (held T J φ < held T J φ'))

module _ {T : ℕ} (h : 0 < T) where
  -- what is left of J + phase after whole periods is where the task's last held-back job becomes ready
  ready-phase : (O J x : ℕ) → (J + phase T O x) % T ≡ phase T (O + J) x
  ready-phase O J x =
      let φ : ℕ = phase T O x in
      sym
      (phase-unique h (O + J) x ((J + φ) % T) (mod-lt (J + φ) h)
      (mod-add-mod (J + φ) T x
      ∙ ap (λ (z : ℕ). z % T) (omega arith)
      ∙ sym (add-mod-mod J (φ + x) T)
      ∙ ap (λ (z : ℕ). (J + z) % T) (phase-spec h O x)
      ∙ add-mod-mod J O T
      ∙ ap (λ (z : ℕ). z % T) (omega arith)))

  -- from x the instant slides to y, at which no job of the task has become ready since x
  pub slide : (O J x y : ℕ) → phase T y x ≤ phase T (O + J) x → Slid T J (phase T O x) (phase T O y)
  unfolding held
  slide O J x y l =
      let φ : ℕ = phase T O x in
      let φ' : ℕ = phase T O y in
      let d : ℕ = phase T y x in
      let q : ℕ = (J + φ) / T in
      let whole : q * T + phase T (O + J) x ≡ J + φ = omega (arith, div-add-mod' (J + φ) T, ready-phase O J x) in
      elim (dec_lt φ d) [
        | no b ↦
            let e : φ' + d ≡ φ = slide-back h O y x (omega arith) in
            inl (omega arith, (le-div_iff_mul-le h).1 (omega arith))
        | yes b ↦
            let e : φ' + d ≡ φ + T = slide-wrap h O y x b in
            inr (omega arith, (le-div_iff_mul-le h).1 (omega (arith, suc-mul q T)))
      ]

-- A charge g of later jobs that never falls, and rises by C with each period
pub slide-charge : (T J C φ φ' t : ℕ) (g : ℕ → ℕ) → ((s z : ℕ) → s ≤ z → g s ≤ g z) → ((s : ℕ) → g (s + T) ≡ g s + C) → Slid T J φ φ' → held T J φ * C + g (t - φ) ≤ held T J φ' * C + g (t - φ')
slide-charge T J C φ φ' t g mono add (inl s) =
    let more : held T J φ * C ≤ held T J φ' * C = mul-le-mul_right C s.1 in
    let later : g (t - φ) ≤ g (t - φ') = mono (t - φ) (t - φ') (omega (arith, s.0)) in
    omega arith
slide-charge T J C φ φ' t g mono add (inr s) =
    let more : suc (held T J φ) * C ≤ held T J φ' * C = mul-le-mul_right C s.1 in
    let later : g (t - φ) ≤ g (t - φ' + T) = mono (t - φ) (t - φ' + T) (omega (arith, s.0)) in
    omega (arith, suc-mul (held T J φ) C, add (t - φ'))

-- the task's own jobs: a job counted from the first held-back one arrives no later
pub slide-own : (T J φ φ' : ℕ) → Slid T J φ φ' → φ' + held T J φ * T ≤ φ + held T J φ' * T
slide-own T J φ φ' (inl s) = omega (arith, s.0, mul-le-mul_right T s.1)
slide-own T J φ φ' (inr s) = omega (arith, s.0, mul-le-mul_right T s.1, suc-mul (held T J φ) T)
