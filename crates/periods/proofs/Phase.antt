-- Phases: in 0..T−1, congruent to O − y, and the only such number.
use mathlib.Core.Path.{◌≡◌, ap, sym, ◌∙◌}
use lib.IntN.{ℤ, pos, negsuc, ◌-ℤ◌}
use Prim.Native.Nat.{ℕ, suc, ◌+◌, ◌*◌, ◌-◌, ◌/◌, ◌%◌, ◌≤◌, ◌<◌}
use native.Mathlib.Nat.{mod-lt, mod-add-mod, add-mod-mod, add-mul-mod_self_right, div-add-mod', suc-mul, add-mod_right}
use native.Mathlib.Omega.{arith}
use lib.Arith.{digits_div}
use Rattle.periods.specs.Phase.{remainder, ceil, phase, held}
use Rattle.periods.proofs.Difference.{Diff, sub-diff}
use Rattle.periods.proofs.Congruence.{mod-inj}

pub remainder-lt : {T : ℕ} (z : ℤ) → 0 < T → remainder z T < T
unfolding remainder
remainder-lt (pos n) h = mod-lt n h
remainder-lt (negsuc n) h = omega arith

-- z = a − b leaves the remainder that a leaves when b is taken away
pub remainder-spec : {T : ℕ} (z : ℤ) (a b : ℕ) → 0 < T → Diff z a b → (remainder z T + b) % T ≡ a % T
unfolding remainder
remainder-spec {T} (pos n) a b h d = mod-add-mod n T b ∙ ap (λ (x : ℕ). x % T) d
remainder-spec {T} (negsuc n) a b h d =
    let r : n % T < T = mod-lt n h in
    let whole : T - suc (n % T) + b ≡ a + suc (n / T) * T = omega (arith, div-add-mod' n T, suc-mul (n / T) T) in
    ap (λ (x : ℕ). x % T) whole ∙ add-mul-mod_self_right a (suc (n / T)) T

module _ {T : ℕ} (h : 0 < T) where
  pub phase-lt : (O y : ℕ) → phase T O y < T
  unfolding phase
  phase-lt O y = remainder-lt (pos O -ℤ pos y) h

  pub phase-spec : (O y : ℕ) → (phase T O y + y) % T ≡ O % T
  unfolding phase
  phase-spec O y = remainder-spec (pos O -ℤ pos y) O y h (sub-diff O y)

  pub phase-unique : (O y x : ℕ) → x < T → (x + y) % T ≡ O % T → phase T O y ≡ x
  phase-unique O y x l e = mod-inj y (phase-lt O y) l (phase-spec O y ∙ sym e)

  -- the phase counted from another instant, where it does not pass the period, and where it does
  phase-from : (O y x v : ℕ) → v + phase T y x ≡ phase T O x → (v + y) % T ≡ O % T
  phase-from O y x v e =
      sym (add-mod-mod v y T)
      ∙ ap (λ (z : ℕ). (v + z) % T) (sym (phase-spec y x))
      ∙ add-mod-mod v (phase T y x + x) T
      ∙ ap (λ (z : ℕ). z % T) (omega arith)
      ∙ phase-spec O x

  pub slide-back : (O y x : ℕ) → phase T y x ≤ phase T O x → phase T O y + phase T y x ≡ phase T O x
  slide-back O y x l =
      let small : phase T O x < T = phase-lt O x in
      let back : phase T O x - phase T y x + phase T y x ≡ phase T O x = omega arith in
      let u = phase-unique O y (phase T O x - phase T y x) (omega arith) (phase-from O y x (phase T O x - phase T y x) back) in
      omega arith

  pub slide-wrap : (O y x : ℕ) → phase T O x < phase T y x → phase T O y + phase T y x ≡ phase T O x + T
  slide-wrap O y x l =
      let small : phase T y x < T = phase-lt y x in
      let v : ℕ = phase T O x + T - phase T y x in
      let e : (v + y) % T ≡ O % T =
      sym (add-mod-mod v y T)
      ∙ ap (λ (z : ℕ). (v + z) % T) (sym (phase-spec y x))
      ∙ add-mod-mod v (phase T y x + x) T
      ∙ ap (λ (z : ℕ). z % T) (omega arith)
      ∙ add-mod_right (phase T O x + x) T
      ∙ phase-spec O x in
      let u = phase-unique O y v (omega arith) e in
      omega arith

  -- The candidate itself: its jitter and its phase together are whole periods
  pub self-held : (O J : ℕ) → J + phase T O (O + J) ≡ held T J (phase T O (O + J)) * T
  unfolding held
  self-held O J =
      let F : ℕ = phase T O (O + J) in
      let none : (J + F) % T ≡ 0 = mod-inj O (mod-lt (J + F) h) h (mod-add-mod (J + F) T O ∙ ap (λ (x : ℕ). x % T) (omega arith) ∙ phase-spec O (O + J) ∙ ap (λ (x : ℕ). x % T) (omega arith)) in
      omega (arith, div-add-mod' (J + F) T)

  -- so its held-back count is J / T rounded up
  pub self-held-is : (O J : ℕ) → held T J (phase T O (O + J)) ≡ ceil J T
  unfolding ceil
  self-held-is O J =
      let F : ℕ = phase T O (O + J) in
      let small : F < T = phase-lt O (O + J) in
      let k : ℕ = held T J F in
      let e : J + (T - 1) ≡ k * T + (T - 1 - F) = omega (arith, self-held O J) in
      sym (ap (λ (x : ℕ). x / T) e ∙ digits_div k (omega arith))
