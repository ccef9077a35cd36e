-- A phase by the remainders of the offset and of the instant.
use mathlib.Core.Path.{◌≡◌, sym, ap, ◌∙◌}
use Prim.Native.Nat.{ℕ, ◌+◌, ◌-◌, ◌%◌, ◌≤◌, ◌<◌}
use native.Mathlib.Nat.{mod-lt, mod-mod, add-mod-mod, add-mod_right}
use native.Mathlib.Omega.{arith}
use Rattle.periods.specs.Phase.{phase}
use Rattle.periods.proofs.Phase.{phase-unique}

-- where the remainder of the instant is at most that of the offset, and where it is greater
module _ {T : ℕ} (h : 0 < T) (O y : ℕ) where
  pub phase-ahead : y % T ≤ O % T → O % T - y % T ≡ phase T O y
  phase-ahead l =
      let x : ℕ = O % T - y % T in
      let back : x + y % T ≡ O % T = omega arith in
      let same : (x + y) % T ≡ O % T = sym (add-mod-mod x y T) ∙ ap (λ (z : ℕ). z % T) back ∙ mod-mod O T in
      sym (phase-unique h O y x (omega (arith, mod-lt O h)) same)

  pub phase-behind : O % T < y % T → O % T + (T - y % T) ≡ phase T O y
  phase-behind l =
      let x : ℕ = O % T + (T - y % T) in
      let small : y % T < T = mod-lt y h in
      let back : x + y % T ≡ O % T + T = omega arith in
      let same : (x + y) % T ≡ O % T =
      sym (add-mod-mod x y T) ∙ ap (λ (z : ℕ). z % T) back ∙ add-mod_right (O % T) T ∙ mod-mod O T in
      sym (phase-unique h O y x (omega arith) same)
