-- A function that goes on as it was seen to: where D later it gives D more, it does so k times D later for every k. Then a chain
-- that has gone through one cycle goes through it again, and k cycles are counted at once.
use mathlib.Core.Path.{◌≡◌, ap, ap₂, ◌∙◌}
use Prim.Native.Nat.{ℕ, zero, suc, ◌+◌, ◌-◌, ◌*◌, ◌≤◌}
use native.Mathlib.Nat.{zero-mul, suc-mul}
use native.Mathlib.Omega.{arith}
use Rattle.analysis.specs.Walk.{chain}
use Rattle.analysis.proofs.Chain.{step-on}
use Rattle.cycle.specs.Cycle.{Way, none, next, Cycle}

pub record Steady (f : ℕ → ℕ) (D : ℕ) : Type 0 where
  pub on : (z : ℕ) → f (z + D) ≡ f z + D → (k : ℕ) → f (z + k * D) ≡ f z + k * D

-- The chain of f that ends where a value is over, which none up to H is
module _ {f : ℕ → ℕ} {D : ℕ} (steady : Steady f D) {Over : ℕ → Type 0} (over? : (v : ℕ) → Dec (Over v)) {H : ℕ} (within : (v : ℕ) → v ≤ H → ¬ (Over v)) {x : ℕ} where
  -- k·D later it goes the same way
  way_later : {n y : ℕ} → Way f D x n y → (k left : ℕ) → n ≤ left → y + k * D ≤ H → chain f over? left (x + k * D) ≡ chain f over? (left - n) (y + k * D)
  way_later none k left h l = ap (λ (b : ℕ). chain f over? b (x + k * D)) (omega arith)
  way_later (next {n} {y} way rises again) k left h l =
      let same : f (y + k * D) ≡ f y + k * D = steady.on y again k in
      let more : left - n ≡ suc (left - suc n) = omega arith in
      way_later way k left (omega arith) (omega arith)
      ∙ ap (λ (b : ℕ). chain f over? b (y + k * D)) more
      ∙ step-on f over? (y + k * D) (left - suc n) (λ e. omega arith) (within _ (omega arith))
      ∙ ap (chain f over? (left - suc n)) same

  -- So from its j-th round on it makes k rounds in k·n evaluations
  pub rounds-later : {n : ℕ} → Cycle f D x n → (k j left : ℕ) → k * n ≤ left → x + (j + k) * D ≤ H → chain f over? left (x + j * D) ≡ chain f over? (left - k * n) (x + (j + k) * D)
  rounds-later {n} cycle zero j left h l = ap₂ (chain f over?) (omega (arith, zero-mul n)) (ap (λ (i : ℕ). x + i * D) (omega arith))
  rounds-later {n} cycle (suc k) j left h l =
      let last : j + suc k ≡ suc j + k = omega arith in
      let far : (j + suc k) * D ≡ (suc j + k) * D = ap (λ (i : ℕ). i * D) last in
      way_later cycle j left (omega (arith, suc-mul k n)) (omega arith)
      ∙ ap (chain f over? (left - n)) (omega (arith, suc-mul j D))
      ∙ rounds-later cycle k (suc j) (left - n) (omega (arith, suc-mul k n)) (omega arith)
      ∙ ap₂ (chain f over?) (omega (arith, suc-mul k n)) (omega arith)
