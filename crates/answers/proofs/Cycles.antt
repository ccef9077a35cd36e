-- What counting cycles at once leaves of an L chain: the chain stays as it is, or goes on k whole cycles later.
use mathlib.Core.Path.{◌≡◌, sym, ap, ap₂, ◌∙◌}
use mathlib.Core.Logic.{inr}
use Prim.Native.Nat.{ℕ, ◌+◌, ◌-◌, ◌*◌, ◌/◌, ◌%◌, ◌≤◌}
use native.Mathlib.Nat.{zero-mul, add-mul, one-mul, div-add-mod'}
use native.Mathlib.Decide.{ℕ_discrete}
use native.Mathlib.Numerals.{add-one}
use native.Mathlib.Omega.{arith}
use Rattle.table.specs.Limits.{horizon}
use Rattle.table.specs.Table.{Table, IsTask}
use Rattle.table.specs.Kept.{Kept}
use Rattle.analysis.specs.Bound.{busy, Setting}
use Rattle.analysis.specs.Overload.{frame_demand}
use Rattle.analysis.specs.Walk.{chain, beyond?}
use Rattle.cycle.specs.Cycle.{Way, next, Cycle, Rounds}
use Rattle.cycle.proofs.Rises.{busy-rounds}
use Rattle.answers.specs.declared.ahead.Ahead.{Ahead}
use Rattle.answers.specs.Ahead.{Met, Follows, WholeFrames, GoesOn}
use Rattle.answers.proofs.Chain.{Left}

-- what goes on so gives what the whole chain gives
pub left-goes : {f : ℕ → ℕ} {budget used x made t : ℕ} {r : Ahead} → Left f beyond? budget used x made t → GoesOn f (budget - made) t r → Left f beyond? budget used x (made + r.evaluations) r.t.0
left-goes {f} {r = r} left goes =
    record {
      within = omega (arith, left.within, goes.within);
      same = ap (λ (b : ℕ). chain f beyond? b r.t.0) (omega arith) ∙ goes.same ∙ left.same;
    }

-- ---- along one cycle

pub way_on : {f : ℕ → ℕ} {D x n y end v : ℕ} → Way f D x n y → Follows f D end y v → Way f D x (n + 1) v
way_on {f} {D} {n = n} {y = y} way follows =
    let value = follows.value in
    rw (value, add-one n) (next way (rw (← value) follows.above) (rw (← value) follows.again))

-- ---- no cycle is counted
pub stays : {f : ℕ → ℕ} (left : ℕ) {t mark : ℕ} → Met t → Met mark → GoesOn f left t (record { t = record { 0 = t }; evaluations = 0; mark = record { 0 = mark } })
stays {f} left {t} h k = record { within = omega arith; same = ap (λ (b : ℕ). chain f beyond? b t) (omega arith); met = h; mark = k }

pub whole-frames : {tab : Table} {F x t : ℕ} → F ≡ tab.frame → x ≤ t → (t - x) % F ≡ 0 → WholeFrames tab x t
whole-frames {tab} {F} {x} {t} e l none =
    record { frames = (t - x) / F; is = omega (arith, div-add-mod' (t - x) F, ap (λ (y : ℕ). (t - x) / F * y) e) }

-- ---- k cycles are: each of them from one t to the next that many frames later
module _ {tab : Table} (kept : Kept tab) {u a : ℕ} (is_task : IsTask tab u a) {m c : ℕ} (setting : Setting tab u a m c) (full : frame_demand tab u a ≡ tab.frame) where
  pub counted :
      {x t n k left H : ℕ}
      → H ≡ horizon
      → Met t
      → WholeFrames tab x t
      → Cycle (busy tab u a m c) (t - x) x n
      → Rounds (t - x) n (H - t) left k
      → GoesOn (busy tab u a m c) left t (record { t = record { 0 = t + k * (t - x) }; evaluations = k * n; mark = record { 0 = t } })
  counted {x} {t} {n} {k} {left} {H} most met frames cycle rounds =
      record { within = rounds.evaluations; same = go (ℕ_discrete n 0); met = (omega arith, omega (arith, rounds.ticks)); mark = met }
    where
      D : ℕ
      D = t - x

      go : Dec (n ≡ 0) → chain (busy tab u a m c) beyond? (left - k * n) (t + k * D) ≡ chain (busy tab u a m c) beyond? left t
      go (yes e) =
          let none : k ≡ 0 = rounds.none (inr e) in
          ap₂ (chain (busy tab u a m c) beyond?) (omega (arith, ap (λ (y : ℕ). y * n) none, zero-mul n)) (omega (arith, ap (λ (y : ℕ). y * D) none, zero-mul D))
      go (no h) =
          let whole : D ≡ frames.frames * tab.frame = omega (arith, frames.is) in
          let here : x + 1 * D ≡ t = omega (arith, frames.is, one-mul D) in
          let there : x + (1 + k) * D ≡ t + k * D = omega (arith, frames.is, add-mul 1 k D, one-mul D) in
          let later = busy-rounds kept is_task setting (λ o. omega arith) frames.frames whole cycle k 1 left rounds.evaluations (omega (arith, rounds.ticks)) in
          ap (chain (busy tab u a m c) beyond? (left - k * n)) (sym there) ∙ sym later ∙ ap (chain (busy tab u a m c) beyond? left) here
