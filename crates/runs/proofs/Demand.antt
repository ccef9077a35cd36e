-- Demand 3, of demand 2's bound: it holds in every legal run, and the whole-job bound is not below it.
use mathlib.Core.Path.{◌≡◌}
use Prim.Native.Nat.{ℕ, ◌+◌, ◌≤◌}
use native.Mathlib.Omega.{arith}
use Rattle.table.specs.Table.{Table, IsTask}
use Rattle.table.specs.Kept.{Kept}
use Rattle.table.proofs.Ranges.{kept-period}
use Rattle.periods.specs.Charge.{imposed}
use Rattle.analysis.specs.Bound.{Bound, Tight}
use Rattle.analysis.specs.Answer.{Named, Answers, bound, kept}
use Rattle.analysis.specs.Walk.{answer}
use Rattle.runs.specs.Run.{Run, Finished, event_tick}
use Rattle.runs.specs.Legal.{Rules, HoldsWidely}
use Rattle.runs.specs.Promise.{Safe}
use Rattle.analysis.proofs.Charges.{imposed-fair}
use Rattle.analysis.proofs.Response.{bounds}
use Rattle.analysis.proofs.Answer.{answer-bound}
use Rattle.analysis.proofs.Whole.{tight}
use Rattle.runs.proofs.Task.{served-le, served-mono}
use Rattle.runs.proofs.Sound.{sound, safe}

-- what has finished stays so: a later tick than the bound will do
pub safe-later : {tab : Table} {u a R D : ℕ} → IsTask tab u a → R ≤ D → Safe tab u a R → Safe tab u a D
safe-later {tab} {u} {a} {R} {D} is_task l safe ρ legal k =
    let by = event_tick tab ρ u k in
    omega (
      arith,
      safe ρ legal k,
      served-le tab ρ legal.rules u a is_task k (by + D),
      served-mono ρ u a k (by + R) (by + D) (omega arith),
    )

module _ {tab : Table} (keeps : Kept tab) {u a : ℕ} (is_task : IsTask tab u a) where
  -- from the holding rule of that task alone, and in the wider reading of 'unbroken stretch'
  pub bound-sound : {R : ℕ} → Bound imposed tab u a R → (ρ : Run) → Rules tab ρ → HoldsWidely tab ρ u a → (k : ℕ) → Finished ρ u a k (event_tick tab ρ u k + R)
  bound-sound {R} b ρ rules holds k =
      sound tab (λ i l. kept-period keeps l) ρ rules u a k R is_task holds (bounds keeps is_task b)

  pub bound-safe : {R : ℕ} → Bound imposed tab u a R → Safe tab u a R
  bound-safe {R} b = safe tab (λ i l. kept-period keeps l) u a R is_task (bounds keeps is_task b)

  -- of the answer that the definitions give
  pub answers-safe : {budget R n : ℕ} {by : Named} → Answers tab u a budget (bound R n by) → Safe tab u a R × Tight tab u a R
  answers-safe (kept o needed l b) = (bound-safe b.bound, tight keeps is_task b.bound)

  -- and of the answer that the walk computes
  pub answer-safe : (budget : ℕ) {R n : ℕ} {by : Named} → answer imposed tab u a budget ≡ bound R n by → Safe tab u a R × Tight tab u a R
  answer-safe budget e =
      let b = answer-bound keeps is_task imposed-fair budget e in
      (bound-safe b, tight keeps is_task b)
