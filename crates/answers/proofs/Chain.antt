-- A chain with a budget as the loop of the code makes it: what is left of it gives what the whole gives, and its end in the
-- code's own types.
use mathlib.Core.Path.{◌≡◌, refl, sym, ap, ◌∙◌}
use Prim.Native.Nat.{ℕ, zero, suc, ◌+◌, ◌-◌, ◌≤◌, ◌<◌}
use native.Mathlib.Decide.{ℕ_discrete}
use native.Mathlib.Omega.{arith}
use Rattle.analysis.specs.Chain.{came, over, back, past}
use Rattle.analysis.specs.Walk as walk
use Rattle.analysis.specs.Walk.{ended, chain}
use Rattle.analysis.proofs.Chain.{step-on, chain-enough}
use Rattle.std.specs.Prelude.{Result, Ok, Err}
use Rattle.answers.specs.declared.chains.Came.{Came}
use Rattle.answers.specs.declared.chains.Stopped.{Stopped}
use Rattle.answers.specs.declared.chains.Stopped.TheVariants.{Past, Short}
use Rattle.answers.specs.Turn.{stopped}

-- what holds of where t came back, with evaluations within the budget
abbrev pub Comes : ℕ → (ℕ → Type 0) → Result Came Stopped → Type 0
Comes budget Has (Ok x) = Has x.t.0 × (x.used ≤ budget)
Comes budget Has (Err e) = Unit {0}

-- what is left is at most that
abbrev pub Keeps : ℕ → walk.Stop → Type 0
Keeps left (ended e l) = l ≤ left
Keeps left walk.Stop.short = Unit {0}

module _ (f : ℕ → ℕ) {Passed : ℕ → Type 0} (over? : (v : ℕ) → Dec (Passed v)) where
  -- after `made` of the budget, at t, the chain goes on as it does from x after `used`
  pub record Left (budget used x made t : ℕ) : Type 0 where
    pub within : made ≤ budget
    pub same : chain f over? (budget - made) t ≡ chain f over? (budget - used) x

  pub left-all : {budget used : ℕ} (x : ℕ) → used ≤ budget → Left budget used x used x
  left-all x h = record { within = h; same = refl }

  module _ {budget used x made t : ℕ} (left : Left budget used x made t) where
    pub left-came : made < budget → f t ≡ t → Ok (record { t = record { 0 = t }; used = made + 1 }) ≡ stopped budget (chain f over? (budget - used) x)
    unfolding stopped
    left-came l e =
        let s : chain f over? (budget - used) x ≡ ended (came t) (budget - made - 1) = sym left.same ∙ chain-enough f over? (back e) (budget - made) (omega arith) in
        rw s (ap (λ (n : ℕ). Ok (record { t = record { 0 = t }; used = n })) (omega arith))

    pub left_over : made < budget → ¬ (f t ≡ t) → Passed (f t) → Err (Past (made + 1)) ≡ stopped budget (chain f over? (budget - used) x)
    unfolding stopped
    left_over l n o =
        let s : chain f over? (budget - used) x ≡ ended over (budget - made - 1) = sym left.same ∙ chain-enough f over? (past n o) (budget - made) (omega arith) in
        rw s (ap (λ (n : ℕ). Err (Past n)) (omega arith))

    pub left-on : {v : ℕ} → v ≡ f t → made < budget → ¬ (v ≡ t) → ¬ (Passed v) → Left budget used x (made + 1) v
    left-on {v} value l n o =
        let more : budget - made ≡ suc (budget - (made + 1)) = omega arith in
        let step : chain f over? (suc (budget - (made + 1))) t ≡ chain f over? (budget - (made + 1)) v = rw value (step-on f over? t (budget - (made + 1)) (rw (← value) n) (rw (← value) o)) in
        record { within = omega arith; same = sym step ∙ ap (λ (k : ℕ). chain f over? k t) (sym more) ∙ left.same }

    pub left-none : budget ≤ made → Err Short ≡ stopped budget (chain f over? (budget - used) x)
    unfolding stopped chain
    left-none l =
        let none : budget - made ≡ 0 = omega arith in
        let s : chain f over? (budget - used) x ≡ walk.Stop.short = sym left.same ∙ ap (λ (k : ℕ). chain f over? k t) none in
        rw s refl

  -- ---- where it came back

  -- what holds of the start and of each value after one of which it holds, holds where t came back
  pub chain-comes : (budget : ℕ) {Has : ℕ → Type 0} → ((t : ℕ) → Has t → ¬ (Passed (f t)) → Has (f t)) → (left t : ℕ) → Has t → Comes budget (λ w. Has w × (f w ≡ w)) (stopped budget (chain f over? left t))
  unfolding chain stopped
  chain-comes budget {Has} on zero t h = tt
  chain-comes budget {Has} on (suc left) t h = go (ℕ_discrete (f t) t) (over? (f t)) (λ o. chain-comes budget on left (f t) (on t h o))
    where
      go : (d : Dec (f t ≡ t)) (p : Dec (Passed (f t))) → (¬ (Passed (f t)) → Comes budget (λ w. Has w × (f w ≡ w)) (stopped budget (chain f over? left (f t)))) → Comes budget (λ w. Has w × (f w ≡ w)) (stopped budget (elim d [ yes e ↦ ended (came t) left | no g ↦ elim p [ yes q ↦ ended over left | no q ↦ chain f over? left (f t) ] ]))
      go (yes e) p rest = ((h, e), omega arith)
      go (no g) (yes q) rest = tt
      go (no g) (no q) rest = rest q

  -- ---- what is left is no more than there was

  pub chain-keeps : (most left t : ℕ) → left ≤ most → Keeps most (chain f over? left t)
  unfolding chain
  chain-keeps most zero t h = tt
  chain-keeps most (suc left) t h = go (ℕ_discrete (f t) t) (over? (f t)) (chain-keeps most left (f t) (omega arith))
    where
      go : (d : Dec (f t ≡ t)) (p : Dec (Passed (f t))) → Keeps most (chain f over? left (f t)) → Keeps most (elim d [ yes e ↦ ended (came t) left | no g ↦ elim p [ yes q ↦ ended over left | no q ↦ chain f over? left (f t) ] ])
      go (yes e) p rest = omega arith
      go (no g) (yes q) rest = omega arith
      go (no g) (no q) rest = rest
