-- A greater budget changes nothing but an answer that the budget was spent: of the definitions, and of the walk.
use mathlib.Core.Path.{◌≡◌, refl, subst}
use Prim.Native.Nat.{ℕ, ◌≤◌, ◌<◌}
use native.Mathlib.Nat.{le_trans}
use native.Mathlib.Omega.{arith}
use Rattle.table.specs.Table.{Table, IsTask}
use Rattle.table.specs.Kept.{Kept}
use Rattle.analysis.specs.Charge.{Later}
use Rattle.analysis.specs.Answer.{Answer, spent, cells, Answers}
use Rattle.analysis.specs.Walk.{answer}
use Rattle.analysis.proofs.Charges.{Fair}
use Rattle.analysis.proofs.Answer.{needed-unique, Walks, overloaded, short, past, kept, walks-answer, answer-walks}

module _ {tab : Table} {u a b d : ℕ} where
  -- any other answer is the answer under the greater budget too
  pub answers-greater : b ≤ d → {x : Answer} → Answers tab u a b x → ((n : ℕ) → ¬ (x ≡ spent n)) → Answers tab u a d x
  answers-greater l (Answers.overloaded h) other = Answers.overloaded h
  answers-greater l (Answers.short free needed h) other = absurd (other b refl)
  answers-greater l (Answers.past free needed h) other = Answers.past free needed (le_trans h l)
  answers-greater l (Answers.kept free needed h x) other = Answers.kept free needed (le_trans h l) x

  -- and where the budget was spent, the answer under the greater one takes more evaluations: it is no overload, and a bound or
  -- an end past the horizon only if it needs them
  pub answers-spent : b < d → (D : ℕ) {n : ℕ} {x : Answer} → Answers tab u a b (spent n) → Answers tab u a d x → b < (cells D x).evaluations
  unfolding cells
  answers-spent l D (Answers.short free needed h) (Answers.overloaded o) = absurd (free o)
  answers-spent l D (Answers.short free needed h) (Answers.short same more k) = l
  answers-spent l D (Answers.short free needed h) (Answers.past same more k) = omega (arith, (needed-unique needed more).0)
  answers-spent l D (Answers.short free needed h) (Answers.kept same more k x) = omega (arith, (needed-unique needed more).0)

pub greater-budget : {later : Later} → Fair later → {tab : Table} → Kept tab → {u a : ℕ} → IsTask tab u a → {b d : ℕ} → b ≤ d → {x : Answer} → answer later tab u a b ≡ x → ((n : ℕ) → ¬ (x ≡ spent n)) → answer later tab u a d ≡ x
greater-budget {later} fair {tab} kept-tab {u} {a} is_task {b} {d} l {x} e other =
    walks-answer later tab u a d (go (subst (Walks later tab u a b) e (answer-walks kept-tab is_task fair b)) other)
  where
    go : {x : Answer} → Walks later tab u a b x → ((n : ℕ) → ¬ (x ≡ spent n)) → Walks later tab u a d x
    go (overloaded h) o = overloaded h
    go (short free turns h) o = absurd (o b refl)
    go (past free turns h) o = past free turns (le_trans h l)
    go (kept free turns h e f) o = kept free turns (le_trans h l) e f
