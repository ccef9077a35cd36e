-- Rivals and candidates of a task a in transaction u.
use Rattle.std.specs.Prelude.{◌≡◌, ◌⊎◌, ℕ, ◌≤◌, ◌<◌}
use Rattle.std.proofs.Common.{inl, inr}
use Rattle.std.proofs.Math.Decide.{dec_le, ℕ_discrete}
use Rattle.table.specs.Table.{Table, priority, time}

-- priority at least a's
abbrev pub Urgent : Table → (u a i j : ℕ) → Type 0
Urgent tab u a i j = priority tab u a ≤ priority tab i j

-- C > 0 in mode m
abbrev pub Runs : Table → (i m j : ℕ) → Type 0
Runs tab i m j = 0 < time tab i m j

unfoldable pub urgent? : (tab : Table) (u a i j : ℕ) → Dec (Urgent tab u a i j)
urgent? tab u a i j = dec_le _ _

unfoldable pub runs? : (tab : Table) (i m j : ℕ) → Dec (Runs tab i m j)
runs? tab i m j = dec_le _ _

-- Task j of transaction i is a rival in mode m: another task with priority at least a's. A task with C = 0 in a mode is
-- no rival in that mode
pub record Rival (tab : Table) (u a i m j : ℕ) : Type 0 where
  pub other : ¬ ((i ≡ u) × (j ≡ a))
  pub urgent : Urgent tab u a i j
  pub runs : Runs tab i m j

abbrev pub rival_by : {tab : Table} {u a i m j : ℕ} → Dec (Urgent tab u a i j) → Dec (Runs tab i m j) → Dec (i ≡ u) → Dec (j ≡ a) → Dec (Rival tab u a i m j)
rival_by (no h) r d e = no (λ x. h x.urgent)
rival_by (yes h) (no r) d e = no (λ x. r x.runs)
rival_by (yes h) (yes r) (no d) e = yes (record { other = λ b. d b.0; urgent = h; runs = r })
rival_by (yes h) (yes r) (yes d) (no e) = yes (record { other = λ b. e b.1; urgent = h; runs = r })
rival_by (yes h) (yes r) (yes d) (yes e) = no (λ x. x.other (d, e))

unfoldable pub rival? : (tab : Table) (u a i m j : ℕ) → Dec (Rival tab u a i m j)
rival? tab u a i m j = rival_by (urgent? tab u a i j) (runs? tab i m j) (ℕ_discrete i u) (ℕ_discrete j a)

-- A candidate in u: a rival in u or a itself
abbrev pub Candidate : Table → (u a m c : ℕ) → Type 0
Candidate tab u a m c = (c ≡ a) ⊎ Rival tab u a u m c

abbrev pub candidate_by : {tab : Table} {u a m c : ℕ} → Dec (c ≡ a) → Dec (Rival tab u a u m c) → Dec (Candidate tab u a m c)
candidate_by (yes e) r = yes (inl e)
candidate_by (no e) (yes r) = yes (inr r)
candidate_by (no e) (no r) = no (λ x. neither e r x)
  where
    neither : {A B : Type 0} → ¬ A → ¬ B → A ⊎ B → ⊥
    neither f g (inl x) = f x
    neither f g (inr y) = g y

unfoldable pub candidate? : (tab : Table) (u a m c : ℕ) → Dec (Candidate tab u a m c)
candidate? tab u a m c = candidate_by (ℕ_discrete c a) (rival? tab u a u m c)
