-- Interference: what the rivals of a task a in transaction u charge by t. `later` is the charge of later jobs, `imposed`
-- or `released` of crate periods.
use Rattle.std.specs.Prelude.{◌≡◌, refl, [], ◌∷◌, ℤ, pos, ◌-ℤ◌, ℕ, ◌+◌, ◌*◌}
use Rattle.std.proofs.Math.Decide.{dec_le, ℕ_discrete}
use Rattle.table.specs.Sum.{sum}
use Rattle.table.specs.Table.{Table, transactions, period, modes, tasks, offset, jitter, time}
use Rattle.table.specs.Computing.{computing as tables}
use Rattle.table.specs.Sample.{S, lone, plain, task, transaction, table}
use Rattle.periods.specs.Phase.{remainder, ceil, phase, held}
use Rattle.periods.specs.Charge.{imposed, released}
use Rattle.analysis.specs.Choice.{when, unless, most}
use Rattle.analysis.specs.Rival.{urgent?, runs?, rival?}

-- the charge of jobs after the instant, by period, time and s = t − phase
abbrev pub Later : Type 0
Later = (T C : ℕ) (s : ℤ) → ℕ

-- Phase of task j when candidate c sets the critical instant
unfoldable pub phase_of : Table → (i c j : ℕ) → ℕ
phase_of tab i c j = phase (period tab i) (offset tab i j) (offset tab i c + jitter tab i c)

-- Jobs of task j held back to the instant
unfoldable pub held_of : Table → (i c j : ℕ) → ℕ
held_of tab i c j = held (period tab i) (jitter tab i j) (phase_of tab i c j)

-- One task's charge: the jobs held back, each whole, and the later ones
unfoldable pub task_charge : Later → Table → (i m c t j : ℕ) → ℕ
task_charge later tab i m c t j =
    held_of tab i c j * time tab i m j + later (period tab i) (time tab i m j) (pos t -ℤ pos (phase_of tab i c j))

-- A transaction's charge for (c, mode) sums its rivals
unfoldable pub charge : Later → Table → (u a i m c t : ℕ) → ℕ
charge later tab u a i m c t = sum (tasks tab i) (λ j. when (rival? tab u a i m j) (task_charge later tab i m c t j))

-- The greatest charge of another transaction over its modes and its rivals as candidates, or 0 if it has none
unfoldable pub greatest : Later → Table → (u a i t : ℕ) → ℕ
greatest later tab u a i t =
    most (modes tab i) (λ m. most (tasks tab i) (λ c. when (rival? tab u a i m c) (charge later tab u a i m c t)))

-- The charges of all other transactions than u
unfoldable pub others : Later → Table → (u a t : ℕ) → ℕ
others later tab u a t = sum (transactions tab) (λ i. unless (ℕ_discrete i u) (greatest later tab u a i t))

-- The rivals' charges: in u for the given mode and candidate, elsewhere the greatest
unfoldable pub rivals : Later → Table → (u a m c t : ℕ) → ℕ
rivals later tab u a m c t = charge later tab u a u m c t + others later tab u a t

-- One name that opens the definitions so far, so that what is stated of a given table computes
unfoldable pub charging : Unit {0}
unfolding tables dec_le ℕ_discrete remainder ceil phase held imposed released when unless most urgent? runs? rival? phase_of held_of task_charge charge greatest others rivals
charging = tt

-- S: tasks 0 and 1 seen from task 0, and from task 1
S-phases : phase_of S 0 0 0 ∷ phase_of S 0 0 1 ∷ phase_of S 0 1 0 ∷ phase_of S 0 1 1 ∷ [] ≡ 0 ∷ 4 ∷ 16 ∷ 0 ∷ []
unfolding charging
S-phases = refl

-- one task, T 10, C 2, J 12: phase 8, held back twice
queue : phase_of (lone 10 (task 0 12 0 20 1 (2 ∷ []))) 0 0 0 ∷ held_of (lone 10 (task 0 12 0 20 1 (2 ∷ []))) 0 0 0 ∷ [] ≡ 8 ∷ 2 ∷ []
unfolding charging
queue = refl

-- S, for task 2 at t = 5: task 0 as candidate charges 2 + 1 imposed, 2 + 3 released; task 1 charges 3
S-charges : charge imposed S 1 0 0 0 0 5 ∷ charge released S 1 0 0 0 0 5 ∷ charge imposed S 1 0 0 0 1 5 ∷ [] ≡ 3 ∷ 5 ∷ 3 ∷ []
unfolding charging
S-charges = refl

S-greatest : greatest imposed S 1 0 0 5 ∷ greatest released S 1 0 0 5 ∷ rivals imposed S 1 0 0 0 5 ∷ [] ≡ 3 ∷ 5 ∷ 3 ∷ []
unfolding charging
S-greatest = refl

-- at t = 3 task 1 as candidate charges more than task 0
S-second : charge imposed S 1 0 0 0 0 3 ∷ charge imposed S 1 0 0 0 1 3 ∷ greatest imposed S 1 0 0 3 ∷ [] ≡ 2 ∷ 3 ∷ 3 ∷ []
unfolding charging
S-second = refl

-- a transaction without rivals charges 0: task 0 has none in transaction 1
no-rivals : greatest released S 0 0 1 10 ≡ 0
unfolding charging
no-rivals = refl

-- the other transaction's second mode charges more than its first
greater-mode : greatest imposed (table 5 (transaction 5 2 (task 1 0 0 20 1 (1 ∷ 2 ∷ []) ∷ []) ∷ transaction 5 1 (plain 0 1 1 20 ∷ []) ∷ [])) 1 0 0 5 ≡ 2
unfolding charging
greater-mode = refl
