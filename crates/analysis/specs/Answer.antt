-- A task's answer, its cells, and when each answer is the right one.
use Rattle.std.specs.Prelude.{ℕ, ◌≤◌, ◌<◌}
use Rattle.std.proofs.Math.Decide.{dec_le}
use Rattle.table.specs.Table.{Table}
use Rattle.table.specs.Number.{number}
use Rattle.periods.specs.Charge.{imposed}
use Rattle.analysis.specs.Overload.{Overload}
use Rattle.analysis.specs.Order.{Source, walk_order}
use Rattle.analysis.specs.Needed.{Needed, Outcome, bounded, past_horizon}
use Rattle.analysis.specs.Who.{BoundBy}

-- who gave a bound, as a caller is told: the mode, the candidate's number in the whole table, and p − p0
pub record Named : Type 0 where
  pub mode : ℕ
  pub candidate : ℕ
  pub job : ℕ

unfoldable pub named : Table → (u : ℕ) → Source → Named
named tab u x =
    record { mode = x.turn.mode; candidate = number tab u x.turn.candidate; job = x.job }

pub data Answer : Type 0 where
  bound : (R evaluations : ℕ) (by : Named) → Answer
  overload : Answer
  beyond : (evaluations : ℕ) → Answer
  spent : (evaluations : ℕ) → Answer

pub record Cells : Type 0 where
  pub code : ℕ
  pub bound : ℕ
  pub evaluations : ℕ
  pub mode : ℕ
  pub candidate : ℕ
  pub job : ℕ

-- 0 where the bound keeps the deadline, else 20
unfoldable pub code_by : {A : Type 0} → Dec A → ℕ
code_by (yes h) = 0
code_by (no h) = 20

-- without a bound: all but the code and the evaluations are 0
abbrev pub unbounded : (code evaluations : ℕ) → Cells
unbounded code n = record { code = code; bound = 0; evaluations = n; mode = 0; candidate = 0; job = 0 }

-- The cells of a task with deadline D
unfoldable pub cells : (D : ℕ) → Answer → Cells
cells D (bound R n x) =
    record {
      code = code_by (dec_le R D);
      bound = R;
      evaluations = n;
      mode = x.mode;
      candidate = x.candidate;
      job = x.job;
    }
cells D overload = unbounded 21 0
cells D (beyond n) = unbounded 22 n
cells D (spent n) = unbounded 23 n

-- Answers tab u a budget x: x is the answer of document 01. On overload no evaluation is made; budget spent exactly when
-- more evaluations are needed than the budget has
pub data Answers (tab : Table) (u a budget : ℕ) : Answer → Type 0 where
  overloaded : Overload tab u a → Answers tab u a budget overload
  short : {n : ℕ} {o : Outcome} → ¬ (Overload tab u a) → Needed tab u a (walk_order tab u a) n o → budget < n → Answers tab u a budget (spent budget)
  past : {n : ℕ} → ¬ (Overload tab u a) → Needed tab u a (walk_order tab u a) n past_horizon → n ≤ budget → Answers tab u a budget (beyond n)
  kept : {n R : ℕ} {x : Source} → ¬ (Overload tab u a) → Needed tab u a (walk_order tab u a) n bounded → n ≤ budget → BoundBy imposed tab u a R x → Answers tab u a budget (bound R n (named tab u x))
