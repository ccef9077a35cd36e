-- Who did it: the bound with the mode, the candidate and the job that give it, and the greatest charge of another transaction with
-- the mode and the candidate that give it. Of several that give the same the first in the order of the walk counts.
use Rattle.std.specs.Prelude.{◌≡◌, refl, [], ◌∷◌, pos, ℕ, zero, suc, ◌<◌}
use Rattle.std.proofs.Math.Decide.{dec_lt}
use Rattle.table.specs.Table.{Table, modes, tasks}
use Rattle.table.specs.Sample.{S, plain, task, transaction, table}
use Rattle.periods.specs.Charge.{imposed, released}
use Rattle.analysis.specs.Rival.{Rival, rival?}
use Rattle.analysis.specs.Charge.{Later, charge, charging}
use Rattle.analysis.specs.Bound.{Setting, Response, Bound}
use Rattle.analysis.specs.Needed.{job}
use Rattle.analysis.specs.Order.{Turn, TurnBefore, Source, SourceBefore}
use Rattle.analysis.specs.First.{First}

-- ---- the bound

-- r is the response of that mode, candidate and job
pub record Responds (later : Later) (tab : Table) (u a : ℕ) (x : Source) (r : ℕ) : Type 0 where
  pub setting : Setting tab u a x.turn.mode x.turn.candidate
  pub response : Response later tab u a x.turn.mode x.turn.candidate (job tab u a x.turn.candidate x.job) (pos r)

-- The bound, and the first mode, candidate and job that give it
pub record BoundBy (later : Later) (tab : Table) (u a R : ℕ) (x : Source) : Type 0 where
  pub bound : Bound later tab u a R
  pub first : First SourceBefore (Responds later tab u a) x R

-- ---- the greatest charge of another transaction

-- r is what transaction i charges by t in that mode for that candidate, which is a rival in it
pub record Charges (later : Later) (tab : Table) (u a i t : ℕ) (x : Turn) (r : ℕ) : Type 0 where
  pub mode : x.mode < modes tab i
  pub place : x.candidate < tasks tab i
  pub rival : Rival tab u a i x.mode x.candidate
  pub is : r ≡ charge later tab u a i x.mode x.candidate t

-- nobody, or a charge with the mode and the candidate that give it
pub data Most : Type 0 where
  nobody : Most
  charged : (r : ℕ) (by : Turn) → Most

-- MostOf Gives y: y is the first that gives the greatest, or nobody where none gives any
pub data MostOf (Gives : Turn → ℕ → Type 0) : Most → Type 0 where
  none : ((x : Turn) (r : ℕ) → ¬ (Gives x r)) → MostOf Gives nobody
  some : {x : Turn} {r : ℕ} → First TurnBefore Gives x r → MostOf Gives (charged r x)

-- The greatest charge of transaction i by t, and who gives it; nobody without rivals
abbrev pub MostCharged : (later : Later) (tab : Table) (u a i t : ℕ) → Most → Type 0
MostCharged later tab u a i t = MostOf (Charges later tab u a i t)

-- the charge alone: 0 for nobody
unfoldable pub amount : Most → ℕ
amount nobody = 0
amount (charged r x) = r

-- ---- computed: the modes in ascending order, in each the tasks in image order

unfoldable pub second_if : {A : Type 0} → Dec A → (x y : Most) → Most
second_if (yes h) x y = y
second_if (no h) x y = x

-- one more rival, only if it charges more; a task that is no rival changes nothing
unfoldable pub most_by : {A : Type 0} → Dec A → (x : Most) (r : ℕ) (by : Turn) → Most
most_by (no h) x r by = x
most_by (yes h) nobody r by = charged r by
most_by (yes h) (charged s first) r by = second_if (dec_lt s r) (charged s first) (charged r by)

-- the first n tasks in mode m, after x
unfoldable pub in_mode : Later → Table → (u a i t m n : ℕ) → Most → Most
in_mode later tab u a i t m zero x = x
in_mode later tab u a i t m (suc n) x =
    most_by (rival? tab u a i m n) (in_mode later tab u a i t m n x) (charge later tab u a i m n t)
    (record { mode = m; candidate = n })

-- the first n modes
unfoldable pub in_modes : Later → Table → (u a i t n : ℕ) → Most
in_modes later tab u a i t zero = nobody
in_modes later tab u a i t (suc m) = in_mode later tab u a i t m (tasks tab i) (in_modes later tab u a i t m)

unfoldable pub most_charged : Later → Table → (u a i t : ℕ) → Most
most_charged later tab u a i t = in_modes later tab u a i t (modes tab i)

-- S, for task 2: at t = 5 tasks 0 and 1 of transaction 0 both charge 3, and task 0 comes first; at t = 3 task 1 charges more, and at
-- t = 0 both charge 0, for there are rivals
S-most :
    most_charged imposed S 1 0 0 5 ∷ most_charged imposed S 1 0 0 3 ∷ most_charged released S 1 0 0 0 ∷ []
    ≡ charged 3 (record { mode = 0; candidate = 0 })
    ∷ charged 3 (record { mode = 0; candidate = 1 })
    ∷ charged 0 (record { mode = 0; candidate = 0 })
    ∷ []
unfolding charging dec_lt second_if most_by in_mode in_modes most_charged
S-most = refl

-- task 0 has no rival in transaction 1
S-nobody : most_charged released S 0 0 1 10 ≡ nobody
unfolding charging dec_lt second_if most_by in_mode in_modes most_charged
S-nobody = refl

-- of equal modes the first; a second mode that charges more
abbrev beside : (C : ℕ) → Table
beside C = table 5 (transaction 5 2 (task 1 0 0 20 1 (2 ∷ C ∷ []) ∷ []) ∷ transaction 5 1 (plain 0 1 1 20 ∷ []) ∷ [])

modes-most :
    most_charged imposed (beside 2) 1 0 0 5 ∷ most_charged imposed (beside 3) 1 0 0 5 ∷ []
    ≡ charged 2 (record { mode = 0; candidate = 0 }) ∷ charged 3 (record { mode = 1; candidate = 0 }) ∷ []
unfolding charging dec_lt second_if most_by in_mode in_modes most_charged
modes-most = refl
