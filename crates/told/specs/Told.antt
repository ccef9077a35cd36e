-- What the library tells its callers: the cells of every task of an accepted image, or a refusal; and the C host's number.
use Rattle.std.specs.Prelude.{◌≡◌, List, ◌++◌, ℕ, ◌+◌, ◌*◌, ◌^◌, ◌≤◌, ◌<◌, length, drop, Result, Ok}
use Rattle.table.specs.Table.{Table, IsTask, deadline}
use Rattle.table.specs.Number.{in_all, number}
use Rattle.table.specs.Lists.{joined}
use Rattle.refusals.specs.declared.Refusal.{Refusal}
use Rattle.refusals.specs.declared.Refusal.TheVariants.{NoRoom, NoTask}
use Rattle.refusals.specs.declared.Fault.{Fault}
use Rattle.refusals.specs.Answer as said
use Rattle.refusals.specs.Answer.{refusal_number, number_of, place_of}
use Rattle.format.specs.Fault.{image_fault, IsAccepted}
use Rattle.format.specs.Said.{table_in}
use Rattle.analysis.specs.Answer.{Named, Answer, bound, Cells, cells, Answers}
use Rattle.analysis.specs.Bound.{Tight}
use Rattle.runs.specs.Promise.{Safe}
use Rattle.told.specs.declared.Filled.{Filled}
use Rattle.told.specs.Cells.{cells_of_task, listed}

-- what became of the lent cells: so many tasks have theirs, or they are refused
abbrev pub Filling : Type 0
Filling = Result Filled Fault

abbrev pub filled : ℕ → Filling
filled tasks = Ok (record { tasks = tasks })

-- document 01's number and place for each answer
abbrev pub filled_case : Filled → ℕ
filled_case f = 0

abbrev pub filled_number : Filling → ℕ
filled_number r = number_of r

abbrev pub filled_place : Filling → ℕ
filled_place r = place_of filled_case r

-- c is what task a of u is owed: document 01's answer under the budget, and where that is a bound, demand 3 of it
pub record Owed (tab : Table) (u a budget : ℕ) (c : Cells) : Type 0 where
  pub answer : Answer
  pub answers : Answers tab u a budget answer
  pub is : c ≡ cells (deadline tab u a) answer
  pub safe : (R n : ℕ) (by : Named) → answer ≡ bound R n by → Safe tab u a R
  pub tight : (R n : ℕ) (by : Named) → answer ≡ bound R n by → Tight tab u a R

-- c is what the task with number k is owed
pub record OwedAt (tab : Table) (k budget : ℕ) (c : Cells) : Type 0 where
  pub u : ℕ
  pub a : ℕ
  pub is_task : IsTask tab u a
  pub numbered : number tab u a ≡ k
  pub owed : Owed tab u a budget c

-- the cells were `before` and are `after`: what each task is owed, in the order of their numbers, and then what was there
pub record Written (tab : Table) (budget : ℕ) (before after : List ℕ) : Type 0 where
  pub room : cells_of_task * in_all tab ≤ length before
  pub told : ℕ → Cells
  pub each : (k : ℕ) → k < in_all tab → OwedAt tab k budget (told k)
  pub is : after ≡ joined (in_all tab) (λ k. listed (told k)) ++ drop (cells_of_task * in_all tab) before

-- FillsFrom tab budget before after r: of that table, with r as the answer, the cells were `before` and are `after`. With
-- fewer cells than the tasks have every cell stays as it was
pub data FillsFrom (tab : Table) (budget : ℕ) (before after : List ℕ) : Filling → Type 0 where
  short : length before < cells_of_task * in_all tab → after ≡ before → FillsFrom tab budget before after (said.refused NoRoom 0)
  done : Written tab budget before after → FillsFrom tab budget before after (filled (in_all tab))

-- Fills image budget before after r: the same of an image. A refusal of the image comes first, and every cell stays as it
-- was
pub data Fills (image : List ℕ) (budget : ℕ) (before after : List ℕ) : Filling → Type 0 where
  refused : {refusal : Refusal} {at : ℕ} → image_fault image ≡ said.refused refusal at → after ≡ before → Fills image budget before after (said.refused refusal at)
  accepted : {r : Filling} → IsAccepted image → FillsFrom (table_in image) budget before after r → Fills image budget before after r

-- every task keeps its deadline: in every legal run each job of it has finished when its deadline has passed since its event
abbrev pub InTime : Table → Type 0
InTime tab = (u a : ℕ) → IsTask tab u a → Safe tab u a (deadline tab u a)

-- code × 2^32 + bound, or number × 2^32 + place
unfoldable pub paired : (upper lower : ℕ) → ℕ
paired upper lower = upper * 2 ^ 32 + lower

-- RespondsFrom tab task budget r: r is the number for that task of the table
pub data RespondsFrom (tab : Table) (task budget : ℕ) : ℕ → Type 0 where
  unknown : in_all tab ≤ task → RespondsFrom tab task budget (paired (refusal_number NoTask) 0)
  told : {c : Cells} → OwedAt tab task budget c → RespondsFrom tab task budget (paired c.code c.bound)

-- Responds image task budget r: r is what the C host gets
pub data Responds (image : List ℕ) (task budget : ℕ) : ℕ → Type 0 where
  refused : {refusal : Refusal} {at : ℕ} → image_fault image ≡ said.refused refusal at → Responds image task budget (paired (refusal_number refusal) at)
  accepted : {r : ℕ} → IsAccepted image → RespondsFrom (table_in image) task budget r → Responds image task budget r
