-- The order of the walk: modes of u where a has C > 0, ascending, and in each the candidates in image order, and for each
-- of them its jobs upward.
use Rattle.std.specs.Prelude.{◌≡◌, refl, ℕ, zero, suc, ◌<◌}
use mathlib.Core.List.{List, [], ◌∷◌, ◌++◌, map, filter}
use Rattle.std.proofs.Math.Decide.{dec_le, ℕ_discrete}
use Rattle.table.specs.Table.{Table, modes, tasks}
use Rattle.table.specs.Sample.{plain, task, transaction, table}
use Rattle.table.specs.Computing.{computing as tables}
use Rattle.analysis.specs.Rival.{urgent?, runs?, rival?, candidate?}

-- k, k + 1, .., k + n − 1
unfoldable pub from : (k n : ℕ) → List ℕ
from k zero = []
from k (suc n) = k ∷ from (suc k) n

-- one turn of the walk
pub record Turn : Type 0 where
  pub mode : ℕ
  pub candidate : ℕ

-- x comes before y: in a mode before y's, or in the same mode with a candidate before y's in image order
pub data TurnBefore (x y : Turn) : Type 0 where
  mode : x.mode < y.mode → TurnBefore x y
  candidate : x.mode ≡ y.mode → x.candidate < y.candidate → TurnBefore x y

-- a job of one turn, counted from its first: p − p0
pub record Source : Type 0 where
  pub turn : Turn
  pub job : ℕ

-- x comes before y: in a turn before y's, or before y in the same turn
pub data SourceBefore (x y : Source) : Type 0 where
  turn : TurnBefore x.turn y.turn → SourceBefore x y
  job : x.turn ≡ y.turn → x.job < y.job → SourceBefore x y

unfoldable pub running_modes : Table → (u a : ℕ) → List ℕ
running_modes tab u a = filter (λ m. runs? tab u m a) (from 0 (modes tab u))

unfoldable pub candidates : Table → (u a m : ℕ) → List ℕ
candidates tab u a m = filter (candidate? tab u a m) (from 0 (tasks tab u))

-- the turns of these modes
unfoldable pub turns : Table → (u a : ℕ) (ms : List ℕ) → List Turn
turns tab u a [] = []
turns tab u a (m ∷ ms) = map (λ c. record { mode = m; candidate = c }) (candidates tab u a m) ++ turns tab u a ms

unfoldable pub walk_order : Table → (u a : ℕ) → List Turn
walk_order tab u a = turns tab u a (running_modes tab u a)

-- task 0 and its rival as candidates, in image order
pair-order : walk_order (table 4 (transaction 4 1 (plain 1 1 2 20 ∷ plain 0 2 2 20 ∷ []) ∷ [])) 0 0 ≡ record { mode = 0; candidate = 0 } ∷ record { mode = 0; candidate = 1 } ∷ []
unfolding tables dec_le ℕ_discrete urgent? runs? rival? candidate? from running_modes candidates turns walk_order
pair-order = refl

-- task 0 runs in mode 1 only, and the other, with C = 0 there, is no candidate
idle-order : walk_order (table 2 (transaction 2 2 (task 0 0 0 20 2 (0 ∷ 1 ∷ []) ∷ task 0 0 0 20 2 (1 ∷ 0 ∷ []) ∷ []) ∷ [])) 0 0 ≡ record { mode = 1; candidate = 0 } ∷ []
unfolding tables dec_le ℕ_discrete urgent? runs? rival? candidate? from running_modes candidates turns walk_order
idle-order = refl
