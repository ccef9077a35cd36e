-- The definitions computed at document 01's sample S.
use Rattle.std.specs.Prelude.{◌≡◌, refl, [], ◌∷◌}
use Rattle.table.specs.Table.{
  transactions,
  period,
  modes,
  tasks,
  offset,
  jitter,
  blocking,
  deadline,
  priority,
  time,
}
use Rattle.table.specs.Number.{before, in_all, number}
use Rattle.table.specs.Computing.{computing}
use Rattle.table.specs.Sample.{S, lone, task}

counts : transactions S ∷ tasks S 0 ∷ tasks S 1 ∷ modes S 0 ∷ period S 1 ∷ [] ≡ 2 ∷ 2 ∷ 1 ∷ 1 ∷ 20 ∷ []
unfolding computing
counts = refl

-- task 1 of transaction 0: offset 4, C 3, P 8, D 10
second-task : offset S 0 1 ∷ time S 0 0 1 ∷ priority S 0 1 ∷ deadline S 0 1 ∷ [] ≡ 4 ∷ 3 ∷ 8 ∷ 10 ∷ []
unfolding computing
second-task = refl

-- jitter and blocking stand each in its own place
delays : jitter (lone 10 (task 1 2 3 4 5 (6 ∷ []))) 0 0 ∷ blocking (lone 10 (task 1 2 3 4 5 (6 ∷ []))) 0 0 ∷ [] ≡ 2 ∷ 3 ∷ []
unfolding computing
delays = refl

-- tasks 0 and 1 are transaction 0's, task 2 is transaction 1's
numbers : number S 0 0 ∷ number S 0 1 ∷ number S 1 0 ∷ before S 1 ∷ in_all S ∷ [] ≡ 0 ∷ 1 ∷ 2 ∷ 2 ∷ 3 ∷ []
unfolding computing
numbers = refl
