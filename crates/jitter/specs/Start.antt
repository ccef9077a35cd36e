-- Where a search for the completion may start: at what no completion lies below. How the code gets to the completion; it need not be
-- believed.
use Rattle.std.specs.Prelude.{◌≡◌, refl, [], ◌∷◌, ℕ, ◌+◌, ◌*◌, ◌/◌, ◌≤◌, ◌^◌}
use Rattle.std.proofs.Math.Decide.{ℕ_discrete}
use Rattle.table.specs.Sum.{sum}
use Rattle.table.specs.Table.{Table, transactions, period, time}
use Rattle.analysis.specs.Choice.{when, unless}
use Rattle.analysis.specs.Rival.{urgent?}
use Rattle.jitter.specs.Plain.{Completes, rival_request}
use Rattle.jitter.specs.Cases.{computing, two}

pub record Sound (tab : Table) (u x : ℕ) : Type 0 where
  pub some : 1 ≤ x
  pub below : (s : ℕ) → Completes tab u s → x ≤ s

-- what the task of transaction i, if it counts, demands in one major frame; and all that count
unfoldable pub rival_load : Table → (u i : ℕ) → ℕ
rival_load tab u i = unless (ℕ_discrete i u) (when (urgent? tab u 0 i 0) (tab.frame / period tab i * time tab i 0 0))

unfoldable pub load : Table → (u : ℕ) → ℕ
load tab u = sum (transactions tab) (rival_load tab u)

-- under a task of T 10, C 4 in a frame of 60: 6 jobs of it; and it has none above it
loads : load (two 20 0 0 0 1 1 10 0 0 0 4 2) 0 ∷ load (two 20 0 0 0 1 1 10 0 0 0 4 2) 1 ∷ [] ≡ 24 ∷ 0 ∷ []
unfolding computing rival_load load
loads = refl

-- A line below what the first n tasks request, where they count, from t on: in a major frame's time slope·s + jitters + frame·level at s.
-- It is no steeper than their load, has no more than their jitters allow, and its level is within what they request at t
pub record Line (tab : Table) (u t n slope jitters level : ℕ) : Type 0 where
  pub under : (s : ℕ) → t ≤ s → s * slope + jitters + tab.frame * level ≤ tab.frame * sum n (rival_request tab u s)
  pub steep : slope ≤ sum n (rival_load tab u)
  pub few : jitters ≤ 2 ^ 24 * sum n (rival_load tab u)
  pub flat : level ≤ sum n (rival_request tab u t)
