-- What the search for a completion finds, and what a pass over the rivals does.
use Rattle.std.specs.Prelude.{◌≡◌, ℕ, ◌≤◌, Option, Some, None}
use Rattle.table.specs.Sum.{sum}
use Rattle.table.specs.Table.{Table}
use Rattle.table.specs.Limits.{horizon}
use Rattle.jitter.specs.Plain.{rival_request, Completion, Never}
use Rattle.jitter.specs.Start.{Line}
use Rattle.beside.specs.declared.completion.Pass.{Pass}

pub record IsPass (tab : Table) (u t n : ℕ) (seen : Pass) : Type 0 where
  pub all : seen.all ≡ sum n (rival_request tab u t)
  pub line : Line tab u t n seen.slope seen.jitters seen.level

pub data Finds (tab : Table) (u : ℕ) : Option ℕ → Type 0 where
  found : {t : ℕ} → Completion tab u t → t ≤ horizon → Finds tab u (Some t)
  nothing : Never tab u → Finds tab u None
