-- A row whose table has one task and one mode in each transaction, and what a test shows.
use Rattle.std.specs.Prelude.{◌≡◌, Bool, true, false, List, ℕ}
use Rattle.row.specs.Row.{table_of, RowOfTable}
use Rattle.table.specs.Table.{Table}
use Rattle.analysis.specs.Rival.{Urgent}
use Rattle.jitter.specs.Plain.{Single}

pub record SingleRow (row : List ℕ) : Type 0 where
  pub table : RowOfTable row
  pub single : Single (table_of row)

-- true where it holds, and false where it does not
abbrev pub Shows : (A : Type 0) → Bool → Type 0
Shows A true = A
Shows A false = ¬ A

-- the task of transaction i is another one than u's, of equal or higher priority
pub record IsRival (tab : Table) (u i : ℕ) : Type 0 where
  pub other : ¬ (i ≡ u)
  pub urgent : Urgent tab u 0 i 0
