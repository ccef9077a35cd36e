-- What readers of a subject's work cells see of them: which task is analysed, and which of its rivals' settings is charged.
use Rattle.std.specs.Prelude.{ℕ}
use Rattle.table.specs.Table.{Table}
use Rattle.answers.specs.declared.charges.Split.{Split}

-- task a of transaction u
pub record Analysed : Type 0 where
  pub tab : Table
  pub u : ℕ
  pub a : ℕ

-- candidate c of transaction i in mode m, at the t that x splits
pub record Charging : Type 0 where
  pub tab : Table
  pub u : ℕ
  pub a : ℕ
  pub i : ℕ
  pub m : ℕ
  pub c : ℕ
  pub x : Split
