-- A row with one task and one mode in each transaction is so in one way: each task runs in its only mode. It need not be read.
use Rattle.std.specs.Prelude.{◌≡◌, List, ℕ, ◌<◌, length, get_or}
use Rattle.std.proofs.Common.{arith}
use Rattle.std.proofs.Props.{props}
use Rattle.std.specs.Coded.{le_prop}
use mathlib.Core.HLevel.{is_prop→PathP}
use Rattle.row.specs.Row.{table_of}
use Rattle.table.specs.Table.{Task, Transaction, Table, transactions, transaction, modes}
use Rattle.table.specs.Kept.{RunsSometime, KeptTask, KeptTransaction, Kept}
use Rattle.jitter.specs.Plain.{Single}
use Rattle.beside.specs.Lent.{SingleRow}

module _ (m : ℕ) (one : m ≡ 1) where
  runs-prop : (times : List ℕ) → length times ≡ m → IsProp (RunsSometime times)
  runs-prop times size x y =
      let e : x.mode ≡ y.mode = omega (arith, x.within, y.within) in
      λ i. record {
        mode = e i;
        within = is_prop→PathP (λ i. e i < length times) (λ i. le_prop) x.within y.within i;
        some = is_prop→PathP (λ i. 0 < get_or times (e i) 0) (λ i. le_prop) x.some y.some i;
      }

  task-prop : (t : Task) → IsProp (KeptTask m t)
  task-prop t = hlevel (props, runs-prop)

transaction-prop : (frame : ℕ) (x : Transaction) → x.modes ≡ 1 → IsProp (KeptTransaction frame x)
transaction-prop frame x one = hlevel (props, task-prop x.modes one)

kept-prop : (tab : Table) → Single tab → IsProp (Kept tab)
unfolding modes
kept-prop tab single =
    let each : (u : ℕ) → u < transactions tab → IsProp (KeptTransaction tab.frame (transaction tab u)) = λ u h. transaction-prop tab.frame (transaction tab u) (single.one_mode u h) in
    hlevel (props, each)

pub SingleRow-prop : (row : List ℕ) → IsProp (SingleRow row)
SingleRow-prop row x y = go x y
  where
    go : IsProp (SingleRow row)
    go = hlevel (props, kept-prop (table_of row) x.single)
