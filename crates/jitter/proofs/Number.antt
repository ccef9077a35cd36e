-- Where each transaction has one task, the task of transaction u has the number u.
use mathlib.Core.Path.{◌≡◌, refl}
use Prim.Native.Nat.{ℕ, zero, suc, ◌≤◌, ◌<◌}
use native.Mathlib.Nat.{le_refl}
use native.Mathlib.Omega.{arith}
use Rattle.table.specs.Sum.{sum}
use Rattle.table.specs.Table.{Table, transactions}
use Rattle.table.specs.Number.{before, in_all, number}
use Rattle.jitter.specs.Plain.{Single}

module _ {tab : Table} (single : Single tab) where
  before-single : (u : ℕ) → u ≤ transactions tab → before tab u ≡ u
  unfolding before sum
  before-single zero l = refl
  before-single (suc u) l = omega (arith, before-single u (omega arith), single.one_task u l)

  pub number-single : {u : ℕ} → u < transactions tab → number tab u 0 ≡ u
  unfolding number
  number-single {u} l = omega (arith, before-single u (omega arith))

  pub in-all-single : in_all tab ≡ transactions tab
  unfolding in_all
  in-all-single = before-single (transactions tab) (le_refl _)
