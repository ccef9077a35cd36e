-- The numbering of tasks: each number below the count belongs to exactly one task.
use mathlib.Core.Path.{◌≡◌, refl, ap}
use Prim.Native.Nat.{ℕ, zero, suc, ◌+◌, ◌-◌, ◌≤◌, ◌<◌}
use native.Mathlib.Decide.{dec_lt}
use native.Mathlib.Omega.{arith}
use Rattle.table.specs.Sum.{sum}
use Rattle.table.specs.Table.{Table, transactions, tasks, IsTask}
use Rattle.table.specs.Number.{before, in_all, number, Place}
use Rattle.table.proofs.Sum.{sum_grow}

pub before-suc : (tab : Table) (u : ℕ) → before tab (suc u) ≡ before tab u + tasks tab u
unfolding before sum
before-suc tab u = refl

pub before-grow : (tab : Table) {u v : ℕ} → u ≤ v → before tab u ≤ before tab v
unfolding before
before-grow tab {u} {v} h = sum_grow u v (tasks tab) h

-- a task's number is below the count
pub number_lt : (tab : Table) {u j : ℕ} → IsTask tab u j → number tab u j < in_all tab
unfolding number in_all
number_lt tab {u} {j} h = omega (arith, before-suc tab u, before-grow tab h.owner, h.place)

-- every number below the count is some task's: search the transactions for the first that reaches beyond it
place_below : (tab : Table) (k n : ℕ) → n ≤ transactions tab → k < before tab n → Place tab k
unfolding number before sum
place_below tab k zero h l = absurd (omega arith)
place_below tab k (suc n) h l =
    elim (dec_lt k (before tab n)) [
      | yes s ↦ place_below tab k n (omega arith) s
      | no s ↦
          record {
            u = n;
            j = k - before tab n;
            is_task = record { owner = h; place = omega arith };
            numbered = omega arith;
          }
    ]

pub place : (tab : Table) (k : ℕ) → k < in_all tab → Place tab k
unfolding in_all
place tab k h = place_below tab k (transactions tab) (omega arith) h

-- tasks of an earlier transaction have smaller numbers
earlier : (tab : Table) {u j v : ℕ} (i : ℕ) → IsTask tab u j → u < v → number tab u j < number tab v i
unfolding number
earlier tab {u} {j} {v} i h l = omega (arith, before-suc tab u, before-grow tab l, h.place)

-- no two tasks have the same number
pub number-unique : (tab : Table) {u j v i : ℕ} → IsTask tab u j → IsTask tab v i → number tab u j ≡ number tab v i → (u ≡ v) × (j ≡ i)
unfolding number
number-unique tab {u} {j} {v} {i} h k e =
    elim (dec_lt u v) [
      | yes l ↦ absurd (omega (arith, earlier tab i h l))
      | no l ↦
          elim (dec_lt v u) [
            | yes g ↦ absurd (omega (arith, earlier tab j k g))
            | no g ↦
                let same : u ≡ v = omega arith in
                (same, omega (arith, ap (before tab) same))
          ]
    ]
