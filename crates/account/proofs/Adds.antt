-- It adds up: the shares to what the rivals in the task's own transaction charge, and all to the completion.
use mathlib.Core.Path.{◌≡◌, sym}
use mathlib.Core.List.{List}
use Prim.Native.Nat.{ℕ, ◌+◌}
use native.Mathlib.Omega.{arith}
use Rattle.table.specs.Sum.{sum}
use Rattle.table.specs.Table.{Table, transactions, tasks}
use Rattle.table.proofs.Sum.{sum-ext}
use Rattle.periods.specs.Charge.{imposed}
use Rattle.analysis.specs.Charge.{charge, others}
use Rattle.analysis.specs.Order.{Source}
use Rattle.analysis.specs.Parts.{MadeOf}
use Rattle.parts.specs.declared.Parts.{Parts}
use Rattle.parts.specs.Parts.{parts_meant, ticks_of}
use Rattle.parts.proofs.Adds.{charged-ticks}
use Rattle.account.specs.Account.{share_of, Lays}

module _ {tab : Table} {u a R : ℕ} {x : Source} {p : Parts} (m : MadeOf tab u a R x (parts_meant p)) where
  -- what the task at place j charges until the completion
  abbrev share : ℕ → ℕ
  share j = (share_of tab u a x.turn p.completion j).ticks

  pub shares-add : sum (tasks tab u) share ≡ p.rivals
  unfolding charge share_of
  shares-add = sym m.own_rivals

  -- Blocking, own jobs, the shares and what each transaction charges make up the completion
  pub account-adds :
      {before after : List ℕ} (l : Lays tab u a x.turn p.completion before after)
      → p.blocking + p.jobs + sum (tasks tab u) share + sum (transactions tab) (λ i. ticks_of (l.charges i)) ≡ p.completion
  unfolding others
  account-adds l =
      let same : sum (transactions tab) (λ i. ticks_of (l.charges i)) ≡ others imposed tab u a p.completion = sum-ext (transactions tab) (λ i h. charged-ticks h (l.each i h)) in
      omega (arith, same, shares-add, m.adds)
