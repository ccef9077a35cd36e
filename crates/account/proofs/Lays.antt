-- What is laid into the lent cells: what is computed is what is told, and it stands in its cells.
use mathlib.Core.Path.{◌≡◌, refl, ap, ◌∙◌}
use mathlib.Core.List.{List}
use lib.ListN.{length, get_or}
use Prim.Native.Nat.{ℕ, ◌+◌, ◌*◌, ◌<◌}
use native.Mathlib.Decide.{ℕ_discrete}
use native.Mathlib.Omega.{arith}
use Rattle.table.specs.Table.{Table, IsTask, transactions, tasks}
use Rattle.table.specs.Kept.{Kept}
use Rattle.table.proofs.Ranges.{tasks-few}
use Rattle.periods.specs.Charge.{imposed}
use Rattle.analysis.specs.Order.{Turn}
use Rattle.analysis.specs.Who.{most_charged}
use Rattle.analysis.proofs.Who.{most-charged}
use Rattle.parts.specs.declared.Part.{Part}
use Rattle.parts.specs.Parts.{ChargedBy, part_said}
use Rattle.parts.proofs.Unique.{charged-by}
use Rattle.account.specs.Account.{group_cells, charges_cell, shares_cell, account_cells, laid, charge_cells, share_cells, share_of, unless_own, charge_of, laid_for, Lays}
use Rattle.account.proofs.Laid.{charge-short, length-laid, laid-before, laid-at, laid_same}

module _ (tab : Table) (u a w i : ℕ) (there : i < transactions tab) where
  -- what is computed of a transaction is what it charges
  pub charge-of : ChargedBy imposed i w tab u a (charge_of tab u a w i)
  unfolding charge_of unless_own
  charge-of = go (ℕ_discrete i u)
    where
      go : (d : Dec (i ≡ u)) → ChargedBy imposed i w tab u a (unless_own d (part_said tab i (most_charged imposed tab u a i w)))
      go (yes e) = ChargedBy.own e
      go (no f) = ChargedBy.other (record { there = there; other = f }) (most-charged imposed tab u a i w) refl

  pub charge-one : IsTask tab u a → {r : Part} → ChargedBy imposed i w tab u a r → r ≡ charge_of tab u a w i
  charge-one is_task x = charged-by imposed tab u a is_task x charge-of

module _ {tab : Table} {u a : ℕ} {x : Turn} {w : ℕ} {before : List ℕ} where
  pub lays : Lays tab u a x w before (laid_for tab u a x w before)
  unfolding laid_for
  lays = record { charges = charge_of tab u a w; each = charge-of tab u a w; is = refl }

  -- whatever is told of each transaction, the cells are these
  pub lays-is : IsTask tab u a → {after : List ℕ} → Lays tab u a x w before after → after ≡ laid_for tab u a x w before
  unfolding laid_for
  lays-is is_task l =
      l.is
      ∙ ap (laid shares_cell (tasks tab u) (λ j. share_cells (share_of tab u a x w j)))
      (laid_same charges_cell (transactions tab) before (λ i h. ap charge_cells (charge-one tab u a w i h is_task (l.each i h))))

-- cell by cell
module _ {tab : Table} (kept : Kept tab) {u a : ℕ} {x : Turn} {w : ℕ} {before after : List ℕ} (long : length before ≡ account_cells) (l : Lays tab u a x w before after) where
  share : ℕ → List ℕ
  share j = share_cells (share_of tab u a x w j)

  charge : ℕ → List ℕ
  charge i = charge_cells (l.charges i)

  charged : List ℕ
  charged = laid charges_cell (transactions tab) charge before

  -- that of a transaction
  pub lays-charge :
      (i k : ℕ)
      → i < transactions tab
      → k < length (charge_cells (l.charges i))
      → get_or after (charges_cell + group_cells * i + k) 0 ≡ get_or (charge_cells (l.charges i)) k 0
  unfolding share charge charged
  lays-charge i k there small =
      let at = charges_cell + group_cells * i + k in
      ap (λ (cells : List ℕ). get_or cells at 0) l.is
      ∙ laid-before shares_cell share charged (tasks tab u) at (omega (arith, charge-short (l.charges i), kept.few_transactions))
      ∙ laid-at charges_cell charge before (transactions tab) (λ j h. charge-short (l.charges j)) (omega (arith, kept.few_transactions)) i k there small

  -- and that of a task
  pub lays-share :
      u < transactions tab
      → (j k : ℕ)
      → j < tasks tab u
      → k < group_cells
      → get_or after (shares_cell + group_cells * j + k) 0 ≡ get_or (share_cells (share_of tab u a x w j)) k 0
  unfolding share charge charged
  lays-share owner j k there small =
      let size = length-laid charges_cell charge before (transactions tab) in
      ap (λ (cells : List ℕ). get_or cells (shares_cell + group_cells * j + k) 0) l.is
      ∙ laid-at shares_cell share charged (tasks tab u) (λ j h. omega arith) (omega (arith, size, tasks-few kept owner)) j k there small
