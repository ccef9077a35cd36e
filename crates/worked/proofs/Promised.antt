-- Each starred case of a whole task is promised. That its table keeps the bounds is shown by its image, which is accepted and says
-- the table; the answer is the walk's, computed.
use mathlib.Core.Path.{◌≡◌, refl, subst}
use Prim.Native.Nat.{ℕ, ◌<◌}
use lib.Dec.{lit<}
use lib.ListN.{get_or}
use Rattle.table.specs.Table.{Table, transactions, transaction, tasks, IsTask}
use Rattle.table.specs.Lists.{list_of, joined}
use Rattle.table.specs.Kept.{Kept}
use Rattle.refusals.specs.Answer.{accepted}
use Rattle.format.specs.Said.{table_in}
use Rattle.format.specs.Fault.{image_fault}
use Rattle.bits.specs.Bits.{field_bits}
use Rattle.format.specs.Image.{task_bits, transaction_bits, table_bits, number_of, bytes_of, image_of}
use Rattle.format.specs.Computing as reading
use Rattle.format.proofs.Kept.{kept}
use Rattle.periods.specs.Charge.{imposed}
use Rattle.analysis.specs.Walk.{answer}
use Rattle.analysis.specs.Computing.{computing}
use Rattle.analysis.specs.Answer.{Answers}
use Rattle.analysis.proofs.Answer.{answers}
use Rattle.worked.specs.Promised.{Case, Promised, Each, first, cases}

-- a table is kept where its image is accepted and says it
pub keeps : (tab : Table) → image_fault (image_of tab) ≡ accepted → table_in (image_of tab) ≡ tab → Kept tab
keeps tab ok same = subst Kept same (kept (image_of tab) ok)

promised :
    (c : Case)
    → image_fault (image_of c.tab) ≡ accepted
    → table_in (image_of c.tab) ≡ c.tab
    → c.u < transactions c.tab
    → c.a < tasks c.tab c.u
    → answer imposed c.tab c.u c.a c.budget ≡ c.says
    → Promised c
promised c ok same owner place is =
    let is_task : IsTask c.tab c.u c.a = record { owner = owner; place = place } in
    let k = keeps c.tab ok same in
    record {
      kept = k;
      is_task = is_task;
      answers = subst (Answers c.tab c.u c.a c.budget) is (answers k is_task c.budget);
    }

-- the case number k
abbrev at :
    (k : ℕ)
    → image_fault (image_of (get_or cases k first).tab) ≡ accepted
    → table_in (image_of (get_or cases k first).tab) ≡ (get_or cases k first).tab
    → (get_or cases k first).u < transactions (get_or cases k first).tab
    → (get_or cases k first).a < tasks (get_or cases k first).tab (get_or cases k first).u
    → answer imposed (get_or cases k first).tab (get_or cases k first).u (get_or cases k first).a (get_or cases k first).budget ≡ (get_or cases k first).says
    → Promised (get_or cases k first)
at k = promised (get_or cases k first)

pub starred-promised : Each Promised cases
unfolding Each computing reading.computing image_of table_bits transaction_bits task_bits field_bits bytes_of number_of list_of joined transactions transaction tasks
starred-promised =
    (at 0 refl refl (lit< tt) (lit< tt) refl, (at 1 refl refl (lit< tt) (lit< tt) refl, (at 2 refl refl (lit< tt) (lit< tt) refl, (at 3 refl refl (lit< tt) (lit< tt) refl, (at 4 refl refl (lit< tt) (lit< tt) refl, (at 5 refl refl (lit< tt) (lit< tt) refl, (at 6 refl refl (lit< tt) (lit< tt) refl, (at 7 refl refl (lit< tt) (lit< tt) refl, (at 8 refl refl (lit< tt) (lit< tt) refl, (at 9 refl refl (lit< tt) (lit< tt) refl, tt))))))))))
