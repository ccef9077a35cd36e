-- What is known by each way in which an image was opened.
use mathlib.Core.Path.{◌≡◌, subst, subst₂}
use mathlib.Core.List.{List}
use Prim.Native.Nat.{ℕ, ◌≤◌, ◌<◌}
use Rattle.refusals.specs.declared.Refusal.{Refusal}
use Rattle.refusals.specs.declared.Refusal.TheVariants.{NoTask}
use Rattle.refusals.specs.Answer.{refused, fault_at}
use Rattle.table.specs.Table.{Table}
use Rattle.table.specs.Number.{in_all}
use Rattle.table.specs.Limits.{horizon}
use Rattle.row.specs.Row.{table_of}
use Rattle.format.specs.Fault.{image_fault, IsAccepted}
use Rattle.format.specs.Said.{table_in}
use Rattle.jitter.specs.Plain.{Single, Completion, Never}
use Rattle.refusals.specs.declared.PlainRefusal.TheVariants.{NotSingle}
use Rattle.beside.specs.declared.Unanswered.{Unanswered}
use Rattle.beside.specs.declared.Unanswered.TheVariants.{Refused, Unfit}
use Rattle.beside.specs.declared.reads.Alone.{Alone}
use Rattle.std.specs.Prelude.{Some, None, Ok, Err}
use Rattle.beside.specs.Search.{Finds}
use Rattle.beside.specs.Told.{Opens}

module _ {image : List ℕ} {task : ℕ} where
  -- a refusal of the image, 13 or 31
  pub opened-none :
      (P : Unanswered → Type 0) {why : Unanswered}
      → ((x : Refusal) (n : ℕ) → image_fault image ≡ refused x n → P (Refused (fault_at x n)))
      → (IsAccepted image → in_all (table_in image) ≤ task → P (Refused (fault_at NoTask 0)))
      → (IsAccepted image → task < in_all (table_in image) → ¬ (Single (table_in image)) → P (Unfit NotSingle))
      → Opens image task (Err why)
      → P why
  opened-none P turned unknown several (Opens.refused e) = turned _ _ e
  opened-none P turned unknown several (Opens.unknown ok l) = unknown ok l
  opened-none P turned unknown several (Opens.several ok l n) = several ok l n

  -- or that task, of the image's table
  pub opened-task :
      (P : Table → ℕ → Type 0) {x : Alone}
      → Opens image task (Ok x)
      → P (table_of x.row.now) x.u
      → IsAccepted image × (task < in_all (table_in image)) × Single (table_in image) × P (table_in image) task
  opened-task P {x} (Opens.single ok l table is) h =
      (ok, l, subst Single table x.single_row.single, subst₂ P table is h)

-- and in which a search ended
module _ {tab : Table} {u : ℕ} where
  pub found_at : {t : ℕ} → Finds tab u (Some t) → Completion tab u t × (t ≤ horizon)
  found_at (Finds.found c l) = (c, l)

  pub found_nothing : Finds tab u None → Never tab u
  found_nothing (Finds.nothing n) = n
