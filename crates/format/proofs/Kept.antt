-- An accepted image says a table that keeps every bound and every field's range: what the rules ask of the image they ask of
-- that table, whose numbers all come from fields of their widths.
use mathlib.Core.Path.{◌≡◌, sym, ap, ◌∙◌}
use mathlib.Core.List.{List}
use Prim.Native.Nat.{ℕ, ◌<◌}
use lib.ListN.{length, get_or}
use Rattle.bits.proofs.Fields.{value-below}
use Rattle.refusals.proofs.Findings.{then-joins, none_first}
use Rattle.table.specs.Table.{Task, IsTask, task, offset, jitter, blocking, deadline, priority, time}
use Rattle.table.specs.Fields.{HeaderField, HeadField, TaskField, Field, width, number_in, IsField, Fits, Timed}
use Rattle.table.specs.Kept.{Kept}
use Rattle.table.proofs.Lists.{length-list_of, get_or-list_of}
use Rattle.table.proofs.Accepted.{Reads, rules-keep}
use Rattle.format.specs.Places.{task_at, start}
use Rattle.format.specs.Said.{count_in, modes_in, time_in, task_in, table_in}
use Rattle.format.specs.Fault.{image_look, image_fault, IsAccepted}
use Rattle.format.proofs.Said.{said-edition, said-frame, said-transactions, said-period, said-modes, said-tasks, said-task}

module _ (image : List ℕ) where
  owner : {u j : ℕ} → IsTask (table_in image) u j → u < count_in image
  owner is = rw (said-transactions image) at is.owner

  task-read :
      {u j : ℕ}
      → IsTask (table_in image) u j
      → task_in image (modes_in image (start image u)) (task_at (start image u) (modes_in image (start image u)) j)
      ≡ task (table_in image) u j
  task-read {u} {j} is = sym (said-task image u j (owner is) (rw (said-tasks image u (owner is)) at is.place))

  number_read : (f : Field) → IsField (table_in image) f → (image_look image).number f ≡ number_in (table_in image) f
  unfolding number_in offset jitter blocking deadline priority time task_in
  number_read (Field.header HeaderField.edition) has = sym (said-edition image)
  number_read (Field.header HeaderField.frame) has = sym (said-frame image)
  number_read (Field.header HeaderField.count) has = sym (said-transactions image)
  number_read (Field.head u HeadField.period) has = sym (said-period image u (rw (said-transactions image) at has))
  number_read (Field.head u HeadField.modes) has = sym (said-modes image u (rw (said-transactions image) at has))
  number_read (Field.head u HeadField.tasks) has = sym (said-tasks image u (rw (said-transactions image) at has))
  number_read (Field.task u j TaskField.offset) has = ap (λ (t : Task). t.offset) (task-read has.0)
  number_read (Field.task u j TaskField.jitter) has = ap (λ (t : Task). t.jitter) (task-read has.0)
  number_read (Field.task u j TaskField.blocking) has = ap (λ (t : Task). t.blocking) (task-read has.0)
  number_read (Field.task u j TaskField.deadline) has = ap (λ (t : Task). t.deadline) (task-read has.0)
  number_read (Field.task u j TaskField.priority) has = ap (λ (t : Task). t.priority) (task-read has.0)
  number_read (Field.task u j (TaskField.time m)) has =
      let p = start image u in
      let q : ℕ = task_at p (modes_in image p) j in
      let below : m < modes_in image p = rw (said-modes image u (owner has.0)) at has.1 in
      sym (get_or-list_of (modes_in image p) (time_in image q) m 0 below) ∙ ap (λ (t : Task). get_or t.times m 0) (task-read has.0)

  pub reads : Reads (image_look image) (table_in image)
  reads = record { number = number_read }

  pub fits : Fits (table_in image)
  fits = record { below = λ f has. rw (← number_read f has) (value-below image _ (width f)) }

  pub timed : Timed (table_in image)
  unfolding task_in
  timed =
      record {
        times =
            λ u j is.
            ap (λ (t : Task). length t.times) (sym (task-read is))
            ∙ length-list_of (modes_in image (start image u)) _
            ∙ sym (said-modes image u (owner is));
      }

  pub kept : IsAccepted image → Kept (table_in image)
  unfolding image_fault
  kept ok = rules-keep reads fits timed then-joins (none_first _ _ ok)
