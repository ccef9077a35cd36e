-- The place of a refusal names the field that the refusal is about: a table's rules refuse a field at its own place.
use mathlib.Core.Path.{◌≡◌}
use mathlib.Core.List.{List}
use mathlib.Core.Bool.{Bool}
use Prim.Native.Nat.{ℕ, ◌≤◌, ◌<◌}
use native.Mathlib.Omega.{arith}
use Rattle.refusals.specs.declared.Refusal.{Refusal}
use Rattle.refusals.specs.declared.Refusal.TheVariants.{DeadlineShort}
use Rattle.refusals.specs.Answer.{Answer, refused, ◌then◌, first_of}
use Rattle.refusals.proofs.Findings.{Only, only-checked, only-failed, only_then, only-first}
use Rattle.table.specs.Keepable.{IsKeepable}
use Rattle.table.specs.Fields as table
use Rattle.table.specs.Fields.{HeaderField, HeadField, TaskField, IsTaskField, IsField}
use Rattle.table.specs.Fields.Field.{header, head, task}
use Rattle.table.specs.Rules.{rule, header_rules, head_rules, task_rules, transaction_rules, body_rules, table_rules}
use Rattle.format.specs.Places.{task_at, start}
use Rattle.format.specs.Said.{count_in, modes_in, tasks_in, table_in, tasks_before}
use Rattle.format.specs.Fault.{image_look, header_fault, head_fault, task_fault, transaction_fault, end_fault, image_fault}
use Rattle.table.proofs.Keepable.{not-keepable}
use Rattle.format.proofs.Accepted.{sound-head}
use Rattle.format.proofs.Kept.{reads}
use Rattle.places.specs.declared.Field.{Field}
use Rattle.places.specs.Held.{Holds, Held}
use Rattle.places.specs.Held.Held.{behind}
use Rattle.places.specs.About.{About, Points}
use Rattle.places.specs.About.Points.{starts, padding, follow}
use Rattle.places.proofs.Tiles.{has-head, has-task, own-place}
use Rattle.places.proofs.Answer.{held-unique, named-at}

module _ (image : List ℕ) where
  abbrev Pointed : Refusal → ℕ → Type 0
  Pointed refusal p = (r : Field) × Points image refusal p r

  abbrev Right : Answer → Type 0
  Right = Only Pointed

  field-right : (f : table.Field) → IsField (table_in image) f → Right ((image_look image).finding f)
  field-right f has = only-checked Pointed _ _ _ (_, starts f has (About.ends f))

  rule-right :
      (f : table.Field) (t : Bool) {refusal : Refusal}
      → IsField (table_in image) f
      → About (table_in image) refusal f
      → Right (rule ◌then◌ (image_look image) f t refusal)
  rule-right f t has is = only_then Pointed _ _ (field-right f has) (λ e. only-checked Pointed _ _ _ (_, starts f has is))

  header-right : Right (header_fault image)
  unfolding header_rules
  header-right =
      only_then Pointed _ _
      (only_then Pointed _ _ (rule-right (header HeaderField.edition) _ tt About.edition)
      (λ e. rule-right (header HeaderField.frame) _ tt About.frame))
      (λ e. rule-right (header HeaderField.count) _ tt About.count)

  head-right : (u : ℕ) → u < count_in image → Right (head_fault image (tasks_before image u) (start image u))
  unfolding head_rules
  head-right u below =
      let has = has-head image u below in
      only_then Pointed _ _
      (only_then Pointed _ _ (rule-right (head u HeadField.period) _ has (About.period u))
      (λ e. rule-right (head u HeadField.modes) _ has (About.modes u)))
      (λ e. rule-right (head u HeadField.tasks) _ has (About.tasks u))

  -- a task of a transaction that has a mode
  task-right :
      (u j : ℕ)
      → u < count_in image
      → j < tasks_in image (start image u)
      → 1 ≤ modes_in image (start image u)
      → Right (task_fault image (modes_in image (start image u)) (task_at (start image u) (modes_in image (start image u)) j))
  unfolding task_rules first_of
  task-right u j below within some =
      only_then Pointed _ _
      (only_then Pointed _ _
      (only_then Pointed _ _
      (only_then Pointed _ _
      (only_then Pointed _ _
      (only_then Pointed _ _
      (only_then Pointed _ _ (at TaskField.offset tt) (λ e. at TaskField.jitter tt))
      (λ e. at TaskField.blocking tt))
      (λ e. rule-right (task u j TaskField.deadline) _ has (About.deadline u j)))
      (λ e. at TaskField.priority tt))
      (λ e. only-first Pointed (modes_in image (start image u)) _ (λ k h so_far. at (TaskField.time k) h)))
      (λ e. only-checked Pointed _ _ _ (_, starts (task u j (TaskField.time 0)) (has-task image u j (TaskField.time 0) below within some) (About.times u j))))
      (λ e.
      only-failed Pointed _ _ _
      (λ failed. (_, starts (task u j TaskField.deadline) has (About.short u j (not-keepable (reads image) has.0 failed)))))
    where
      has : IsField (table_in image) (task u j TaskField.deadline)
      has = has-task image u j TaskField.deadline below within tt

      at : (f : TaskField) → IsTaskField (modes_in image (start image u)) f → Right ((image_look image).finding (task u j f))
      at f timed = field-right (task u j f) (has-task image u j f below within timed)

  transaction-right : (u : ℕ) → u < count_in image → Right (transaction_fault image (tasks_before image u) (start image u))
  unfolding transaction_rules first_of
  transaction-right u below =
      only_then Pointed _ _ (head-right u below)
      (λ clear.
      only-first Pointed (tasks_in image (start image u)) _
      (λ j within so_far. task-right u j below within (sound-head image (tasks_before image u) (start image u) clear).some_mode))

  end-right : Right (end_fault image (start image (count_in image)))
  unfolding end_fault
  end-right = only_then Pointed _ _ (only-checked Pointed _ _ _ (_, padding)) (λ e. only-checked Pointed _ _ _ (_, follow))

  image-right : Right (image_fault image)
  unfolding image_fault table_rules body_rules first_of tasks_before
  image-right =
      only_then Pointed _ _
      (only_then Pointed _ _ header-right (λ e. only-first Pointed (count_in image) _ (λ u below so_far. transaction-right u below)))
      (λ e. end-right)

  points-held : {refusal : Refusal} {p : ℕ} {r : Field} → Points image refusal p r → Held image p r
  points-held (starts f has is) = named-at image f has
  points-held padding = behind (omega arith)
  points-held follow = behind (omega arith)

  -- the answer at the place of a refusal is what the refusal is about
  pub refused-at : {refusal : Refusal} {p : ℕ} {r : Field} → image_fault image ≡ refused refusal p → Held image p r → Points image refusal p r
  refused-at {refusal} {p} {r} e h =
      let (s, points) = rw e at image-right in
      rw (held-unique image p h (points-held points)) points

  -- 14 is refused at the deadline of a task that has no room for its offset and its greatest time
  pub record ShortAt (p : ℕ) : Type 0 where
    pub u : ℕ
    pub j : ℕ
    pub holds : Holds image (task u j TaskField.deadline) p
    pub short : ¬ IsKeepable (table_in image) u j

  points-short : {p : ℕ} {r : Field} → Points image DeadlineShort p r → ShortAt p
  points-short (starts f has (About.short u j short)) = record { u = u; j = j; holds = own-place image (task u j TaskField.deadline) has; short = short }

  pub short-at : {p : ℕ} → image_fault image ≡ refused DeadlineShort p → ShortAt p
  short-at e = points-short (rw e at image-right).1
