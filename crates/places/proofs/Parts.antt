-- The fields of the header, of a head and of a task follow one another with no gap: the field that is worked out for a bit
-- holds it, and a field that holds it is the one that is worked out. (The computed cases are brought in so that they are
-- checked first.)
use mathlib.Core.Path.{◌≡◌, ap}
use Prim.Native.Nat.{ℕ, ◌+◌, ◌≤◌, ◌<◌}
use native.Mathlib.Decide.{dec_lt}
use native.Mathlib.Omega.{arith}
use lib.Dec.{ltb}
use borrow.Author.Tests.{lt-ltb, le-ltb}
use Rattle.table.specs.Fields.{HeaderField, HeadField, TaskField, IsTaskField, width_in_header, width_in_head, width_in_task}
use Rattle.format.specs.Places.{frame_at, count_at, first_at, modes_at, tasks_at, head_width, jitter_at, blocking_at, deadline_at, priority_at, times_at, place_in_header, place_in_head, place_in_task, task_width}
use Rattle.places.specs.Cases
use Rattle.places.specs.Held.{Among}
use Rattle.std.proofs.Common.{if◌then◌else◌}
use Rattle.places.specs.Find.{header_field_at, head_field_at, task_field_at}

-- what holds on either side of a test
pub split : {A : Type 0} (P : A → Type 0) (p b : ℕ) {x y : A} → (p < b → P x) → (b ≤ p → P y) → P (if ltb p b then x else y)
split P p b first second =
    elim (dec_lt p b) [
      | yes l ↦ rw (lt-ltb p b l) (first l)
      | no l ↦
          let beyond : b ≤ p = omega arith in
          rw (le-ltb p b beyond) (second beyond)
    ]

module _ (p : ℕ) where
  abbrev InHeader : HeaderField → Type 0
  InHeader f = Among (place_in_header f) (width_in_header f) p

  pub header-among : p < first_at → InHeader (header_field_at p)
  header-among h = split InHeader p frame_at (λ l. omega arith) (λ l. split InHeader p count_at (λ k. omega arith) (λ k. omega arith))

  pub header_is : (f : HeaderField) → InHeader f → header_field_at p ≡ f
  header_is HeaderField.edition h = simp (lt-ltb p frame_at (omega arith))
  header_is HeaderField.frame h = simp (le-ltb p frame_at (omega arith), lt-ltb p count_at (omega arith))
  header_is HeaderField.count h = simp (le-ltb p frame_at (omega arith), le-ltb p count_at (omega arith))

  pub header-inside : (f : HeaderField) → InHeader f → p < first_at
  header-inside HeaderField.edition h = omega arith
  header-inside HeaderField.frame h = omega arith
  header-inside HeaderField.count h = omega arith

-- p bits behind the start of a transaction, or of a task
module _ (at p : ℕ) where
  abbrev InHead : HeadField → Type 0
  InHead f = Among (place_in_head at f) (width_in_head f) (at + p)

  pub head-among : p < head_width → InHead (head_field_at p)
  head-among h = split InHead p (modes_at 0) (λ l. omega arith) (λ l. split InHead p (tasks_at 0) (λ k. omega arith) (λ k. omega arith))

  pub head-is : (f : HeadField) → InHead f → head_field_at p ≡ f
  head-is HeadField.period h = simp (lt-ltb p (modes_at 0) (omega arith))
  head-is HeadField.modes h = simp (le-ltb p (modes_at 0) (omega arith), lt-ltb p (tasks_at 0) (omega arith))
  head-is HeadField.tasks h = simp (le-ltb p (modes_at 0) (omega arith), le-ltb p (tasks_at 0) (omega arith))

  pub head-inside : (f : HeadField) → InHead f → p < head_width
  head-inside HeadField.period h = omega arith
  head-inside HeadField.modes h = omega arith
  head-inside HeadField.tasks h = omega arith

  -- of m modes
  abbrev InTask : (m : ℕ) → TaskField → Type 0
  InTask m f = IsTaskField m f × Among (place_in_task at f) (width_in_task f) (at + p)

  pub task-among : (m : ℕ) → p < task_width m → InTask m (task_field_at p)
  task-among m h =
      split (InTask m) p (jitter_at 0) (λ l. (tt, omega arith))
      (λ k₁.
      split (InTask m) p (blocking_at 0) (λ l. (tt, omega arith))
      (λ k₂.
      split (InTask m) p (deadline_at 0) (λ l. (tt, omega arith))
      (λ k₃.
      split (InTask m) p (priority_at 0) (λ l. (tt, omega arith))
      (λ k₄. split (InTask m) p (times_at 0) (λ l. (tt, omega arith)) (λ l. (omega arith, omega arith))))))

  pub task-is : (m : ℕ) (f : TaskField) → InTask m f → task_field_at p ≡ f
  task-is m TaskField.offset h = simp (lt-ltb p (jitter_at 0) (omega arith))
  task-is m TaskField.jitter h = simp (le-ltb p (jitter_at 0) (omega arith), lt-ltb p (blocking_at 0) (omega arith))
  task-is m TaskField.blocking h = simp (le-ltb p (jitter_at 0) (omega arith), le-ltb p (blocking_at 0) (omega arith), lt-ltb p (deadline_at 0) (omega arith))
  task-is m TaskField.deadline h =
      simp (le-ltb p (jitter_at 0) (omega arith), le-ltb p (blocking_at 0) (omega arith), le-ltb p (deadline_at 0) (omega arith), lt-ltb p (priority_at 0) (omega arith))
  task-is m TaskField.priority h =
      simp (
        le-ltb p (jitter_at 0) (omega arith),
        le-ltb p (blocking_at 0) (omega arith),
        le-ltb p (deadline_at 0) (omega arith),
        le-ltb p (priority_at 0) (omega arith),
        lt-ltb p (times_at 0) (omega arith),
      )
  task-is m (TaskField.time k) h =
      simp (
        le-ltb p (jitter_at 0) (omega arith),
        le-ltb p (blocking_at 0) (omega arith),
        le-ltb p (deadline_at 0) (omega arith),
        le-ltb p (priority_at 0) (omega arith),
        le-ltb p (times_at 0) (omega arith),
      )
      (ap TaskField.time (omega arith))

  pub task-inside : (m : ℕ) (f : TaskField) → InTask m f → p < task_width m
  task-inside m TaskField.offset h = omega arith
  task-inside m TaskField.jitter h = omega arith
  task-inside m TaskField.blocking h = omega arith
  task-inside m TaskField.deadline h = omega arith
  task-inside m TaskField.priority h = omega arith
  task-inside m (TaskField.time k) h = omega arith

-- no field stands before its transaction or its task

pub head-from : (at : ℕ) (f : HeadField) → at ≤ place_in_head at f
head-from at HeadField.period = omega arith
head-from at HeadField.modes = omega arith
head-from at HeadField.tasks = omega arith

pub task-from : (at : ℕ) (f : TaskField) → at ≤ place_in_task at f
task-from at TaskField.offset = omega arith
task-from at TaskField.jitter = omega arith
task-from at TaskField.blocking = omega arith
task-from at TaskField.deadline = omega arith
task-from at TaskField.priority = omega arith
task-from at (TaskField.time m) = omega arith
