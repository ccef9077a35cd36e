-- What is known of an accepted image: by a table's rules its header, heads and tasks are sound, and so is its end. (The
-- computed cases are brought in so that they are checked first.)
use mathlib.Core.Path.{◌≡◌}
use mathlib.Core.List.{List}
use Prim.Native.Nat.{ℕ, ◌+◌, ◌-◌, ◌*◌, ◌≤◌, ◌<◌}
use lib.ListN.{length}
use borrow.Author.Tests.{leb-true, eqb-true}
use Rattle.bits.specs.Bits.{value_at}
use Rattle.table.specs.Limits.{limits, tasks_in_all, time_width}
use Rattle.table.specs.Fields.{TaskField, width_in_header, width_in_head, width_in_task}
use Rattle.table.specs.Rules.Deadlines.{keepable}
use Rattle.table.proofs.Rules as rules
use Rattle.refusals.specs.Answer.{accepted}
use Rattle.refusals.proofs.Findings.{then-joins, none_first, none-second, held}
use Rattle.format.specs.Cases
use Rattle.format.specs.Places.{place_in_header, place_in_head, place_in_task, time_at, task_at, start, bytes_to}
use Rattle.format.specs.Said.{frame_in, count_in, modes_in, tasks_in, tasks_before}
use Rattle.format.specs.Fault.{look_at, image_look, header_fault, head_fault, end_fault, image_fault, IsAccepted}
use Rattle.format.proofs.Reached as reached

abbrev pub SoundHeader : List ℕ → Type 0
SoundHeader image = rules.SoundHeader limits (look_at image place_in_header width_in_header)

-- the transaction that starts at p, where `before` tasks stand before it
abbrev pub SoundHead : List ℕ → (before p : ℕ) → Type 0
SoundHead image before p = rules.SoundHead limits (frame_in image) before (look_at image (place_in_head p) width_in_head)

-- the task of m modes that starts at q
abbrev pub SoundTask : List ℕ → (m q : ℕ) → Type 0
SoundTask image m q = rules.SoundTask keepable m (look_at image (place_in_task q) width_in_task)

pub sound-header : (image : List ℕ) → header_fault image ≡ accepted → SoundHeader image
sound-header image h = rules.sound-header limits then-joins (look_at image place_in_header width_in_header) h

pub sound-head : (image : List ℕ) (before p : ℕ) → head_fault image before p ≡ accepted → SoundHead image before p
sound-head image before p h = rules.sound-head limits then-joins (frame_in image) before (look_at image (place_in_head p) width_in_head) h

pub time-inside : (image : List ℕ) (m q k : ℕ) → SoundTask image m q → k < m → time_at q k + time_width ≤ 8 * length image
time-inside image m q k sound below = leb-true _ _ (held _ _ _ (sound.there (TaskField.time k) below))

-- padding starts at p
pub record SoundEnd (image : List ℕ) (p : ℕ) : Type 0 where
  pub padding : value_at image p (8 * bytes_to p - p) ≡ 0
  pub last : length image ≤ bytes_to p

sound-end : (image : List ℕ) (p : ℕ) → end_fault image p ≡ accepted → SoundEnd image p
unfolding end_fault
sound-end image p h =
    record {
      padding = eqb-true _ _ (held _ _ _ (none_first _ _ h));
      last = leb-true _ _ (held _ _ _ (none-second _ _ h));
    }

-- where the heads of the first u transactions are sound
pub few-before :
    (image : List ℕ) (u : ℕ)
    → ((v : ℕ) → v < u → SoundHead image (tasks_before image v) (start image v))
    → tasks_before image u ≤ tasks_in_all
unfolding tasks_before
few-before image u each = reached.few-before limits (image_look image) u each

module _ (image : List ℕ) (ok : IsAccepted image) where
  table : rules.SoundTable limits keepable (image_look image)
  unfolding image_fault
  table = rules.sound-table limits keepable then-joins (image_look image) (none_first _ _ ok)

  pub header : SoundHeader image
  header = table.header

  pub head : (u : ℕ) → u < count_in image → SoundHead image (tasks_before image u) (start image u)
  unfolding tasks_before
  head u below = (table.transaction u below).head

  pub task :
      (u j : ℕ)
      → u < count_in image
      → j < tasks_in image (start image u)
      → SoundTask image (modes_in image (start image u)) (task_at (start image u) (modes_in image (start image u)) j)
  task u j below within = (table.transaction u below).task j within

  pub end : SoundEnd image (start image (count_in image))
  unfolding image_fault
  end = sound-end image _ (none-second _ _ ok)

  pub few-tasks : tasks_before image (count_in image) ≤ tasks_in_all
  few-tasks = few-before image (count_in image) head
