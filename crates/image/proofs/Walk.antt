-- A walk over the transactions that an image counts, which keeps where the next one starts and how many tasks stand before it.
use mathlib.Core.Path.{◌≡◌, ap, ◌∙◌}
use mathlib.Core.List.{List}
use Prim.Native.Nat.{ℕ, ◌+◌, ◌≤◌, ◌<◌}
use native.Mathlib.Omega.{arith}
use Rattle.row.specs.declared.kinds.Transaction.{Transaction}
use Rattle.format.specs.Places.{task_at, past, start}
use Rattle.format.specs.Said.{count_in, modes_in, tasks_in, tasks_before}
use Rattle.table.specs.Limits.{modes_most, tasks_in_all}
use Rattle.format.specs.Fault.{IsAccepted}
use Rattle.format.proofs.Accepted.{SoundHead, head as head_of}
use Rattle.format.proofs.Places.{Near, near, next_start, next-before}
use Rattle.image.specs.Head.{head_at}

-- however far it goes, the numbers stay small
pub small : (image : List ℕ) (u : ℕ) {before at : ℕ} → before ≡ tasks_before image u → at ≡ start image u → u ≤ count_in image → (before < 2048) × (at < 1_000_000)
small image u tasks place counted =
    let known : Near image u = near image u counted in
    omega arith

module _ (image : List ℕ) (u : ℕ) {before at : ℕ} (tasks : before ≡ tasks_before image u) (place : at ≡ start image u) where
  module _ {head : Transaction} (said : head ≡ head_at image at) where
    pub its-modes : head.modes ≡ modes_in image (start image u)
    its-modes = ap (λ (h : Transaction). h.modes) said ∙ ap (modes_in image) place

    pub its-tasks : head.tasks ≡ tasks_in image (start image u)
    its-tasks = ap (λ (h : Transaction). h.tasks) said ∙ ap (tasks_in image) place

    -- of an accepted image: it fits into the row
    pub fits : IsAccepted image → u < count_in image → (head.modes ≤ modes_most) × (before + head.tasks ≤ tasks_in_all)
    fits ok counted =
        let sound : SoundHead image (tasks_before image u) (start image u) = head_of image ok u counted in
        rw (its-modes, its-tasks, tasks) (sound.few_modes, sound.in_all)

    pub next-tasks : before + head.tasks ≡ tasks_before image (u + 1)
    next-tasks = rw (next-before image u, tasks, its-tasks)

    pub next-place : task_at at head.modes head.tasks ≡ start image (u + 1)
    unfolding past
    next-place = rw (next_start image u, place, its-modes, its-tasks)

    -- the next one is as near
    pub next-small : u < count_in image → (before + head.tasks < 2048) × (task_at at head.modes head.tasks < 1_000_000)
    next-small counted = small image (u + 1) next-tasks next-place (omega arith)
