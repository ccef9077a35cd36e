-- A walk over the transactions that an image counts: where the next one starts, how many tasks stand before it, and that both numbers
-- stay small; and what is known of the transaction that a bit position lies in.
use mathlib.Core.Path.{◌≡◌}
use mathlib.Core.List.{List}
use Prim.Native.Nat.{ℕ, suc, ◌+◌, ◌-◌, ◌*◌, ◌^◌, ◌≤◌, ◌<◌}
use native.Mathlib.Numerals.{add-one}
use native.Mathlib.Omega.{arith}
use Rattle.format.specs.Places.{head_width, task_width, past, start}
use Rattle.format.specs.Said.{count_in, modes_in, tasks_in, tasks_before}
use Rattle.format.proofs.Places.{modes-small, near, next-before}
use Rattle.places.specs.declared.Owner.{Owner}
use Rattle.places.specs.Owner.{OwnsAs}

module _ (image : List ℕ) where
  pub next-start :
      (u : ℕ) {at modes tasks width : ℕ}
      → at ≡ start image u
      → modes ≡ modes_in image at
      → tasks ≡ tasks_in image at
      → width ≡ task_width modes
      → at + head_width + tasks * width ≡ start image (u + 1)
  unfolding start past
  next-start u starts modes tasks width = rw (add-one, ← starts, ← modes, ← tasks, ← width)

  pub next-tasks :
      (u : ℕ) {at before tasks : ℕ}
      → at ≡ start image u
      → before ≡ tasks_before image u
      → tasks ≡ tasks_in image at
      → before + tasks ≡ tasks_before image (u + 1)
  next-tasks u starts before tasks = rw (next-before image u, ← starts, ← before, ← tasks)

  pub walk-small : (u : ℕ) {at before : ℕ} → u ≤ count_in image → at ≡ start image u → before ≡ tasks_before image u → (before < 2048) × (at < 1_000_000)
  walk-small u counted starts tasks = omega (arith, near image u counted)

  pub owned-small : {p : ℕ} (o : Owner) → OwnsAs image p o → (o.before < 2 ^ 32) × (o.modes < 16) × (o.at ≤ p) × (p - o.at < 2 ^ 32)
  owned-small o is =
      let u = o.transaction in
      let narrow : o.modes < 16 = rw is.modes (modes-small image (start image u)) in
      omega (arith, near image u (omega (arith, is.counted)), near image (suc u) is.counted, is.owns, is.tasks, is.starts)
