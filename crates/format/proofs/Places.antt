-- Places are small, whatever the bytes are: the widths of the counts alone bound them.
use mathlib.Core.Path.{◌≡◌}
use mathlib.Core.List.{List}
use Prim.Native.Nat.{ℕ, zero, suc, ◌+◌, ◌*◌, ◌≤◌, ◌<◌}
use native.Mathlib.Nat.{mul-le-mul}
use native.Mathlib.Numerals.{add-one}
use native.Mathlib.Omega.{arith}
use Rattle.bits.proofs.Fields.{value-below}
use Rattle.table.specs.Sum.{sum}
use Rattle.format.specs.Places.{modes_at, tasks_at, count_at, task_width, past, start}
use Rattle.format.specs.Said.{count_in, modes_in, tasks_in, tasks_before}

pub count_small : (image : List ℕ) → count_in image < 64
count_small image = value-below image count_at 6

pub modes-small : (image : List ℕ) (p : ℕ) → modes_in image p < 16
modes-small image p = value-below image (modes_at p) 4

pub tasks-small : (image : List ℕ) (p : ℕ) → tasks_in image p < 32
tasks-small image p = value-below image (tasks_at p) 5

-- j tasks of m modes take at most as many bits as 31 tasks of 15 modes
pub tasks-width : (j m : ℕ) → j < 32 → m < 16 → j * task_width m ≤ 14446
tasks-width j m few narrow =
    let most : j ≤ 31 = omega arith in
    let wide : task_width m ≤ 466 = omega arith in
    mul-le-mul most wide

pub past-small : (image : List ℕ) (p : ℕ) → past image p ≤ p + 14479
unfolding past
past-small image p =
    omega (arith, tasks-width (tasks_in image p) (modes_in image p) (tasks-small image p) (modes-small image p))

-- the transaction behind u, and the tasks before it

pub next_start : (image : List ℕ) (u : ℕ) → start image (u + 1) ≡ past image (start image u)
unfolding start
next_start image u = rw (add-one u)

pub next-before : (image : List ℕ) (u : ℕ) → tasks_before image (u + 1) ≡ tasks_before image u + tasks_in image (start image u)
unfolding tasks_before sum
next-before image u = rw (add-one u)

pub start_small : (image : List ℕ) (u : ℕ) → start image u ≤ 34 + 14479 * u
unfolding start
start_small image zero = omega arith
start_small image (suc u) = omega (arith, past-small image (start image u), start_small image u)

pub before_small : (image : List ℕ) (u : ℕ) → tasks_before image u ≤ 31 * u
unfolding tasks_before sum
before_small image zero = omega arith
before_small image (suc u) = omega (arith, tasks-small image (start image u), before_small image u)

-- a walk over the transactions that the image counts
pub record Near (image : List ℕ) (u : ℕ) : Type 0 where
  pub number : u < 64
  pub before : tasks_before image u < 2048
  pub start : Rattle.format.specs.Places.start image u < 1_000_000

pub near : (image : List ℕ) (u : ℕ) → u ≤ count_in image → Near image u
near image u h =
    record {
      number = omega (arith, count_small image);
      before = omega (arith, count_small image, before_small image u);
      start = omega (arith, count_small image, start_small image u);
    }
