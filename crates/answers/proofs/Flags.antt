-- Decisions as the flags that tests give, and choosing by them.
use mathlib.Core.Path.{◌≡◌, refl}
use mathlib.Core.Bool.{true, false}
use Prim.Native.Nat.{ℕ, ◌<◌}
use native.Mathlib.Omega.{arith}
use lib.Dec.{ltb}
use borrow.Author.Tests.{lt-ltb, le-ltb}
use Rattle.analysis.specs.Choice.{when}
use Rattle.answers.specs.Lent.{tested}

pub tested-yes : {A : Type 0} (d : Dec A) → A → tested d ≡ true
unfolding tested
tested-yes (yes a) h = refl
tested-yes (no f) h = absurd (f h)

-- no flag is both
pub never : false ≡ true → ⊥
never e = let z : ◌≡◌ {A = ℕ} 0 1 = cc in omega arith

-- what is chosen or not tells the flag

pub chosen-flag : {A : Type 0} (d : Dec A) → when d 1 ≡ 1 → tested d ≡ true
unfolding tested when
chosen-flag (yes a) e = refl
chosen-flag (no f) e = absurd (omega arith)

pub spared-flag : {A : Type 0} (d : Dec A) → when d 1 ≡ 0 → tested d ≡ false
unfolding tested when
spared-flag (yes a) e = absurd (omega arith)
spared-flag (no f) e = refl

-- a comparison is the flag of its decision
pub tested-lt : (x y : ℕ) (d : Dec (x < y)) → ltb x y ≡ tested d
unfolding tested
tested-lt x y (yes h) = lt-ltb x y h
tested-lt x y (no h) = le-ltb x y (omega arith)
