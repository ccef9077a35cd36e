-- A signed number as the difference of two natural ones, so that what is signed in document 01 can be reckoned with in ℕ.
use mathlib.Core.Path.{◌≡◌}
use mathlib.Core.Bool.{Bool, true, false, not, cond}
use lib.IntN.{ℤ, pos, negsuc, sub_ℕ, ◌-ℤ◌}
use lib.Dec.{T, ltb, ltb→lt, nltb→le}
use Prim.Native.Nat.{ℕ, zero, suc, ◌+◌, ◌-◌, ◌≤◌, ◌<◌}
use native.Mathlib.Omega.{arith}

-- z = a − b
abbrev pub Diff : (z : ℤ) (a b : ℕ) → Type 0
Diff (pos n) a b = n + b ≡ a
Diff (negsuc n) a b = suc n + a ≡ b

pub subℕ-diff : (a b : ℕ) → Diff (sub_ℕ a b) a b
subℕ-diff a b = go (ltb a b) (ltb→lt a b) (nltb→le a b)
  where
    go : (t : Bool) → (T t → a < b) → (T (not t) → b ≤ a) → Diff (cond t (negsuc (b - suc a)) (pos (a - b))) a b
    go true l n =
        let h : a < b = l tt in
        omega arith
    go false l n =
        let h : b ≤ a = n tt in
        omega arith

pub sub-diff : (a b : ℕ) → Diff (pos a -ℤ pos b) a b
sub-diff a zero = omega arith
sub-diff a (suc b) = subℕ-diff a (suc b)
