-- Whether every write so far was taken, handed from writer to writer. What a write gave no contract says; what is said is
-- that a failed one is never forgotten.
use Rattle.std.specs.Prelude.{Bool, true, false, ℕ, ◌≤◌}
use Rattle.std.proofs.Common.{arith}

-- 1 where every write was taken
unfoldable pub taken : Bool → ℕ
taken true = 1
taken false = 0

-- who was told `before` and says `after` says that all is whole only if it was so before
abbrev pub Keeps : (before after : Bool) → Type 0
Keeps before after = taken after ≤ taken before

-- a failed write stays failed; one that was taken may be followed by one that fails
stays-failed : ¬ (Keeps false true)
unfolding taken
stays-failed h = omega (arith, h)

may_fail : Keeps true false
unfolding taken
may_fail = omega arith
