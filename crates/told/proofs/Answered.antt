-- The cells of a bound: the test against the deadline decides between 0 and 20.
use mathlib.Core.Path.{◌≡◌, refl}
use Prim.Native.Nat.{ℕ, ◌≤◌, ◌<◌}
use native.Mathlib.Decide.{dec_le}
use native.Mathlib.Omega.{arith}
use Rattle.analysis.specs.Answer.{Named, Cells, bound, code_by, cells}

-- the cells of a bound with that code
abbrev coded : (code R n : ℕ) → Named → Cells
coded code R n by = record { code = code; bound = R; evaluations = n; mode = by.mode; candidate = by.candidate; job = by.job }

module _ (R n : ℕ) (by : Named) (D : ℕ) where
  code-kept : (d : Dec (R ≤ D)) → R ≤ D → code_by d ≡ 0
  unfolding code_by
  code-kept (yes l) h = refl
  code-kept (no l) h = absurd (l h)

  code-late : (d : Dec (R ≤ D)) → D < R → code_by d ≡ 20
  unfolding code_by
  code-late (yes l) h = absurd (omega arith)
  code-late (no l) h = refl

  -- a bound within the deadline has the code 0
  pub kept-cells : R ≤ D → cells D (bound R n by) ≡ coded 0 R n by
  unfolding cells
  kept-cells h = rw (code-kept (dec_le R D) h)

  -- and one beyond it 20
  pub late-cells : D < R → cells D (bound R n by) ≡ coded 20 R n by
  unfolding cells
  late-cells h = rw (code-late (dec_le R D) h)
