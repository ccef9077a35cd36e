-- Of a writer that writes only where all is whole, whatever its write gives.
use mathlib.Core.Bool.{Bool, true, false, false≢true}
use mathlib.Core.Path.{◌≡◌, sym, ◌∙◌}
use native.Mathlib.Omega.{arith}
use Rattle.std.specs.Prelude.{Result, is_ok, IsTrue}
use Rattle.std.specs.declared.io.Error.{Error}
use Rattle.page.specs.declared.handle.Out.{Out}
use Rattle.page.specs.Whole.{taken, Keeps}
use Rattle.page.specs.Handle.{whole, Agrees, Writes}

pub keeps-whole : (whole after : Bool) → whole ≡ true → Keeps whole after
unfolding taken
keeps-whole true true e = omega arith
keeps-whole true false e = omega arith
keeps-whole false true e = absurd (false≢true e)
keeps-whole false false e = omega arith

-- who says that all is not whole says nothing too much
pub keeps-none : (whole : Bool) → Keeps whole false
unfolding taken
keeps-none true = omega arith
keeps-none false = omega arith

-- a writer that begins with a handle of which all is whole, and says at its end what the handle keeps
pub whole-writes :
    (before after : Out) (r : Result (Unit {0}) Error)
    → IsTrue (whole before) → Agrees after r → Writes before after r
whole-writes before after r all agrees =
    (keeps-whole (whole before) (is_ok r) all, agrees, λ lost. absurd (false≢true (sym lost ∙ all)))
