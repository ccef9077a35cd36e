-- What the handle of standard output keeps, and what a writer that is given it says of its writes.
use Rattle.std.specs.Prelude.{ℤ, pos, Bool, false, ◌≡◌, Option, Some, None, Result, Ok, Err, is_ok, is_none, IsTrue}
use Rattle.std.specs.IoError.{raw_os_error}
use Rattle.std.specs.declared.io.Error.{Error}
use Rattle.page.specs.Whole.{Keeps}
use Rattle.page.specs.declared.handle.Out.{Out}

-- whether every write so far was taken
abbrev pub whole : Out → Bool
whole out = is_none out.lost

abbrev pub number_or_0 : Option ℤ → ℤ
number_or_0 (Some code) = code
number_or_0 None = pos 0

-- the system's number of why the last write that failed did so, 0 before any
abbrev pub number_of : Out → ℤ
number_of out = number_or_0 out.lost

-- a result that says of a handle what the handle keeps: that all is whole, or why it is not
abbrev pub Agrees : Out → Result (Unit {0}) Error → Type 0
Agrees out (Ok _) = IsTrue (whole out)
Agrees out (Err e) = (whole out ≡ false) × (raw_os_error e ≡ Some (number_of out))

-- what a writer says that is given the handle: that all is whole only if it was so before, and what the handle keeps then
abbrev pub Writes : (before after : Out) → Result (Unit {0}) Error → Type 0
Writes before after result = Keeps (whole before) (is_ok result) × Agrees after result × (whole before ≡ false → after ≡ before)
