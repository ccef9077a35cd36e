-- What is promised of reading: the bytes counted lie in the buffer, and reading fails only where the buffer has room, so that
-- there was something to read.
use Rattle.std.specs.Prelude.{ℕ, ◌≡◌, ◌≤◌, ◌<◌, List, length, take, Result, Ok, Err}
use Rattle.std.specs.declared.io.Error.{Error}

abbrev pub Within : ℕ → Result ℕ Error → Type 0
Within size (Ok n) = n ≤ size
Within size (Err _) = 0 < size

-- `&xs[..n]` is in bounds and has n bytes. The second part follows from the first, and spares a caller's `&buf[..n]` a proof file.
abbrev pub IsPrefixLen : ℕ → List ℕ → Type 0
IsPrefixLen n xs = (n ≤ length xs) × (n ≡ length (take n xs))
