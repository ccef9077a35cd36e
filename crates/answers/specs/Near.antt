-- How far from 0 a job's number may be.
use Rattle.std.specs.Prelude.{ℤ, ◌<◌, ◌^◌}
use Rattle.std.specs.Int.Signed.{mag}

-- a job number that no sum of a few takes out of 64 bits
abbrev pub Near : ℤ → Type 0
Near p = mag p < 2 ^ 26
