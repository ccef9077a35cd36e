-- Which later jobs' charge a flag asks for.
use Rattle.std.specs.Prelude.{Bool, true, false}
use Rattle.periods.specs.Charge.{imposed, released}
use Rattle.analysis.specs.Charge.{Later}

-- whole jobs at their release, or what they impose
abbrev pub later_of : Bool → Later
later_of true = released
later_of false = imposed
