-- Who charges most, in the code's own type.
use Rattle.std.specs.Prelude.{Option, None, Some}
use Rattle.analysis.specs.Who as who
use Rattle.analysis.specs.Who.{nobody, charged}
use Rattle.answers.specs.declared.who.Charged.{Charged}

-- what the code says, as the definition has it
unfoldable pub most_said : Option Charged → who.Most
most_said None = nobody
most_said (Some x) = charged x.ticks.0 (record { mode = x.by.mode; candidate = x.by.candidate })
