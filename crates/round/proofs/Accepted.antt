-- An accepted table is one whose image is accepted: its numbers fit, it keeps every bound, and its image says it. And the table
-- that an accepted image says is accepted.
use mathlib.Core.Path.{◌≡◌, refl, ◌∙◌}
use mathlib.Core.List.{List}
use Prim.Native.Nat.{ℕ}
use borrow.Author.Tests.{ltb-true}
use Rattle.refusals.specs.Answer.{accepted}
use Rattle.refusals.proofs.Findings.{then-joins, held}
use Rattle.table.specs.Table.{Table}
use Rattle.table.specs.Limits.{limits}
use Rattle.table.specs.Fields.{Field, number_in, IsField, Fits, Timed}
use Rattle.table.specs.Kept.{Kept}
use Rattle.table.proofs.Rules.{SoundTable, sound-table}
use Rattle.table.proofs.Accepted.{Reads, rules-keep, kept-rules, kept-fits}
use Rattle.table.specs.Rules.Deadlines.{keepable}
use Rattle.format.specs.Said.{table_in}
use Rattle.format.specs.Fault.{IsAccepted}
use Rattle.format.specs.Image.{image_of}
use Rattle.format.specs.Write.{table_look, table_fault}
use Rattle.format.proofs.Kept.{kept}
use Rattle.round.proofs.Back.{read_back}
use Rattle.round.proofs.Refused.{fits-clear, refused-alike}

module _ (tab : Table) where
  own-reads : Reads (table_look tab) tab
  own-reads = record { number = λ f has. refl }

  module _ (ok : table_fault tab ≡ accepted) where
    sound : SoundTable limits keepable (table_look tab)
    unfolding table_fault
    sound = sound-table limits keepable then-joins (table_look tab) ok

    own-clear : (f : Field) → IsField tab f → (table_look tab).finding f ≡ accepted
    unfolding number_in
    own-clear (Field.header f) has = sound.header.there f
    own-clear (Field.head u f) has = (sound.transaction u has).head.there f
    own-clear (Field.task u j f) has = ((sound.transaction u has.0.owner).task j has.0.place).there f has.1

    pub accepted-fits : Fits tab
    accepted-fits = record { below = λ f has. ltb-true _ _ (held _ _ _ (own-clear f has)) }

    pub accepted-kept : Timed tab → Kept tab
    unfolding table_fault
    accepted-kept timed = rules-keep own-reads accepted-fits timed then-joins ok

    pub written-accepted : Timed tab → IsAccepted (image_of tab) × (table_in (image_of tab) ≡ tab)
    written-accepted timed = (refused-alike tab accepted-fits timed ∙ ok, read_back tab accepted-fits timed)

  pub kept-accepted : Kept tab → table_fault tab ≡ accepted
  unfolding table_fault
  kept-accepted k = kept-rules own-reads k (fits-clear tab (kept-fits k)) then-joins

-- what is read can be written
pub write-back : (image : List ℕ) → IsAccepted image → table_fault (table_in image) ≡ accepted
write-back image ok = kept-accepted (table_in image) (kept image ok)
