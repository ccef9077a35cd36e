-- What is told of a task by the work cells that are its own is told of that task of the table.
use Rattle.std.proofs.Common.{ℕ, List, Ok, Err, subst}
use Rattle.std.proofs.Math.Path.{subst₂}
use Rattle.table.specs.Table.{Table}
use Rattle.row.specs.Row.{table_of}
use Rattle.refusals.specs.declared.Fault.{Fault}
use Rattle.parts.specs.Parts.{OfTask}
use Rattle.answers.specs.declared.charges.Subject.{Subject}
use Rattle.answers.specs.Work.{Lent, IsSubject}
use Rattle.answers.specs.Parts.{Chooses}

module _ {work : List ℕ} {k : ℕ} {tab : Table} where
  -- the work cells are lent, and the subject's
  pub chosen-lent : {s : Subject} → OfTask (Chooses work) k tab (Ok s) → Lent work × IsSubject work s
  chosen-lent (OfTask.known is_task numbered c) = (c.lent, c.subject)

  module _ {R : Type 0} {Told : Table → (u a : ℕ) → R → Type 0} where
    pub chosen-told : {s : Subject} {r : R} → OfTask (Chooses work) k tab (Ok s) → Told (table_of work) s.u s.a r → OfTask Told k tab (Ok r)
    chosen-told {s} {r} (OfTask.known is_task numbered c) h =
        OfTask.known is_task numbered (subst₂ (λ (v b : ℕ). Told tab v b r) c.is.0 c.is.1 (subst (λ (x : Table). Told x s.u s.a r) c.table h))

    -- 13 in every case
    pub chosen-none : {f : Fault} → OfTask (Chooses work) k tab (Err f) → OfTask Told k tab (Err f)
    chosen-none (OfTask.unknown l) = OfTask.unknown l
