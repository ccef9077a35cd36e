-- Behind the head of a transaction that has no fault stand its tasks: what is found there, and what their bits are.
use mathlib.Core.Path.{◌≡◌}
use mathlib.Core.List.{List}
use Prim.Native.Nat.{ℕ, ◌+◌, ◌*◌}
use Rattle.refusals.specs.Answer.{Answer, accepted, first_of}
use Rattle.refusals.proofs.Findings.{joining}
use Rattle.format.specs.Places.{head_width, task_width}
use Rattle.row.specs.Row.{modes_cell, has_cell, head_cell}
use Rattle.writer.specs.declared.parts.Tasks.{Tasks}
use Rattle.writer.specs.Scan.{head_fault, task_fault, transaction_fault}
use Rattle.writer.proofs.Scanned.{transaction-parts}

abbrev pub tasks_faults : Tasks → ℕ → Answer
tasks_faults t j = task_fault t.row.now t.modes (t.first + j) (t.at + j * task_width t.modes)

pub behind-head :
    {row : List ℕ} (u before at : ℕ) (t : Tasks) {a : Answer}
    → t.row.now ≡ row
    → t.first ≡ before
    → t.count ≡ head_cell row u has_cell
    → t.modes ≡ head_cell row u modes_cell
    → t.at ≡ at + head_width
    → head_fault row u before at ≡ accepted
    → first_of t.count (tasks_faults t) ≡ a
    → transaction_fault row u before at ≡ a
unfolding joining
behind-head u before at t its-row first count modes place sound all =
    rw (transaction-parts _ u before at, sound, ← place, ← modes, ← count, ← first, ← its-row) all
