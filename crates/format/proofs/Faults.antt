-- The first fault of an image part by part, as the reader comes to it: the header, then each transaction, of each its head and
-- then its tasks, and last the end.
use mathlib.Core.Path.{◌≡◌, refl}
use mathlib.Core.List.{List}
use Prim.Native.Nat.{ℕ}
use Rattle.table.specs.Limits.{limits}
use Rattle.table.specs.Rules.{transaction_rules, body_rules, table_rules}
use Rattle.table.specs.Rules.Deadlines.{keepable}
use Rattle.refusals.specs.Answer.{◌then◌, first_of}
use Rattle.refusals.proofs.Findings.{then-assoc}
use Rattle.format.specs.Places.{task_at, start}
use Rattle.format.specs.Said.{count_in, modes_in, tasks_in, tasks_before}
use Rattle.format.specs.Fault.{image_look, header_fault, head_fault, task_fault, transaction_fault, body_fault, image_fault}

module _ (image : List ℕ) where
  pub image-parts : image_fault image ≡ (header_fault image then body_fault image)
  unfolding image_fault table_rules
  image-parts = then-assoc _ _ _

  pub body-parts : body_rules ◌then◌ limits keepable (image_look image) ≡ first_of (count_in image) (λ u. transaction_fault image (tasks_before image u) (start image u))
  unfolding body_rules tasks_before first_of
  body-parts = refl

  pub transaction-parts :
      (before p : ℕ)
      → transaction_fault image before p
      ≡ (head_fault image before p then first_of (tasks_in image p) (λ j. task_fault image (modes_in image p) (task_at p (modes_in image p) j)))
  unfolding transaction_rules first_of
  transaction-parts before p = refl
