-- The first fault of an image, front to back: a table's rules, of which the image ends inside a field before the field has a
-- rule, and then the end of the image.
use Rattle.std.specs.Prelude.{◌≡◌, List, ℕ, ◌-◌, ◌*◌, length, leb, eqb}
use Rattle.bits.specs.Bits.{value_at, is_inside}
use Rattle.table.specs.Limits.{Limits, limits}
use Rattle.table.specs.Fields.{Field, width_in_header, width_in_head, width_in_task, width}
use Rattle.table.specs.Fields.Field.{header, head, task}
use Rattle.table.specs.Rules.{Look, Deadlines, header_rules, head_rules, task_rules, transaction_rules, body_rules, table_rules}
use Rattle.table.specs.Rules.Deadlines.{keepable}
use Rattle.refusals.specs.declared.Refusal.TheVariants.{EndsInside, PaddingSet, BytesFollow}
use Rattle.refusals.specs.Answer.{Answer, accepted, ◌then◌, checked}
use Rattle.format.specs.Places.{place_in_header, place_in_head, place_in_task, task_at, start, bytes_to}
use Rattle.format.specs.Said.{frame_in, count_in, modes_in}

-- the image ends inside the w bits at p, of which there may be none
abbrev pub ends_at : List ℕ → (p w : ℕ) → Answer
ends_at image p w = checked (is_inside image p w) EndsInside p

-- what an image says of fields of those widths at those places
abbrev pub look_at : {F : Type 0} → List ℕ → (place width : F → ℕ) → Look F
look_at image place width = record { finding = λ f. ends_at image (place f) (width f); place = place; number = λ f. value_at image (place f) (width f) }

-- the place of each field, the image itself telling where a transaction and a task start
abbrev pub place_in : List ℕ → Field → ℕ
place_in image (header f) = place_in_header f
place_in image (head u f) = place_in_head (start image u) f
place_in image (task u j f) = place_in_task (task_at (start image u) (modes_in image (start image u)) j) f

abbrev pub image_look : List ℕ → Look Field
image_look image = look_at image (place_in image) width

-- padding that starts at p, and what follows it
unfoldable pub end_fault : List ℕ → (p : ℕ) → Answer
end_fault image p =
    checked (eqb (value_at image p (8 * bytes_to p - p)) 0) PaddingSet p
    then checked (leb (length image) (bytes_to p)) BytesFollow (8 * bytes_to p)

-- the first fault under those limits, with those deadlines let in; and under the limits that there are, only deadlines that can be
-- kept let in
abbrev pub fault_under : Limits → Deadlines → List ℕ → Answer
fault_under most deadlines image = table_rules ◌then◌ most deadlines (image_look image) then end_fault image (start image (count_in image))

unfoldable pub image_fault : List ℕ → Answer
image_fault image = fault_under limits keepable image

-- the image is accepted
abbrev pub IsAccepted : List ℕ → Type 0
IsAccepted image = image_fault image ≡ accepted

-- ---- the rules of each part, wherever it starts: what the reader looks at in turn

abbrev pub header_fault : List ℕ → Answer
header_fault image = header_rules ◌then◌ limits (look_at image place_in_header width_in_header)

-- the task of m modes that starts at q
abbrev pub task_fault : List ℕ → (m q : ℕ) → Answer
task_fault image m q = task_rules ◌then◌ keepable m (look_at image (place_in_task q) width_in_task)

-- the counts and the period of the transaction that starts at p, where `before` tasks stand before it
abbrev pub head_fault : List ℕ → (before p : ℕ) → Answer
head_fault image before p = head_rules ◌then◌ limits (frame_in image) before (look_at image (place_in_head p) width_in_head)

abbrev pub transaction_fault : List ℕ → (before p : ℕ) → Answer
transaction_fault image before p =
    transaction_rules ◌then◌ limits keepable (frame_in image) before (look_at image (place_in_head p) width_in_head)
    (λ j. look_at image (place_in_task (task_at p (modes_in image p) j)) width_in_task)

-- the transactions, and the end of the image
abbrev pub body_fault : List ℕ → Answer
body_fault image = body_rules ◌then◌ limits keepable (image_look image) then end_fault image (start image (count_in image))
