-- What an editor is told of document 01's last image and of the same with a deadline of 0, computed: the number, and the first cells
-- of an array that held sevens.
use Rattle.std.specs.Prelude.{◌≡◌, refl, [], ◌∷◌, map, ℕ, take, replicate}
use Rattle.bits.specs.Bits.{field_bits}
use Rattle.refusals.specs.Answer.{answer_number, answer_place}
use Rattle.table.specs.Table.{Table, transactions, transaction, tasks, task}
use Rattle.table.specs.Number.{before, in_all}
use Rattle.table.specs.Lists.{joined, padded}
use Rattle.table.specs.Sample.{plain, lone}
use Rattle.table.specs.Computing as table
use Rattle.format.specs.Computing.{computing}
use Rattle.format.specs.Fault.{image_fault}
use Rattle.format.specs.Image.{task_bits, transaction_bits, table_bits, number_of, bytes_of, image_of}
use Rattle.format.specs.Write.{start_of, table_fault, write_fault}
use Rattle.row.specs.Row.{row_cells, of_transaction, of_task, of_header, row_of}
use Rattle.image.specs.Read.{row_over}
use Rattle.writer.specs.Write.{writing_number, writing_place, answered}
use Rattle.told.specs.Told.{paired}

-- the table of one task, with that deadline
abbrev due : ℕ → Table
due D = lone 10 (plain 0 3 5 D)

-- 0, and 8 × 2^32 + 139
read : map (λ D. paired (answer_number (image_fault (image_of (due D)))) (answer_place (image_fault (image_of (due D))))) (10 ∷ 0 ∷ []) ≡ 0 ∷ 34_359_738_507 ∷ []
unfolding paired computing image_of table_bits transaction_bits task_bits field_bits bytes_of number_of joined transactions transaction
read = refl

-- edition, frame, transactions, tasks in all, a spare cell, the period; a refusal leaves the sevens
cells :
    map (λ D. take 6 (row_over (image_fault (image_of (due D))) (image_of (due D)) (replicate row_cells 7))) (10 ∷ 0 ∷ [])
    ≡ (1 ∷ 10 ∷ 1 ∷ 1 ∷ 0 ∷ 10 ∷ [])
    ∷ (7 ∷ 7 ∷ 7 ∷ 7 ∷ 7 ∷ 7 ∷ [])
    ∷ []
unfolding computing image_of table_bits transaction_bits task_bits field_bits bytes_of number_of joined padded transactions transaction tasks task before in_all row_of of_header of_transaction of_task
cells = refl

-- 25 bytes, and 30 × 2^32 for one fewer
written :
    map (λ n. paired (writing_number (answered (write_fault (due 10) n) (image_of (due 10)))) (writing_place (answered (write_fault (due 10) n) (image_of (due 10))))) (25 ∷ 24 ∷ [])
    ≡ 25 ∷ 128_849_018_880 ∷ []
unfolding paired table.computing start_of table_fault write_fault image_of table_bits transaction_bits task_bits field_bits bytes_of number_of joined
written = refl
