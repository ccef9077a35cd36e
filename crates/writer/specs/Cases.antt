-- Document 01's last image, written into buffers that are too long, exact and a byte short, and its table with deadlines of 0 and of 2,
-- which is below its task's time of 3.
use Rattle.std.specs.Prelude.{◌≡◌, refl, List, [], ◌∷◌, ◌++◌, map, ℕ, replicate}
use Rattle.bits.specs.Bits.{field_bits}
use Rattle.refusals.specs.declared.Refusal.TheVariants.{DeadlineZero, DeadlineShort, BufferShort}
use Rattle.table.specs.Lists.{joined}
use Rattle.table.specs.Sample.{plain, lone}
use Rattle.table.specs.Computing.{computing}
use Rattle.format.specs.Image.{task_bits, transaction_bits, table_bits, number_of, bytes_of, image_of}
use Rattle.format.specs.Write.{start_of, table_fault, write_fault}
use Rattle.refusals.specs.Answer.{refused}
use Rattle.writer.specs.Write.{Writing, written, answered, holding}

-- n bytes of 0xFF
abbrev full : ℕ → List ℕ
full n = replicate n 0xFF

-- what is answered, and what the buffer then holds, for the table of one task with that deadline and n bytes

abbrev told : (D n : ℕ) → Writing
told D n = answered (write_fault (lone 10 (plain 0 3 5 D)) n) (image_of (lone 10 (plain 0 3 5 D)))

abbrev left : (D n : ℕ) → List ℕ
left D n = holding (write_fault (lone 10 (plain 0 3 5 D)) n) (image_of (lone 10 (plain 0 3 5 D))) (full n)

answers :
    map (told 10) (27 ∷ 25 ∷ 24 ∷ []) ++ map (told 0) (25 ∷ 0 ∷ []) ++ map (told 2) (25 ∷ 0 ∷ []) ++ map (told 3) (25 ∷ [])
    ≡ written 25
    ∷ written 25
    ∷ refused BufferShort 0
    ∷ refused DeadlineZero 139
    ∷ refused DeadlineZero 139
    ∷ refused DeadlineShort 139
    ∷ refused DeadlineShort 139
    ∷ written 25
    ∷ []
unfolding computing start_of table_fault write_fault image_of table_bits transaction_bits task_bits field_bits bytes_of number_of joined
answers = refl

-- the image, and the two bytes beyond it as they were; a refusal leaves all
buffers :
    left 10 27 ∷ left 10 24 ∷ left 0 25 ∷ left 2 25 ∷ []
    ≡ ((0x10 ∷ 0x00 ∷ 0x00 ∷ 0xA0 ∷ 0x40 ∷ 0x00 ∷ 0x02 ∷ 0x84 ∷ 0x20 ∷ []) ++ replicate 11 0x00 ++ (0x50 ∷ 0x28 ∷ 0x00 ∷ 0x00 ∷ 0x18 ∷ 0xFF ∷ 0xFF ∷ []))
    ∷ full 24
    ∷ full 25
    ∷ full 25
    ∷ []
unfolding computing start_of table_fault write_fault image_of table_bits transaction_bits task_bits field_bits bytes_of number_of joined
buffers = refl
