-- The field, and the task, that holds a bit position, computed at worked images.
use Rattle.std.specs.Prelude.{◌≡◌, refl, List, [], ◌∷◌, ◌++◌, map, Some, ℕ, take, replicate, set}
use Rattle.std.proofs.Common.{lit<, lit≤}
use Rattle.table.specs.Table.{transactions, transaction, tasks}
use Rattle.table.specs.Number.{before, number}
use Rattle.table.specs.Fields.{TaskField}
use Rattle.format.specs.Computing as format
use Rattle.format.specs.Fault.{image_fault}
use Rattle.refusals.specs.Answer.{answer_place}
use Rattle.places.specs.declared.Field.TheVariants.{Edition, Frame, Transactions, Period, Modes, Tasks, Offset, Jitter, Blocking, Deadline, Priority, Time, Behind}
use Rattle.places.specs.Owner.{SpotAt}
use Rattle.places.specs.Find.{part_at, owner_of, holder_at, field_at}

unfoldable computing : Unit {0}
unfolding format.computing transactions transaction tasks before number part_at owner_of holder_at field_at
computing = tt

-- document 01's last image: one task of one mode
abbrev last : List ℕ
last =
    (0x10 ∷ 0x00 ∷ 0x00 ∷ 0xA0 ∷ 0x40 ∷ 0x00 ∷ 0x02 ∷ 0x84 ∷ 0x20 ∷ [])
    ++ replicate 11 0x00
    ++ (0x50 ∷ 0x28 ∷ 0x00 ∷ 0x00 ∷ 0x18 ∷ [])

-- the first bit of each field, and the first behind them
firsts :
    map (field_at last) (0 ∷ 4 ∷ 28 ∷ 34 ∷ 58 ∷ 62 ∷ 67 ∷ 91 ∷ 115 ∷ 139 ∷ 165 ∷ 173 ∷ 197 ∷ [])
    ≡ Edition ∷ Frame ∷ Transactions ∷ Period 0 ∷ Modes 0 ∷ Tasks 0 ∷ Offset 0 0 ∷ Jitter 0 0 ∷ Blocking 0 0 ∷ Deadline 0 0 ∷ Priority 0 0 ∷ Time 0 0 0 ∷ Behind ∷ []
unfolding computing
firsts = refl

-- and the last bit of each; beyond the image too there is an answer
lasts :
    map (field_at last) (3 ∷ 27 ∷ 33 ∷ 57 ∷ 61 ∷ 66 ∷ 90 ∷ 114 ∷ 138 ∷ 164 ∷ 172 ∷ 196 ∷ 100_000 ∷ [])
    ≡ Edition ∷ Frame ∷ Transactions ∷ Period 0 ∷ Modes 0 ∷ Tasks 0 ∷ Offset 0 0 ∷ Jitter 0 0 ∷ Blocking 0 0 ∷ Deadline 0 0 ∷ Priority 0 0 ∷ Time 0 0 0 ∷ Behind ∷ []
unfolding computing
lasts = refl

-- the image of S: transaction 0 has tasks 0 and 1, transaction 1 has task 2
abbrev S : List ℕ
S =
    0x10 ∷ 0x00 ∷ 0x01 ∷ 0x40 ∷ 0x80 ∷ 0x00 ∷ 0x05 ∷ 0x04 ∷ 0x40 ∷ 0x00 ∷ 0x00 ∷ 0x00 ∷ 0x00 ∷ 0x00 ∷ 0x00 ∷ 0x00
    ∷ 0x00 ∷ 0x00 ∷ 0x00 ∷ 0x00 ∷ 0x50 ∷ 0x48 ∷ 0x00 ∷ 0x00 ∷ 0x10 ∷ 0x00 ∷ 0x00 ∷ 0x20 ∷ 0x00 ∷ 0x00 ∷ 0x00 ∷ 0x00
    ∷ 0x00 ∷ 0x00 ∷ 0x00 ∷ 0x00 ∷ 0x14 ∷ 0x10 ∷ 0x00 ∷ 0x00 ∷ 0x06 ∷ 0x00 ∷ 0x00 ∷ 0x28 ∷ 0x21 ∷ 0x00 ∷ 0x00 ∷ 0x00
    ∷ 0x00 ∷ 0x00 ∷ 0x00 ∷ 0x00 ∷ 0x00 ∷ 0x00 ∷ 0x00 ∷ 0x00 ∷ 0x01 ∷ 0x00 ∷ 0x40 ∷ 0x00 ∷ 0x00 ∷ 0x80 ∷ []

-- bit 466 is bit 2 of byte 58
S-fields :
    map (field_at S) (196 ∷ 197 ∷ 302 ∷ 303 ∷ 326 ∷ 327 ∷ 359 ∷ 360 ∷ 432 ∷ 465 ∷ 466 ∷ 489 ∷ 490 ∷ [])
    ≡ Time 0 0 0 ∷ Offset 0 1 ∷ Priority 0 1 ∷ Time 0 1 0 ∷ Time 0 1 0 ∷ Period 1 ∷ Tasks 1 ∷ Offset 1 2 ∷ Deadline 1 2 ∷ Priority 1 2 ∷ Time 1 2 0 ∷ Time 1 2 0 ∷ Behind ∷ []
unfolding computing
S-fields = refl

-- two modes in transaction 0, one in transaction 1
abbrev distinct : List ℕ
distinct =
    0x10 ∷ 0x00 ∷ 0x00 ∷ 0xC0 ∷ 0x80 ∷ 0x00 ∷ 0x01 ∷ 0x88 ∷ 0x40 ∷ 0x00 ∷ 0x00 ∷ 0x20 ∷ 0x00 ∷ 0x00 ∷ 0x40 ∷ 0x00
    ∷ 0x00 ∷ 0x60 ∷ 0x00 ∷ 0x00 ∷ 0xC0 ∷ 0x28 ∷ 0x00 ∷ 0x00 ∷ 0x30 ∷ 0x00 ∷ 0x00 ∷ 0x38 ∷ 0x00 ∷ 0x00 ∷ 0x40 ∷ 0x00
    ∷ 0x00 ∷ 0x48 ∷ 0x00 ∷ 0x00 ∷ 0x50 ∷ 0x00 ∷ 0x00 ∷ 0x3E ∷ 0x18 ∷ 0x00 ∷ 0x00 ∷ 0x1A ∷ 0x00 ∷ 0x00 ∷ 0x00 ∷ 0x00
    ∷ 0x00 ∷ 0x18 ∷ 0x21 ∷ 0x00 ∷ 0x00 ∷ 0x0E ∷ 0x00 ∷ 0x00 ∷ 0x0F ∷ 0x00 ∷ 0x00 ∷ 0x10 ∷ 0x00 ∷ 0x00 ∷ 0x0B ∷ 0xC4
    ∷ 0x80 ∷ 0x00 ∷ 0x04 ∷ 0xC0 ∷ []

distinct-fields :
    map (field_at distinct) (196 ∷ 197 ∷ 220 ∷ 221 ∷ 350 ∷ 351 ∷ 374 ∷ 375 ∷ 514 ∷ 538 ∷ [])
    ≡ Time 0 0 0 ∷ Time 0 0 1 ∷ Time 0 0 1 ∷ Offset 0 1 ∷ Time 0 1 0 ∷ Time 0 1 1 ∷ Time 0 1 1 ∷ Period 1 ∷ Time 1 2 0 ∷ Behind ∷ []
unfolding computing
distinct-fields = refl

-- what the bytes do not hold says 0: an image cut behind its transaction count has one transaction of no task, and the empty
-- image has none
cut-fields : map (field_at (take 5 last)) (33 ∷ 34 ∷ 62 ∷ 66 ∷ 67 ∷ []) ≡ Transactions ∷ Period 0 ∷ Tasks 0 ∷ Tasks 0 ∷ Behind ∷ []
unfolding computing
cut-fields = refl

empty-fields : map (field_at []) (0 ∷ 4 ∷ 28 ∷ 33 ∷ 34 ∷ []) ≡ Edition ∷ Frame ∷ Transactions ∷ Transactions ∷ Behind ∷ []
unfolding computing
empty-fields = refl

-- a refused image, of three transactions the last two of which have no task
three-fields : map (field_at (set last 4 0xC0)) (196 ∷ 197 ∷ 229 ∷ 230 ∷ 262 ∷ 263 ∷ []) ≡ Time 0 0 0 ∷ Period 1 ∷ Tasks 1 ∷ Period 2 ∷ Tasks 2 ∷ Behind ∷ []
unfolding computing
three-fields = refl

-- what the place of each refusal is called, 1 to 11 and 14: the image with a byte changed, cut or added to
abbrev faulty : List (List ℕ)
faulty =
    []
    ∷ take 24 last
    ∷ set last 0 0x20
    ∷ set last 3 0x00
    ∷ set last 4 0x00
    ∷ set last 6 0x01
    ∷ set last 7 0x80
    ∷ set last 8 0x00
    ∷ set last 20 0x00
    ∷ set last 24 0x00
    ∷ set last 24 0x19
    ∷ (last ++ (0x00 ∷ []))
    ∷ set last 20 0x10
    ∷ []

refused-fields :
    map (λ image. field_at image (answer_place (image_fault image))) faulty
    ≡ Edition ∷ Time 0 0 0 ∷ Edition ∷ Frame ∷ Transactions ∷ Period 0 ∷ Modes 0 ∷ Tasks 0 ∷ Deadline 0 0 ∷ Time 0 0 0 ∷ Behind ∷ Behind ∷ Deadline 0 0 ∷ []
unfolding computing
refused-fields = refl

-- bit 432 of S is one of its last task's, which starts at 360 and has one mode
S-task : SpotAt S 432 (Some (record { at = 360; modes = 1 }))
unfolding computing
S-task =
    record {
      u = 1;
      j = 0;
      field = TaskField.deadline;
      holds = record { has = (record { owner = lit< tt; place = lit< tt }, tt); bit = record { from = lit≤ tt; below = lit< tt } };
      modes = refl;
      starts = refl;
    }
