-- Worked images, computed: document 01's last image field by field, and refusals with their numbers and places.
use Rattle.std.specs.Prelude.{◌≡◌, refl, List, [], ◌∷◌, ◌++◌, map, ℕ, take, replicate, set}
use Rattle.table.specs.Limits.{limits}
use Rattle.table.specs.Raised.{limits_before}
use Rattle.table.specs.Rules.Deadlines.{any, keepable}
use Rattle.table.specs.Sample.{plain, lone}
use Rattle.refusals.specs.declared.Refusal.TheVariants.{EndsInside, EditionUnknown, FrameZero, TransactionCount, PeriodUnfit, ModeCount, TaskCount, DeadlineZero, NeverRuns, PaddingSet, BytesFollow, DeadlineShort}
use Rattle.refusals.specs.Answer.{accepted, refused, answer_number}
use Rattle.format.specs.Said.{table_in}
use Rattle.format.specs.Fault.{head_fault, fault_under, image_fault}
use Rattle.format.specs.Computing.{computing}

-- one task, frame 10, T 10, C 3, P 5, D 10
abbrev pub last : List ℕ
last =
    (0x10 ∷ 0x00 ∷ 0x00 ∷ 0xA0 ∷ 0x40 ∷ 0x00 ∷ 0x02 ∷ 0x84 ∷ 0x20 ∷ [])
    ++ replicate 11 0x00
    ++ (0x50 ∷ 0x28 ∷ 0x00 ∷ 0x00 ∷ 0x18 ∷ [])

last-is-accepted : image_fault last ≡ accepted
unfolding computing
last-is-accepted = refl

last_says : table_in last ≡ lone 10 (plain 0 3 5 10)
unfolding computing
last_says = refl

-- a table in which no two fields are the same number
abbrev distinct : List ℕ
distinct =
    0x10 ∷ 0x00 ∷ 0x00 ∷ 0xC0 ∷ 0x80 ∷ 0x00 ∷ 0x01 ∷ 0x88 ∷ 0x40 ∷ 0x00 ∷ 0x00 ∷ 0x20 ∷ 0x00 ∷ 0x00 ∷ 0x40 ∷ 0x00
    ∷ 0x00 ∷ 0x60 ∷ 0x00 ∷ 0x00 ∷ 0xC0 ∷ 0x28 ∷ 0x00 ∷ 0x00 ∷ 0x30 ∷ 0x00 ∷ 0x00 ∷ 0x38 ∷ 0x00 ∷ 0x00 ∷ 0x40 ∷ 0x00
    ∷ 0x00 ∷ 0x48 ∷ 0x00 ∷ 0x00 ∷ 0x50 ∷ 0x00 ∷ 0x00 ∷ 0x3E ∷ 0x18 ∷ 0x00 ∷ 0x00 ∷ 0x1A ∷ 0x00 ∷ 0x00 ∷ 0x00 ∷ 0x00
    ∷ 0x00 ∷ 0x18 ∷ 0x21 ∷ 0x00 ∷ 0x00 ∷ 0x0E ∷ 0x00 ∷ 0x00 ∷ 0x0F ∷ 0x00 ∷ 0x00 ∷ 0x10 ∷ 0x00 ∷ 0x00 ∷ 0x0B ∷ 0xC4
    ∷ 0x80 ∷ 0x00 ∷ 0x04 ∷ 0xC0 ∷ []

distinct-says :
    table_in distinct
    ≡ record { edition = 1; frame = 12; transactions = record { period = 6; modes = 2; tasks = record { offset = 1; jitter = 2; blocking = 3; deadline = 24; priority = 5; times = 6 ∷ 7 ∷ [] } ∷ record { offset = 8; jitter = 9; blocking = 10; deadline = 31; priority = 12; times = 13 ∷ 0 ∷ [] } ∷ [] } ∷ record { period = 12; modes = 1; tasks = record { offset = 14; jitter = 15; blocking = 16; deadline = 47; priority = 18; times = 19 ∷ [] } ∷ [] } ∷ [] }
unfolding computing
distinct-says = refl

distinct-is-accepted : image_fault distinct ≡ accepted
unfolding computing
distinct-is-accepted = refl

-- each refusal, at its place: the image with a byte changed, cut or added to; 0xA8 counts 33 transactions, of which one is there
abbrev faulty : List (List ℕ)
faulty =
    []
    ∷ take 1 last
    ∷ take 24 last
    ∷ take 24 (set last 24 0x00)
    ∷ set last 0 0x20
    ∷ set last 3 0x00
    ∷ set last 4 0x00
    ∷ set last 3 0xA8
    ∷ set last 6 0x01
    ∷ set (set last 6 0x00) 7 0x04
    ∷ set last 7 0x80
    ∷ set last 7 0xA4
    ∷ set last 8 0x00
    ∷ set last 7 0x86
    ∷ set last 20 0x00
    ∷ set last 24 0x00
    ∷ set last 24 0x19
    ∷ (set last 24 0x19 ++ (0x00 ∷ []))
    ∷ (last ++ (0x00 ∷ []))
    ∷ set last 20 0x10
    ∷ set last 10 0x01
    ∷ []

refusals :
    map image_fault faulty
    ≡ refused EndsInside 0
    ∷ refused EndsInside 4
    ∷ refused EndsInside 173
    ∷ refused EndsInside 173
    ∷ refused EditionUnknown 0
    ∷ refused FrameZero 4
    ∷ refused TransactionCount 28
    ∷ refused EndsInside 197
    ∷ refused PeriodUnfit 34
    ∷ refused PeriodUnfit 34
    ∷ refused ModeCount 58
    ∷ refused ModeCount 58
    ∷ refused TaskCount 62
    ∷ refused TaskCount 62
    ∷ refused DeadlineZero 139
    ∷ refused NeverRuns 173
    ∷ refused PaddingSet 197
    ∷ refused PaddingSet 197
    ∷ refused BytesFollow 200
    ∷ refused DeadlineShort 139
    ∷ refused DeadlineShort 139
    ∷ []
unfolding computing
refusals = refl

-- under document 01's limits: the image itself, and those 33, which were too many
before : map (fault_under limits_before keepable) (last ∷ set last 3 0xA8 ∷ []) ≡ accepted ∷ refused TransactionCount 28 ∷ []
unfolding computing
before = refl

numbers : map (λ image. answer_number (image_fault image)) (last ∷ faulty) ≡ 0 ∷ 1 ∷ 1 ∷ 1 ∷ 1 ∷ 2 ∷ 3 ∷ 4 ∷ 1 ∷ 5 ∷ 5 ∷ 6 ∷ 6 ∷ 7 ∷ 7 ∷ 8 ∷ 9 ∷ 10 ∷ 10 ∷ 11 ∷ 14 ∷ 14 ∷ []
unfolding computing
numbers = refl

-- a deadline of 3 is just enough for a time of 3, and one of 2 is short; a padding bit, a byte that follows and a cut in the time
abbrev due : (byte : ℕ) → List ℕ
due byte = set last 20 byte

short :
    map image_fault (due 0x18 ∷ due 0x10 ∷ set (due 0x10) 24 0x19 ∷ (due 0x10 ++ (0x00 ∷ [])) ∷ take 24 (due 0x10) ∷ set (due 0x10) 24 0x00 ∷ [])
    ≡ accepted
    ∷ refused DeadlineShort 139
    ∷ refused DeadlineShort 139
    ∷ refused DeadlineShort 139
    ∷ refused EndsInside 173
    ∷ refused NeverRuns 173
    ∷ []
unfolding computing
short = refl

-- with any deadline let in
short-let-in :
    map (fault_under limits any) (due 0x10 ∷ set (due 0x10) 24 0x19 ∷ (due 0x10 ++ (0x00 ∷ [])) ∷ due 0x00 ∷ []) ≡ accepted ∷ refused PaddingSet 197 ∷ refused BytesFollow 200 ∷ refused DeadlineZero 139 ∷ []
unfolding computing
short-let-in = refl

-- a field is checked as soon as it is complete: each image ends in the field behind a faulty one, and the same image with
-- nothing wrong shows where
abbrev ends_behind : List (List ℕ)
ends_behind =
    take 4 (set last 3 0x00)
    ∷ take 4 last
    ∷ take 5 (set last 4 0x00)
    ∷ take 5 last
    ∷ take 8 (set last 6 0x01)
    ∷ take 8 (set last 7 0x80)
    ∷ take 8 last
    ∷ take 9 (set last 8 0x00)
    ∷ take 9 last
    ∷ take 21 (set last 20 0x00)
    ∷ take 21 last
    ∷ []

first-faults :
    map image_fault ends_behind
    ≡ refused FrameZero 4
    ∷ refused EndsInside 28
    ∷ refused TransactionCount 28
    ∷ refused EndsInside 34
    ∷ refused PeriodUnfit 34
    ∷ refused ModeCount 58
    ∷ refused EndsInside 62
    ∷ refused TaskCount 62
    ∷ refused EndsInside 67
    ∷ refused DeadlineZero 139
    ∷ refused EndsInside 165
    ∷ []
unfolding computing
first-faults = refl

-- the sum so far with this transaction's one task: 128, and 129
with-127-before : head_fault last 127 34 ≡ accepted
unfolding computing
with-127-before = refl

with-128-before : head_fault last 128 34 ≡ refused TaskCount 62
unfolding computing
with-128-before = refl
