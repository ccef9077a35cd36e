-- What the contracts say of document 01's images: of the one of one task, and of S, whose first transaction has two.
use mathlib.Core.Path.{◌≡◌, refl}
use mathlib.Core.Logic.{inl, inr}
use mathlib.Core.List.{[]}
use Prim.Native.Nat.{ℕ, zero, suc, ◌<◌}
use native.Mathlib.Nat.{le_of_eq}
use native.Mathlib.Omega.{arith}
use Rattle.refusals.specs.declared.Refusal.TheVariants.{EndsInside, NoTask}
use Rattle.refusals.specs.declared.PlainRefusal.TheVariants.{NotSingle, OutOfRange}
use Rattle.table.specs.Table.{Table, transactions, modes, tasks}
use Rattle.table.specs.Number.{in_all}
use Rattle.table.specs.Sample.{S, lone, plain}
use Rattle.format.specs.Cases.{last}
use Rattle.format.specs.Fault.{IsAccepted}
use Rattle.format.specs.Said.{table_in}
use Rattle.format.specs.Computing.{computing as reading}
use Rattle.jitter.specs.Plain.{Single, Completion}
use Rattle.jitter.specs.Request.{approximate, approximate_by}
use Rattle.jitter.specs.Cases.{computing}
use Rattle.told.proofs.Sample.{image_s, S-accepted, S-table, empty-refused}
use Rattle.std.specs.Prelude.{Ok}
use Rattle.beside.specs.Told.{unfit, turned_away, Approximation, Response, RespondsFrom, Responds, ApproximatesFrom, Approximates}
use Rattle.beside.proofs.Answered.{responds-unique, approximates-unique}

-- ---- one task, frame and T 10, C 3

abbrev one : Table
one = lone 10 (plain 0 3 5 10)

last-accepted : IsAccepted last
unfolding reading
last-accepted = refl

last-table : table_in last ≡ one
unfolding reading
last-table = refl

one_single : Single one
unfolding computing
one_single = record { one_task = task; one_mode = mode }
  where
    task : (i : ℕ) → i < transactions one → tasks one i ≡ 1
    task zero h = refl
    task (suc i) h = absurd (omega arith)

    mode : (i : ℕ) → i < transactions one → modes one i ≡ 1
    mode zero h = refl
    mode (suc i) h = absurd (omega arith)

-- its workload is 3 at any t
one-completes : Completion one 0 3
unfolding computing
one-completes = record { has = (omega arith, refl); least = λ s c. le_of_eq c.1 }

last-there : 0 < in_all (table_in last)
unfolding reading computing
last-there = omega arith

-- It responds in 3 ticks, and task 1 is not there
pub last-responds : {x : Response} → Responds last 0 x → x ≡ Ok 3
unfolding computing
last-responds r =
    responds-unique r (Responds.single last-accepted last-there (rw last-table one_single) (rw last-table (RespondsFrom.completes one-completes (omega arith))))

pub last-unknown : {x : Response} → Responds last 1 x → x ≡ turned_away NoTask 0
unfolding reading computing
last-unknown r = responds-unique r (Responds.unknown last-accepted (omega arith))

-- With k 1 the approximation at t = 1 is 33 tenths of a tick; k 0 and a t above H are refused
last-given : (k t : ℕ) {x y : Approximation} → ApproximatesFrom one 0 k t y → Approximates last 0 k t x → x ≡ y
last-given k t y r = approximates-unique r (Approximates.single last-accepted last-there (rw last-table one_single) (rw last-table y))

pub last-approximates : {x : Approximation} → Approximates last 0 1 1 x → x ≡ Ok 33
unfolding computing approximate approximate_by
last-approximates r = last-given 1 1 (ApproximatesFrom.given (omega arith) (omega arith)) r

pub last-no-k : {x : Approximation} → Approximates last 0 0 1 x → x ≡ unfit OutOfRange
last-no-k r = last-given 0 1 (ApproximatesFrom.outside (inl refl)) r

pub last-late : {x : Approximation} → Approximates last 0 1 16_777_216 x → x ≡ unfit OutOfRange
last-late r = last-given 1 16_777_216 (ApproximatesFrom.outside (inr (omega arith))) r

-- ---- S, and the empty image

S-several : ¬ (Single S)
unfolding computing
S-several single =
    let two : ◌≡◌ {A = ℕ} 2 1 = single.one_task 0 (omega arith) in
    omega arith

S-there : 2 < in_all (table_in image_s)
unfolding reading computing
S-there = omega arith

-- Its transactions have several tasks; that task 3 is not there comes first
pub S-responds : {x : Response} → Responds image_s 2 x → x ≡ unfit NotSingle
S-responds r = responds-unique r (Responds.several S-accepted S-there (rw S-table S-several))

pub S-unknown : {x : Response} → Responds image_s 3 x → x ≡ turned_away NoTask 0
unfolding reading computing
S-unknown r = responds-unique r (Responds.unknown S-accepted (omega arith))

-- and it comes before k and t are looked at
pub S-approximates : {x : Approximation} → Approximates image_s 2 0 0 x → x ≡ unfit NotSingle
S-approximates r = approximates-unique r (Approximates.several S-accepted S-there (rw S-table S-several))

pub empty-responds : {x : Response} → Responds [] 0 x → x ≡ turned_away EndsInside 0
empty-responds r = responds-unique r (Responds.refused empty-refused)
