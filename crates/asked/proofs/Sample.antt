-- What the statements say of document 01's sample S and of the empty image. Task 2 completes at 5: 2 of its own, 3 of transaction 0,
-- where task 0 comes before task 1, which charges as much.
use mathlib.Core.Path.{◌≡◌, refl, sym, ap, subst}
use mathlib.Core.Bool.{true, false}
use mathlib.Core.List.{[]}
use lib.IntN.{pos}
use Prim.Native.Nat.{ℕ, ◌≤◌}
use native.Mathlib.Omega.{arith}
use Rattle.refusals.specs.declared.Refusal.TheVariants.{EndsInside, NoTask}
use Rattle.table.specs.Table.{Table}
use Rattle.table.specs.Sample.{S}
use Rattle.periods.specs.Charge.{imposed, released}
use Rattle.analysis.specs.Charge.{Later}
use Rattle.analysis.specs.Order.{Source}
use Rattle.analysis.specs.Who.{BoundBy}
use Rattle.analysis.specs.Parts.{parts_of}
use Rattle.analysis.specs.Answer.{Named, named, bound, Answers}
use Rattle.analysis.specs.Walk.{answer}
use Rattle.analysis.specs.Computing.{computing}
use Rattle.analysis.proofs.Charges.{imposed-fair}
use Rattle.analysis.proofs.Sample.{itself}
use Rattle.analysis.proofs.Answer.{answers, answer-by}
use Rattle.analysis.proofs.Parts.{made_of}
use Rattle.analysis.proofs.Who.{most-charged}
use Rattle.told.proofs.Sample.{image_s, S-accepted, S-table, empty-refused, S-kept, last-S, answer-S}
use Rattle.parts.specs.declared.Part.{Part}
use Rattle.parts.specs.declared.Part.TheVariants as part
use Rattle.std.specs.Prelude.{Result, Ok, Some, None}
use Rattle.refusals.specs.declared.Fault.{Fault}
use Rattle.refusals.specs.Answer.{refused}
use Rattle.parts.specs.Parts.{Made, OfImage, OfTask, MadeFor, Makes, ChargedBy, ChargesOne, HasPart, part_said}
use Rattle.parts.proofs.Unique.{makes-unique, charges-one-unique, has-part-unique}
use Rattle.parts.proofs.Composed.{part-refused, part_none, part-charged}

-- task 2 itself, in mode 0, with its first job
abbrev source : Source
source = record { turn = record { mode = 0; candidate = 0 }; job = 0 }

-- ---- what transaction 0 charges task 2, and transactions that have nothing to say

-- of task 2, whatever is told of it
of-2 : {r : Part} (later : Later) {i t : ℕ} → ChargedBy later i t S 1 0 r → OfImage (OfTask (ChargedBy later i t) 2) image_s (Ok r)
unfolding computing
of-2 {r} later {i} {t} x =
    OfImage.accepted S-accepted
    (subst (λ (tab : Table). OfTask (ChargedBy later i t) 2 tab (Ok r)) (sym S-table) (OfTask.known last-S refl x))

-- at t = 5 both tasks impose 3, and the first is named; released they are 5 and 5; at t = 0 it is named with nothing
imposed-5 : {r : Result Part Fault} → ChargesOne image_s 2 0 false 5 r → r ≡ Ok (part.Charged (record { ticks = 3; mode = 0; candidate = 0 }))
unfolding computing part_said
imposed-5 x =
    charges-one-unique false x
    (of-2 imposed (ChargedBy.other (record { there = omega arith; other = λ e. omega (arith, e) }) (most-charged imposed S 1 0 0 5) refl))

named-at-0 : {r : Result Part Fault} → ChargesOne image_s 2 0 true 0 r → r ≡ Ok (part.Charged (record { ticks = 0; mode = 0; candidate = 0 }))
unfolding computing part_said
named-at-0 x =
    charges-one-unique true x
    (of-2 released (ChargedBy.other (record { there = omega arith; other = λ e. omega (arith, e) }) (most-charged released S 1 0 0 0) refl))

own-of-2 : {t : ℕ} {r : Result Part Fault} → ChargesOne image_s 2 1 false t r → r ≡ Ok part.Own
own-of-2 x = charges-one-unique false x (of-2 imposed (ChargedBy.own refl))

missing-of-2 : {t : ℕ} {r : Result Part Fault} → ChargesOne image_s 2 2 false t r → r ≡ Ok part.NoTransaction
unfolding computing
missing-of-2 x = charges-one-unique false x (of-2 imposed (ChargedBy.missing (omega arith)))

-- ---- what the bound of task 2 is made of

-- whom the answer names is that source
source-2 : (x : Source) → named S 1 x ≡ itself → x ≡ source
unfolding computing
source-2 x f =
    let mode : x.turn.mode ≡ 0 = ap (λ (n : Named). n.mode) f in
    let candidate : x.turn.candidate ≡ 0 = omega (arith, ap (λ (n : Named). n.candidate) f) in
    let job : x.job ≡ 0 = ap (λ (n : Named). n.job) f in
    λ i. record { turn = record { mode = mode i; candidate = candidate i }; job = job i }

made-2 : {budget : ℕ} → 6 ≤ budget → Makes image_s 2 budget (Ok (Some (record { completion = 5; arrival = pos 0; offset = 0; blocking = 0; jobs = 2; rivals = 0 })))
unfolding computing parts_of
made-2 {budget} enough =
    let e : answer imposed S 1 0 budget ≡ bound 5 6 itself = answer-S enough last-S refl in
    let (x, f, by) = answer-by S-kept last-S imposed-fair budget e in
    let first : BoundBy imposed S 1 0 5 source = subst (BoundBy imposed S 1 0 5) (source-2 x f) by in
    OfImage.accepted S-accepted
    (subst (λ (tab : Table). OfTask (MadeFor budget) 2 tab (Ok (Some (record { completion = 5; arrival = pos 0; offset = 0; blocking = 0; jobs = 2; rivals = 0 })))) (sym S-table)
    (OfTask.known last-S refl (MadeFor.bounded {x = source} (subst (Answers S 1 0 budget) e (answers S-kept last-S budget)) (made_of first))))

pub S-made : {budget : ℕ} {r : Made} → 6 ≤ budget → Makes image_s 2 budget r → r ≡ Ok (Some (record { completion = 5; arrival = pos 0; offset = 0; blocking = 0; jobs = 2; rivals = 0 }))
S-made enough x = makes-unique x (made-2 enough)

-- and transaction 0 has 3 of it
pub S-part : {budget : ℕ} {r : Result Part Fault} → 6 ≤ budget → HasPart image_s 2 budget 0 r → r ≡ Ok (part.Charged (record { ticks = 3; mode = 0; candidate = 0 }))
unfolding computing part_said
S-part enough x =
    has-part-unique x
    (part-charged (made-2 enough)
    (of-2 imposed (ChargedBy.other (record { there = omega arith; other = λ e. omega (arith, e) }) (most-charged imposed S 1 0 0 5) refl)))

-- with a budget of 5 there is no bound, and no part of one
made-short : Makes image_s 2 5 (Ok None)
unfolding computing
made-short =
    OfImage.accepted S-accepted
    (subst (λ (tab : Table). OfTask (MadeFor 5) 2 tab (Ok None)) (sym S-table)
    (OfTask.known last-S refl (MadeFor.unbounded (answers S-kept last-S 5) (λ R n by e. let z : ◌≡◌ {A = ℕ} 0 1 = cc in omega arith))))

pub S-short : {r : Result Part Fault} → HasPart image_s 2 5 0 r → r ≡ Ok part.NoBound
S-short x = has-part-unique x (part_none made-short)

-- there is no task 3, and the empty image is refused with 1 at place 0
pub S-no-task : {budget : ℕ} {r : Made} → Makes image_s 3 budget r → r ≡ refused NoTask 0
unfolding computing
S-no-task {budget} x =
    makes-unique x
    (OfImage.accepted S-accepted
    (subst (λ (tab : Table). OfTask (MadeFor budget) 3 tab (refused NoTask 0)) (sym S-table) (OfTask.unknown (omega arith))))

pub empty-part : {task budget i : ℕ} {r : Result Part Fault} → HasPart [] task budget i r → r ≡ refused EndsInside 0
empty-part x = has-part-unique x (part-refused (OfImage.refused empty-refused))
