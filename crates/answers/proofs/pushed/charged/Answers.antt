-- `charged` says whether the transaction is another one of the table, and if so who charges most in it. The mode and the candidate's
-- number fit since they are a mode and a task of the table.
use mathlib.Core.Path.{◌≡◌, refl, sym, ap, ◌∙◌, subst}
use mathlib.Core.Bool.{Bool}
use native.Mathlib.Omega.{arith}
use Prim.Native.Nat.{ℕ}
use Rattle.std.proofs.Common.{Option, None, Some}
use Rattle.row.specs.Row.{table_of}
use Rattle.table.specs.Table.{Table, IsTask}
use Rattle.table.proofs.Ranges.{modes-few}
use Rattle.table.proofs.Number.{number_lt}
use Rattle.analysis.specs.Who.{charged, most_charged, MostCharged}
use Rattle.analysis.proofs.Who.{most-charged}
use Rattle.charge.specs.Later.{later_of}
use Rattle.parts.specs.Parts.{ChargedBy, part_said}
use Rattle.parts.specs.declared.Part.TheVariants as part
use Rattle.answers.specs.declared.who.Charged.{Charged}
use Rattle.answers.specs.Who.{most_said}
use Rattle.answers.proofs.Pushing.{most-gives}
use Rattle.answers.proofs.pushed.charged.Goals as goal

-- what was found is who charges most
greatest-is :
    (whole : Bool) {tab : Table} {u a i t n : ℕ} {x y : Option Charged}
    → most_said x ≡ most_charged (later_of whole) tab u a i n
    → n ≡ t
    → x ≡ y
    → MostCharged (later_of whole) tab u a i t (most_said y)
greatest-is whole {tab} {u} {a} {i} {t} {n} {x} {y} e at same =
    let is : most_said y ≡ most_charged (later_of whole) tab u a i t =
    ap most_said (sym same) ∙ e ∙ ap (most_charged (later_of whole) tab u a i) at in
    subst (MostCharged (later_of whole) tab u a i t) (sym is) (most-charged (later_of whole) tab u a i t)

found :
    (whole : Bool) {tab : Table} {u a i t n : ℕ} {x : Option Charged} (most : Charged)
    → most_said x ≡ most_charged (later_of whole) tab u a i n
    → n ≡ t
    → x ≡ Some most
    → MostCharged (later_of whole) tab u a i t (charged most.ticks.0 (record { mode = most.by.mode; candidate = most.by.candidate }))
unfolding most_said
found whole most e at same = greatest-is whole {y = Some most} e at same

pub returns-then-i-s : goal.returns-then-i-s
returns-then-i-s c = ChargedBy.own c.if-i-s.true

pub returns-in_default : goal.returns-in_default
unfolding most_said part_said
returns-in_default c =
    ChargedBy.other (record { there = omega arith; other = c.if-i-s.false }) (greatest-is c.args.whole {y = None} c.most_charged.ensures c.from.ensures c.in_default.is) refl

pub overflow_cast-result : goal.overflow_cast-result
overflow_cast-result c =
    let most = found c.args.whole c.in-Some.most c.most_charged.ensures c.from.ensures c.in-Some.is in
    omega (arith, (most-gives most).mode, modes-few c.requires.lent.table.kept {i = c.args.i} (omega arith))

pub number-requires-clause-task : goal.number-requires-clause-task
number-requires-clause-task c =
    let most = found c.args.whole c.in-Some.most c.most_charged.ensures c.from.ensures c.in-Some.is in
    record { owner = omega arith; place = (most-gives most).place }

pub overflow_cast-result-then-i-transactions : goal.overflow_cast-result-then-i-transactions
overflow_cast-result-then-i-transactions c =
    let tab = table_of c.args.work.now in
    let most = found c.args.whole c.in-Some.most c.most_charged.ensures c.from.ensures c.in-Some.is in
    let is : IsTask tab c.args.i c.in-Some.most.by.candidate = record { owner = omega arith; place = (most-gives most).place } in
    omega (arith, c.number.ensures, number_lt tab is, c.requires.lent.table.kept.few_tasks)

pub returns-then-i-transactions : goal.returns-then-i-transactions
unfolding part_said
returns-then-i-transactions c =
    let this = c.in-Some.most in
    ChargedBy.other (record { there = omega arith; other = c.if-i-s.false }) (found c.args.whole this c.most_charged.ensures c.from.ensures c.in-Some.is)
    (ap (λ (n : ℕ). part.Charged (record { ticks = this.ticks.0; mode = this.by.mode; candidate = n })) (sym c.number.ensures))

pub returns : goal.returns
returns c = ChargedBy.missing (omega arith)
