-- The unmarked case of document 01. Its chain for L goes ten ticks further with each evaluation, and D later it does the same: so
-- 1,677,721 evaluations come to 16,777,211, and one more is past the horizon.
use mathlib.Core.Path.{◌≡◌, refl, subst, ◌∙◌}
use mathlib.Core.List.{[], ◌∷◌}
use mathlib.Core.Logic.{inl}
use Prim.Native.Nat.{ℕ, ◌≤◌, ◌<◌}
use native.Mathlib.Omega.{arith}
use lib.Dec.{lit<}
use Rattle.table.specs.Table.{Table, IsTask, transactions, transaction, tasks}
use Rattle.table.specs.Lists.{list_of, joined}
use Rattle.table.specs.Kept.{Kept}
use Rattle.bits.specs.Bits.{field_bits}
use Rattle.format.specs.Image.{task_bits, transaction_bits, table_bits, number_of, bytes_of, image_of}
use Rattle.format.specs.Computing as reading
use Rattle.analysis.specs.Bound.{Setting, busy}
use Rattle.analysis.specs.Overload.{Overload}
use Rattle.analysis.specs.Order.{walk_order}
use Rattle.analysis.specs.Chain.{Chain, over}
use Rattle.analysis.specs.Needed.{Needed, Beyond, past_horizon}
use Rattle.analysis.specs.Walk.{ended, chain, beyond?}
use Rattle.analysis.specs.Answer.{spent, Answers}
use Rattle.analysis.specs.Computing.{computing}
use Rattle.analysis.proofs.Chain.{Ended, chain-ended}
use Rattle.cycle.specs.Cycle.{Cycle, none, next}
use Rattle.cycle.proofs.Rises.{busy-rounds}
use Rattle.worked.specs.Promised.{Promised, unmarked}
use Rattle.worked.proofs.Promised.{keeps}

abbrev tab : Table
tab = (unmarked 0).tab

abbrev f : ℕ → ℕ
f = busy tab 0 0 0 0

kept : Kept tab
unfolding reading.computing image_of table_bits transaction_bits task_bits field_bits bytes_of number_of list_of joined transactions transaction
kept = keeps tab refl refl

is_task : IsTask tab 0 0
unfolding transactions transaction tasks
is_task = record { owner = lit< tt; place = lit< tt }

setting : Setting tab 0 0 0 0
unfolding computing
setting = record { mode = lit< tt; runs = lit< tt; place = lit< tt; candidate = inl refl }

free : ¬ (Overload tab 0 0)
unfolding computing
free h = omega arith

ten-further : Cycle f 10 1 1
unfolding computing
ten-further = next none (lit< tt) refl

-- all evaluations but the last
rounds : chain f beyond? 1_677_722 1 ≡ chain f beyond? 1 16_777_211
rounds = busy-rounds kept is_task setting free 1 refl ten-further 1_677_721 0 1_677_722 (omega arith) (omega arith)

last : chain f beyond? 1 16_777_211 ≡ ended over 0
unfolding computing
last = refl

order : walk_order tab 0 0 ≡ record { mode = 0; candidate = 0 } ∷ []
unfolding computing
order = refl

-- and these are the evaluations that the task needs
needed : Needed tab 0 0 (walk_order tab 0 0) 1_677_722 past_horizon
needed =
    let (n, is, c) = subst (Ended f Beyond 1_677_722 1) (rounds ∙ last) (chain-ended f beyond? 1_677_722 1) in
    let all : n ≡ 1_677_722 = omega arith in
    rw order (Needed.past (subst (λ (k : ℕ). Chain f Beyond 1 k over) all c))

-- With that budget or more the task is 22
pub unmarked-promised : (budget : ℕ) → 1_677_722 ≤ budget → Promised (unmarked budget)
unmarked-promised budget enough =
    record { kept = kept; is_task = is_task; answers = Answers.past free needed enough }

-- and with less the budget is spent
pub unmarked-spent : (budget : ℕ) → budget < 1_677_722 → Answers tab 0 0 budget (spent budget)
unmarked-spent budget less = Answers.short free needed less
