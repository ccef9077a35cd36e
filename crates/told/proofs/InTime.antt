-- Whether every task keeps its deadline, by the cells: where every code is 0 it does, in every legal run.
use mathlib.Core.Bool.{true}
use mathlib.Core.Path.{◌≡◌, refl, sym, ap, ◌∙◌}
use mathlib.Core.List.{List}
use Prim.Native.Nat.{ℕ, zero, suc, ◌*◌, ◌≤◌, ◌<◌}
use native.Mathlib.Decide.{dec_le}
use native.Mathlib.Omega.{arith}
use lib.ListN.{length, drop, length-append}
use Rattle.table.specs.Table.{Table, IsTask, deadline}
use Rattle.table.specs.Number.{in_all, number}
use Rattle.table.specs.Lists.{joined}
use Rattle.table.specs.Kept.{Kept}
use Rattle.table.proofs.Number.{number_lt}
use Rattle.format.specs.Said.{table_in}
use Rattle.format.proofs.Kept.{kept}
use Rattle.analysis.specs.Answer as definition
use Rattle.analysis.specs.Answer.{Cells, cells, code_by}
use Rattle.runs.specs.Promise.{Safe}
use Rattle.runs.proofs.Demand.{safe-later}
use Rattle.told.specs.Cells.{cells_of_task, listed, code_in, are_kept}
use Rattle.told.specs.Told.{filled, Owed, Written, FillsFrom, Fills, InTime}
use Rattle.told.proofs.Cells.{length-told}
use Rattle.told.proofs.Verdict.{kept_here, kept_next, kept-code, kept-each}
use Rattle.told.proofs.Told.{owed-to}
use Rattle.told.proofs.Agree.{written-code}

-- what is owed with code 0 is a bound within the deadline
owed-kept : {tab : Table} {u a budget : ℕ} {c : Cells} → IsTask tab u a → Owed tab u a budget c → c.code ≡ 0 → Safe tab u a (deadline tab u a)
unfolding cells code_by
owed-kept {tab} {u} {a} is_task o z = go o.answer refl (ap (λ (c : Cells). c.code) (sym o.is) ∙ z)
  where
    bounded : (R n : ℕ) (by : definition.Named) (d : Dec (R ≤ deadline tab u a)) → o.answer ≡ definition.bound R n by → code_by d ≡ 0 → Safe tab u a (deadline tab u a)
    bounded R n by (yes l) e h = safe-later is_task l (o.safe R n by e)
    bounded R n by (no l) e h = absurd (omega (arith, h))

    go : (x : definition.Answer) → o.answer ≡ x → (cells (deadline tab u a) x).code ≡ 0 → Safe tab u a (deadline tab u a)
    go (definition.bound R n by) e h = bounded R n by (dec_le R (deadline tab u a)) e h
    go definition.overload e h = absurd (omega (arith, h))
    go (definition.beyond n) e h = absurd (omega (arith, h))
    go (definition.spent n) e h = absurd (omega (arith, h))

module _ {tab : Table} (keeps : Kept tab) {budget : ℕ} {before after : List ℕ} (w : Written tab budget before after) where
  room_after : {k : ℕ} → k < in_all tab → cells_of_task * suc k ≤ length after
  room_after {k} l =
      let all = joined (in_all tab) (λ k. listed (w.told k)) in
      let rest = drop (cells_of_task * in_all tab) before in
      omega (arith, ap length w.is, length-append all rest, length-told w.told (in_all tab))

  written-kept : are_kept after (in_all tab) ≡ true → InTime tab
  written-kept all u a is_task =
      let k = number tab u a in
      let l : k < in_all tab = number_lt tab is_task in
      let code : code_in after k ≡ 0 = kept-code after k (kept-each after k (in_all tab) l all) in
      owed-kept is_task (owed-to keeps (w.each k l) is_task refl) (sym (written-code keeps w l) ∙ code)

  written-codes : ((k : ℕ) → k < in_all tab → code_in after k ≡ 0) → (n : ℕ) → n ≤ in_all tab → are_kept after n ≡ true
  unfolding are_kept
  written-codes zeroed zero l = refl
  written-codes zeroed (suc n) l =
      kept_next after n (written-codes zeroed n (omega arith))
      (kept_here after n (room_after (omega arith)) (zeroed n (omega arith)))

-- where every code of an accepted image is 0, every task keeps its deadline
pub kept-in-time :
    {image : List ℕ} {budget n : ℕ} {before after : List ℕ}
    → Fills image budget before after (filled n)
    → are_kept after n ≡ true
    → InTime (table_in image)
kept-in-time {image} (Fills.accepted ok (FillsFrom.done w)) all = written-kept (kept image ok) w all

-- and the test says so: it fails only for a code that is not 0
pub codes-kept :
    {image : List ℕ} {budget n : ℕ} {before after : List ℕ}
    → Fills image budget before after (filled n)
    → ((k : ℕ) → k < n → code_in after k ≡ 0)
    → are_kept after n ≡ true
codes-kept {image} {n = n} (Fills.accepted ok (FillsFrom.done w)) zeroed = written-codes (kept image ok) w zeroed n (omega arith)
