-- What is told of an image: what a task is owed, and cells that are written task by task.
use mathlib.Core.Path.{◌≡◌, refl, sym, ap, ◌∙◌, subst₂, ap₂}
use mathlib.Core.List.{List, ◌++◌}
use Prim.Native.Nat.{ℕ, suc, ◌+◌, ◌*◌, ◌^◌, ◌≤◌, ◌<◌}
use native.Mathlib.Decide.{dec_lt}
use native.Mathlib.Omega.{arith}
use lib.ListN.{length, drop}
use lib.Seq.{sets, sets-eq, length-sets}
use Rattle.table.specs.Table.{Table, IsTask, deadline}
use Rattle.table.specs.Number.{in_all, number}
use Rattle.table.specs.Lists.{joined}
use Rattle.table.specs.Kept.{Kept}
use Rattle.table.proofs.Number.{place, number-unique}
use Rattle.refusals.specs.declared.Refusal.{Refusal}
use Rattle.refusals.specs.Answer.{refused, answer_place}
use Rattle.format.specs.Fault.{image_fault}
use Rattle.format.proofs.Reach.{furthest}
use Rattle.periods.specs.Charge.{imposed}
use Rattle.analysis.specs.Answer as definition
use Rattle.analysis.specs.Answer.{Cells, cells, Answers}
use Rattle.analysis.specs.Walk.{answer}
use Rattle.analysis.proofs.Charges.{imposed-fair}
use Rattle.analysis.proofs.Response.{bound-most}
use Rattle.analysis.proofs.Answer.{answers, answers-unique}
use Rattle.runs.proofs.Demand.{answer-safe}
use Rattle.told.specs.Cells.{cells_of_task, listed, stored}
use Rattle.told.specs.Told.{Owed, OwedAt, Written}
use Rattle.told.proofs.Cells.{length-told, told-next, stored_there}

-- the place of a refusal fits 32 bits
pub place-small : (image : List ℕ) {refusal : Refusal} {at : ℕ} → image_fault image ≡ refused refusal at → at < 2 ^ 32
place-small image e = omega (arith, furthest image, ap answer_place e)

-- ---- what a task is owed

module _ {tab : Table} (keeps : Kept tab) {u a : ℕ} (is_task : IsTask tab u a) where
  -- the cells of the walk's answer are owed
  pub owed : (budget : ℕ) → Owed tab u a budget (cells (deadline tab u a) (answer imposed tab u a budget))
  owed budget =
      record {
        answer = answer imposed tab u a budget;
        answers = answers keeps is_task budget;
        is = refl;
        safe = λ R n by e. (answer-safe keeps is_task budget e).0;
        tight = λ R n by e. (answer-safe keeps is_task budget e).1;
      }

  -- and no others are
  owed-unique : {budget : ℕ} {c d : Cells} → Owed tab u a budget c → Owed tab u a budget d → c ≡ d
  owed-unique x y =
      x.is ∙ ap (cells (deadline tab u a)) (answers-unique keeps is_task x.answers y.answers) ∙ sym y.is

  -- a bound fits 32 bits
  pub owed-bound : {budget : ℕ} {c : Cells} → Owed tab u a budget c → c.bound < 2 ^ 32
  unfolding cells
  owed-bound {budget} x = rw x.is (go x.answers)
    where
      go : {y : definition.Answer} → Answers tab u a budget y → (cells (deadline tab u a) y).bound < 2 ^ 32
      go (Answers.overloaded h) = omega arith
      go (Answers.short h n l) = omega arith
      go (Answers.past h n l) = omega arith
      go (Answers.kept h n l b) = omega (arith, bound-most keeps is_task imposed-fair b.bound)

-- ---- and the task of one number, which is one task

module _ {tab : Table} (keeps : Kept tab) {k : ℕ} where
  -- what is owed there is owed to the task of that number
  pub owed-to : {budget : ℕ} {c : Cells} {u a : ℕ} → OwedAt tab k budget c → IsTask tab u a → number tab u a ≡ k → Owed tab u a budget c
  owed-to {budget} {c} x is_task numbered =
      let (p, q) = number-unique tab x.is_task is_task (x.numbered ∙ sym numbered) in
      subst₂ (λ (v b : ℕ). Owed tab v b budget c) p q x.owed

  pub owed-one : {budget : ℕ} {c d : Cells} → OwedAt tab k budget c → OwedAt tab k budget d → c ≡ d
  owed-one x y = owed-unique keeps y.is_task (owed-to x y.is_task y.numbered) y.owed

-- ---- cells that are written task by task

module _ (tab : Table) (budget : ℕ) where
  -- the cells of the walk's answer for the task of each number, and any where there is none
  walked_by : {k : ℕ} → Dec (k < in_all tab) → Cells
  walked_by {k} (yes l) =
      let p = place tab k l in
      cells (deadline tab p.u p.j) (answer imposed tab p.u p.j budget)
  walked_by (no h) = cells 0 definition.Answer.overload

  walked-owed : Kept tab → {k : ℕ} (d : Dec (k < in_all tab)) → k < in_all tab → OwedAt tab k budget (walked_by d)
  unfolding walked_by
  walked-owed keeps {k} (yes l) h =
      let p = place tab k l in
      record { u = p.u; a = p.j; is_task = p.is_task; numbered = p.numbered; owed = owed keeps p.is_task budget }
  walked-owed keeps (no l) h = absurd (l h)

  told : ℕ → Cells
  told k = walked_by (dec_lt k (in_all tab))

  told-owed : Kept tab → (k : ℕ) → k < in_all tab → OwedAt tab k budget (told k)
  unfolding told
  told-owed keeps k = walked-owed keeps (dec_lt k (in_all tab))

  module _ (before : List ℕ) where
    -- the first k tasks have their cells, and what lies behind is as it was
    pub written_to : ℕ → List ℕ
    written_to k = sets before 0 (joined k (λ i. listed (told i)))

    pub length-written : (k : ℕ) → length (written_to k) ≡ length before
    unfolding written_to
    length-written k = length-sets before 0 (joined k (λ i. listed (told i)))

    pub written_none : before ≡ written_to 0
    unfolding written_to joined
    written_none = refl

    pub written_next :
        Kept tab
        → (k : ℕ) (c : Cells) (after : List ℕ)
        → k < in_all tab
        → cells_of_task * suc k ≤ length before
        → OwedAt tab k budget c
        → after ≡ written_to k
        → stored after k c ≡ written_to (k + 1)
    unfolding written_to
    written_next keeps k c after h room x e =
        ap₂ (λ (l : List ℕ) (d : Cells). stored l k d) e (owed-one keeps x (told-owed keeps k h))
        ∙ stored_there (written_to k) k (told k) (omega (arith, length-written k))
        ∙ told-next told before k

    pub written_all :
        Kept tab
        → (after : List ℕ)
        → cells_of_task * in_all tab ≤ length before
        → after ≡ written_to (in_all tab)
        → Written tab budget before after
    unfolding written_to
    written_all keeps after room e =
        let J = joined (in_all tab) (λ k. listed (told k)) in
        let long : length J ≡ cells_of_task * in_all tab = length-told told (in_all tab) in
        let end : 0 + length J ≡ cells_of_task * in_all tab = omega (arith, long) in
        record {
          room = room;
          told = told;
          each = told-owed keeps;
          is =
              e
              ∙ sets-eq J before 0 (omega (arith, end))
              ∙ ap (λ (n : ℕ). J ++ drop n before) end;
        }
