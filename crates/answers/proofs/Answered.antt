-- A task's answer in the code's own types: the answer of each way that a walk can go.
use mathlib.Core.Path.{◌≡◌, refl, sym, ap, ap₂, ◌∙◌, subst}
use mathlib.Core.Bool.{true, false}
use Prim.Native.Nat.{ℕ, ◌+◌, ◌-◌, ◌^◌, ◌≤◌, ◌<◌}
use native.Mathlib.Omega.{arith}
use Rattle.table.specs.Table.{Table, IsTask}
use Rattle.table.specs.Number.{before, number}
use Rattle.table.specs.Kept.{Kept}
use Rattle.periods.specs.Charge.{imposed}
use Rattle.analysis.specs.Overload.{overload?}
use Rattle.analysis.specs.Order as order
use Rattle.analysis.specs.Order.{walk_order}
use Rattle.analysis.specs.Bound.{last_job, jobs_to, Setting, Within}
use Rattle.analysis.specs.Needed.{job}
use Rattle.analysis.specs.Who.{BoundBy}
use Rattle.analysis.specs.Answer.{Named, named, Answer, bound, overload, beyond, spent}
use Rattle.analysis.specs.Walk as walk
use Rattle.analysis.specs.Walk.{through, past, answer, answer_by, answer_of, walk_turns}
use Rattle.analysis.proofs.Charges.{imposed-fair}
use Rattle.analysis.proofs.Response.{response-job, bound-most}
use Rattle.analysis.proofs.Answer.{answer-by, answer-bound}
use Rattle.told.specs.declared.TaskAnswer.TheVariants.{Overload as Overloaded}
use Rattle.answers.specs.declared.walk.Source.{Source}
use Rattle.std.specs.Prelude.{Result, Ok, Err}
use Rattle.answers.specs.declared.chains.Stopped.{Stopped}
use Rattle.answers.specs.declared.chains.Stopped.TheVariants.{Past, Short}
use Rattle.answers.specs.declared.walk.Walk.{Walk}
use Rattle.answers.specs.Lent.{tested}
use Rattle.answers.specs.Near.{Near}
use Rattle.answers.specs.Turn.{source_meant, best_said, walked}
use Rattle.told.specs.Answered.{meant}
use Rattle.answers.proofs.Instants.{jobs-few, job-near}

-- ---- the walk's end

-- the answer for how far the code's walk of a task of u came
abbrev pub answer_for : Table → (u budget : ℕ) → Result Walk Stopped → Answer
answer_for tab u budget (Ok w) = bound w.best.response.0 w.used (named tab u (source_meant w.best.source))
answer_for tab u budget (Err (Past used)) = beyond used
answer_for tab u budget (Err Short) = spent budget

walked-answer : (tab : Table) (u budget : ℕ) (w : walk.Walked) → answer_for tab u budget (walked budget w) ≡ answer_of tab u budget w
unfolding walked best_said source_meant answer_of
walked-answer tab u budget (through left best) = refl
walked-answer tab u budget (past left) = refl
walked-answer tab u budget walk.Walked.short = refl

overload-by : {A : Type 0} (d : Dec A) (x : Answer) → tested d ≡ true → answer_by d x ≡ overload
unfolding tested answer_by
overload-by (yes h) x e = refl
overload-by (no h) x e = let z : ◌≡◌ {A = ℕ} 0 1 = cc in absurd (omega arith)

walk-by : {A : Type 0} (d : Dec A) (x : Answer) → tested d ≡ false → answer_by d x ≡ x
unfolding tested answer_by
walk-by (yes h) x e = let z : ◌≡◌ {A = ℕ} 0 1 = cc in absurd (omega arith)
walk-by (no h) x e = refl

-- ---- who gave a bound

-- one job is told so
pub named-same : (tab : Table) (u : ℕ) {x y : order.Source} → named tab u x ≡ named tab u y → x ≡ y
unfolding named number
named-same tab u {x} {y} e =
    let mode : x.turn.mode ≡ y.turn.mode = ap (λ (z : Named). z.mode) e in
    let place : before tab u + x.turn.candidate ≡ before tab u + y.turn.candidate = ap (λ (z : Named). z.candidate) e in
    let candidate : x.turn.candidate ≡ y.turn.candidate = omega arith in
    let job : x.job ≡ y.job = ap (λ (z : Named). z.job) e in
    λ i. record { turn = record { mode = mode i; candidate = candidate i }; job = job i }

-- a candidate's number is not below that of the first task of u
pub named-from : (tab : Table) (u : ℕ) (x : order.Source) {by : Named} → named tab u x ≡ by → before tab u ≤ by.candidate
unfolding named number
named-from tab u x {by} e =
    let place : before tab u + x.turn.candidate ≡ by.candidate = ap (λ (z : Named). z.candidate) e in
    omega arith

-- it is one of the jobs by L
module _ {tab : Table} (kept : Kept tab) {u a : ℕ} (is_task : IsTask tab u a) {R : ℕ} {x : order.Source} (by : BoundBy imposed tab u a R x) where
  length : Within tab u a x.turn.mode x.turn.candidate
  length = by.bound.within x.turn.mode x.turn.candidate by.first.gives.setting

  queued : x.job < jobs_to tab u a x.turn.candidate (last_job tab u a x.turn.candidate length.L)
  queued = (response-job kept is_task length.busy_length by.first.gives.response).1.by

  pub source-few : x.job < 2 ^ 26
  source-few = omega (arith, queued, jobs-few kept is_task x.turn.candidate length.within)

  pub source-near : Near (job tab u a x.turn.candidate x.job)
  source-near = job-near kept is_task x.turn.candidate length.within queued

-- ---- the answer

module _ (tab : Table) (u a budget : ℕ) where
  pub overload-answer : tested (overload? tab u a) ≡ true → meant Overloaded ≡ answer imposed tab u a budget
  unfolding answer meant
  overload-answer e = sym (overload-by (overload? tab u a) _ e)

  -- a task that is not overloaded has the answer of its walk
  pub walk-answer :
      {w : Result Walk Stopped} {used : ℕ} {best : walk.Best}
      → tested (overload? tab u a) ≡ false
      → used ≡ 0
      → best ≡ walk.nothing
      → w ≡ walked budget (walk_turns imposed tab u a (walk_order tab u a) (budget - used) best)
      → answer_for tab u budget w ≡ answer imposed tab u a budget
  unfolding answer
  walk-answer free none nothing e =
      ap (answer_for tab u budget) e
      ∙ walked-answer tab u budget _
      ∙ ap (answer_of tab u budget) (ap₂ (walk_turns imposed tab u a (walk_order tab u a)) (omega arith) nothing)
      ∙ sym (walk-by (overload? tab u a) _ free)

  module _ (kept : Kept tab) (is_task : IsTask tab u a) {R n : ℕ} where
    -- the bound of a walk fits a cell
    pub walk-bound-most : {by : Named} → bound R n by ≡ answer imposed tab u a budget → R ≤ 50_331_645
    walk-bound-most e = bound-most kept is_task imposed-fair (answer-bound kept is_task imposed-fair budget (sym e))

    -- who gave it is the first that gives the bound
    pub answer-source : (x : order.Source) → bound R n (named tab u x) ≡ answer imposed tab u a budget → BoundBy imposed tab u a R x
    answer-source x e =
        let (y, f, by) = answer-by kept is_task imposed-fair budget (sym e) in
        subst (BoundBy imposed tab u a R) (named-same tab u f) by

    -- and fits the cells: it is a job of a turn of the walk
    pub walk_source :
        (x : Source)
        → bound R n (named tab u (source_meant x)) ≡ answer imposed tab u a budget
        → Setting tab u a x.mode x.candidate × (x.job.0 < 2 ^ 26)
    unfolding source_meant
    walk_source x e = let by = answer-source (source_meant x) e in (by.first.gives.setting, source-few kept is_task by)
