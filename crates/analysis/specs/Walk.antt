-- The walk with a budget, as a function that computes a task's answer. What it computes is proved to be what `Answers`
-- says; nothing else has to be believed of it.
use Rattle.std.specs.Prelude.{List, [], ◌∷◌, ℕ, zero, suc, ◌-◌}
use Rattle.std.proofs.Math.Decide.{dec_le, dec_lt, ℕ_discrete}
use Rattle.table.specs.Table.{Table}
use Rattle.analysis.specs.Choice.{count}
use Rattle.analysis.specs.Charge.{Later}
use Rattle.analysis.specs.Bound.{last_job, jobs_to, demand, busy, response}
use Rattle.analysis.specs.Overload.{overload?}
use Rattle.analysis.specs.Chain.{End, came, over}
use Rattle.analysis.specs.Order.{Turn, Source, walk_order}
use Rattle.analysis.specs.Needed.{Beyond, Never, job, start}
use Rattle.analysis.specs.Answer.{Answer, bound, overload, beyond, spent, named}

-- a chain with a budget: how it ended, and how many evaluations are left; or none was left when one more was due
pub data Stop : Type 0 where
  ended : (e : End) (left : ℕ) → Stop
  short : Stop

unfoldable pub chain : (f : ℕ → ℕ) {Over : ℕ → Type 0} (over? : (v : ℕ) → Dec (Over v)) (left t : ℕ) → Stop
chain f over? zero t = short
chain f over? (suc left) t =
    elim (ℕ_discrete (f t) t) [
      | yes e ↦ ended (came t) left
      | no h ↦ elim (over? (f t)) [ yes o ↦ ended over left | no o ↦ chain f over? left (f t) ]
    ]

abbrev pub beyond? : (v : ℕ) → Dec (Beyond v)
beyond? v = dec_le _ _

abbrev pub never? : (v : ℕ) → Dec (Never v)
never? v = no (λ x. x)

-- a response, cut at 0, and the job that has it
pub record Best : Type 0 where
  pub response : ℕ
  pub source : Source

-- before the first job: no more than any response
abbrev pub nothing : Best
nothing = record { response = 0; source = record { turn = record { mode = 0; candidate = 0 }; job = 0 } }

unfoldable pub better_by : {A : Type 0} → Dec A → (x y : Best) → Best
better_by (yes h) x y = y
better_by (no h) x y = x

-- the later one only if it is greater
unfoldable pub better : (x y : Best) → Best
better x y = better_by (dec_lt x.response y.response) x y

-- job N of that turn, completed at w
unfoldable pub answered : Table → (u a m c N w : ℕ) → Best
answered tab u a m c N w =
    record {
      response = count (response tab u a c (job tab u a c N) w);
      source = record { turn = record { mode = m; candidate = c }; job = N };
    }

-- how far a walk came: through, with what is left of the budget and the greatest response so far, the first that gave it; past the
-- horizon; or short of budget
pub data Walked : Type 0 where
  through : (left : ℕ) (best : Best) → Walked
  past : (left : ℕ) → Walked
  short : Walked

-- the jobs N, N + 1, .. of one turn, `todo` of them; `later` is the charge of later jobs in each completion
unfoldable pub walk_jobs : Later → Table → (u a m c todo N left : ℕ) → Best → Walked
walk_jobs later tab u a m c zero N left best = through left best
walk_jobs later tab u a m c (suc todo) N left best =
    elim (chain (demand later tab u a m c (job tab u a c N)) never? left (start tab u a m c (job tab u a c N))) [
      | ended (came w) l ↦
          walk_jobs later tab u a m c todo (suc N) l (better best (answered tab u a m c N w))
      | ended over l ↦ past l
      | short ↦ short
    ]

-- one turn: the L chain, then the jobs
unfoldable pub walk_turn : Later → Table → (u a : ℕ) → Turn → (left : ℕ) → Best → Walked
walk_turn later tab u a s left best =
    elim (chain (busy tab u a s.mode s.candidate) beyond? left 1) [
      | ended (came L) l ↦
          walk_jobs later tab u a s.mode s.candidate
          (jobs_to tab u a s.candidate (last_job tab u a s.candidate L))
          0
          l
          best
      | ended over l ↦ past l
      | short ↦ short
    ]

unfoldable pub walk_turns : Later → Table → (u a : ℕ) → List Turn → (left : ℕ) → Best → Walked
walk_turns later tab u a [] left best = through left best
walk_turns later tab u a (s ∷ rest) left best =
    elim (walk_turn later tab u a s left best) [
      | through l b ↦ walk_turns later tab u a rest l b
      | past l ↦ past l
      | short ↦ short
    ]

-- the answer of a walk of a task of u that began with this budget
unfoldable pub answer_of : Table → (u budget : ℕ) → Walked → Answer
answer_of tab u budget (through left best) = bound best.response (budget - left) (named tab u best.source)
answer_of tab u budget (past left) = beyond (budget - left)
answer_of tab u budget short = spent budget

unfoldable pub answer_by : {A : Type 0} → Dec A → Answer → Answer
answer_by (yes h) x = overload
answer_by (no h) x = x

-- the task's answer
unfoldable pub answer : Later → Table → (u a budget : ℕ) → Answer
answer later tab u a budget =
    answer_by (overload? tab u a)
    (answer_of tab u budget (walk_turns later tab u a (walk_order tab u a) budget nothing))
