-- What a worked case asks of the definitions, as a list of signed numbers.
use Rattle.std.specs.Prelude.{List, [], ◌∷◌, map, ℤ, pos, ◌-ℤ◌, ℕ}
use Rattle.table.specs.Table.{Table, deadline}
use Rattle.periods.specs.Phase.{phase, held}
use Rattle.periods.specs.Charge.{imposed, released}
use Rattle.analysis.specs.Bound.{last_job, jobs_to, demand, busy, response}
use Rattle.analysis.specs.Charge.{Later, phase_of}
use Rattle.analysis.specs.Order.{from}
use Rattle.analysis.specs.Chain.{came, over}
use Rattle.analysis.specs.Needed.{job, start}
use Rattle.analysis.specs.Answer.{bound, Cells, cells}
use Rattle.analysis.specs.Walk.{Stop, ended, short, chain, beyond?, never?, answer}

pub data Question : Type 0 where
  -- the held-back count of the candidate itself
  own_held : (T J : ℕ) → Question
  -- the phase of a task with offset O seen from a candidate with offset O', both with J 0
  phase_from : (T O O' : ℕ) → Question
  -- the charges at t
  imposed_at : (T C phase t : ℕ) → Question
  released_at : (T C phase t : ℕ) → Question
  -- a's phase, its job numbers, and their responses, in mode m with candidate c
  phase_in : (tab : Table) (u a c : ℕ) → Question
  jobs_in : (tab : Table) (u a m c : ℕ) → Question
  responses_in : (tab : Table) (u a m c : ℕ) → Question
  -- the task's bound, its code, its evaluations, its cells under a budget, and its whole-job bound
  bound_of : (tab : Table) (u a : ℕ) → Question
  code_of : (tab : Table) (u a : ℕ) → Question
  evaluations_of : (tab : Table) (u a : ℕ) → Question
  cells_of : (tab : Table) (u a budget : ℕ) → Question
  whole_bound_of : (tab : Table) (u a : ℕ) → Question

-- a budget that no worked case spends, and small enough to be computed with
abbrev pub enough : ℕ
enough = 100

-- where a chain came back, or 0
unfoldable pub end : Stop → ℕ
end (ended (came t) left) = t
end (ended over left) = 0
end short = 0

-- the job numbers from the first to the last by L
unfoldable pub job_numbers : Table → (u a m c : ℕ) → List ℤ
job_numbers tab u a m c =
    map (job tab u a c) (from 0 (jobs_to tab u a c (last_job tab u a c (end (chain (busy tab u a m c) beyond? enough 1)))))

unfoldable pub response_of : Table → (u a m c : ℕ) (p : ℤ) → ℤ
response_of tab u a m c p =
    response tab u a c p (end (chain (demand imposed tab u a m c p) never? enough (start tab u a m c p)))

unfoldable pub cells_under : Later → Table → (u a budget : ℕ) → Cells
cells_under later tab u a budget = cells (deadline tab u a) (answer later tab u a budget)

-- what the definitions give
unfoldable pub given : Question → List ℤ
given (own_held T J) = pos (held T J (phase T 0 J)) ∷ []
given (phase_from T O O') = pos (phase T O O') ∷ []
given (imposed_at T C F t) = pos (imposed T C (pos t -ℤ pos F)) ∷ []
given (released_at T C F t) = pos (released T C (pos t -ℤ pos F)) ∷ []
given (phase_in tab u a c) = pos (phase_of tab u c a) ∷ []
given (jobs_in tab u a m c) = job_numbers tab u a m c
given (responses_in tab u a m c) = map (response_of tab u a m c) (job_numbers tab u a m c)
given (bound_of tab u a) = pos (cells_under imposed tab u a enough).bound ∷ []
given (code_of tab u a) = pos (cells_under imposed tab u a enough).code ∷ []
given (evaluations_of tab u a) = pos (cells_under imposed tab u a enough).evaluations ∷ []
given (cells_of tab u a budget) =
    pos (cells_under imposed tab u a budget).code
    ∷ pos (cells_under imposed tab u a budget).bound
    ∷ pos (cells_under imposed tab u a budget).evaluations
    ∷ pos (cells_under imposed tab u a budget).mode
    ∷ pos (cells_under imposed tab u a budget).candidate
    ∷ pos (cells_under imposed tab u a budget).job
    ∷ []
given (whole_bound_of tab u a) = pos (cells_under released tab u a enough).bound ∷ []

-- a line of a page of worked cases: what is asked, and what the page says
pub record Line : Type 0 where
  pub ask : Question
  pub says : List ℤ

abbrev pub asked : List Line → List (List ℤ)
asked = map (λ l. given l.ask)

abbrev pub said : List Line → List (List ℤ)
said = map (λ l. l.says)
