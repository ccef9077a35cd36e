-- Where the plain response is within the period, the budget lasts if it has two evaluations for each tick of the period: the walk has one
-- turn, of one job, and each of the two chains rises with each evaluation until it comes back at the completion.
use mathlib.Core.Path.{◌≡◌, refl, ap, ◌∙◌, subst}
use mathlib.Core.Logic.{if_pos}
use mathlib.Core.List.{List, [], ◌∷◌, filter}
use Prim.Native.Nat.{ℕ, suc, ◌+◌, ◌*◌, ◌≤◌, ◌<◌}
use native.Mathlib.Nat.{le_refl}
use native.Mathlib.Omega.{arith}
use Rattle.table.specs.Table.{Table, IsTask, transactions, period, offset, time}
use Rattle.table.specs.Kept.{Kept}
use Rattle.table.proofs.Ranges.{period-lt}
use Rattle.periods.specs.Charge.{imposed}
use Rattle.analysis.specs.Rival.{runs?, candidate?}
use Rattle.analysis.specs.Bound.{last_job, jobs_to, Setting}
use Rattle.analysis.specs.Chain.{Chain, came, back, on}
use Rattle.analysis.specs.Order.{Turn, from, running_modes, candidates, turns, walk_order}
use Rattle.analysis.specs.Needed.{job, start, JobChains, Outcome, Needed}
use Rattle.analysis.specs.Answer.{Named, named, Answer, bound, Answers, overloaded, short, past, kept}
use Rattle.analysis.proofs.Choice.{least-unique}
use Rattle.analysis.proofs.Join.{jobs-to-job}
use Rattle.analysis.proofs.Charges.{imposed-fair, demand-grows, start-below, busy-rises, busy-some}
use Rattle.analysis.proofs.Turn.{LengthChain, busy-length, busy-past, job-completion}
use Rattle.jitter.specs.Agree.{InPeriod}
use Rattle.jitter.specs.Plain.{Single, Completion, response_of}
use Rattle.jitter.proofs.Alone.{is_task, runs-alone, setting-alone, jobs-alone}
use Rattle.jitter.proofs.Least.{first-completion}
use Rattle.jitter.proofs.Agree.{one-job, length-alone, agree}

-- A chain of a function that never falls, from an x that it does not lower, rises with each evaluation but the last
came-length : {f : ℕ → ℕ} {Over : ℕ → Type 0} → ((s t : ℕ) → s ≤ t → f s ≤ f t) → {x n w : ℕ} → x ≤ f x → Chain f Over x n (came w) → n + x ≤ suc w
came-length mono rises (back h) = omega arith
came-length {f} mono {x} rises (on h o c) = omega (arith, came-length mono (mono x (f x) rises) c)

filter-one : {p : ℕ → Type 0} (d : (x : ℕ) → Dec (p x)) (x : ℕ) → p x → filter d (x ∷ []) ≡ x ∷ []
filter-one d x h = if_pos (d x) h (x ∷ []) []

module _ {tab : Table} (kept-tab : Kept tab) (single : Single tab) {u : ℕ} (owner : u < transactions tab) where
  itself : IsTask tab u 0
  itself = is_task kept-tab single owner

  setting : Setting tab u 0 0 0
  setting = setting-alone kept-tab single owner

  -- ---- the one turn of the walk

  modes-alone : running_modes tab u 0 ≡ 0 ∷ []
  unfolding running_modes from
  modes-alone = rw (single.one_mode u owner) (filter-one (λ m. runs? tab u m 0) 0 setting.runs)

  candidates-alone : candidates tab u 0 0 ≡ 0 ∷ []
  unfolding candidates from
  candidates-alone = rw (single.one_task u owner) (filter-one (candidate? tab u 0 0) 0 setting.candidate)

  walk-alone : walk_order tab u 0 ≡ record { mode = 0; candidate = 0 } ∷ []
  unfolding walk_order turns
  walk-alone = rw (modes-alone, turns, candidates-alone) refl

  -- ---- its evaluations

  module _ {t : ℕ} (plain : Completion tab u t) (within : InPeriod tab u t) where
    length-evaluations : {n L : ℕ} → LengthChain tab u 0 0 0 n (came L) → (L ≡ t) × (n ≤ t)
    length-evaluations chain =
        let at = least-unique (busy-length kept-tab itself setting chain) (length-alone kept-tab single owner plain within) in
        let most = came-length (λ s z l. busy-rises kept-tab itself 0 0 l) (busy-some kept-tab itself setting (le_refl 1)) chain in
        (at, omega arith)

    -- the job's chain starts at B + C, so at 1 or above
    job-evaluations : {n : ℕ} → JobChains tab u 0 0 0 1 n → n ≤ t
    unfolding start
    job-evaluations (JobChains.one JobChains.none chain) =
        let p = job tab u 0 0 0 in
        let at = least-unique (job-completion kept-tab itself imposed-fair 0 0 p chain) (first-completion kept-tab single owner plain) in
        let most = came-length (λ s z l. demand-grows kept-tab (imposed-fair.rises l) itself 0 0 p) (start-below kept-tab itself imposed 0 0 p _) chain in
        omega (arith, ap (λ (N : ℕ). N * time tab u 0 0) (jobs-to-job tab u 0 0 0), runs-alone kept-tab single owner)

    turn-evaluations : {n : ℕ} {o : Outcome} → Needed tab u 0 (record { mode = 0; candidate = 0 } ∷ []) n o → n ≤ 2 * t
    unfolding response_of
    turn-evaluations (Needed.past chain) =
        let length = length-alone kept-tab single owner plain within in
        absurd (busy-past kept-tab itself setting chain t length.has.0 (omega (arith, within, period-lt kept-tab owner)) length.has.1)
    turn-evaluations (Needed.turn {L = L} {k = k} chain jobs Needed.none) =
        let (at, few) = length-evaluations chain in
        let one : jobs_to tab u 0 0 (last_job tab u 0 0 L) ≡ 1 = rw at (jobs-alone kept-tab single owner t ∙ one-job kept-tab single owner plain within) in
        omega (arith, job-evaluations (subst (λ (N : ℕ). JobChains tab u 0 0 0 N k) one jobs))

    needed-alone : {n : ℕ} {o : Outcome} → Needed tab u 0 (walk_order tab u 0) n o → n ≤ 2 * t
    needed-alone {n} {o} needed =
        turn-evaluations (subst (λ (order : List Turn). Needed tab u 0 order n o) walk-alone needed)

  -- So with such a budget document 01 answers the bound, which is the plain response and the offset
  pub lasts : {t : ℕ} → Completion tab u t → InPeriod tab u t → {budget : ℕ} → 2 * period tab u ≤ budget → {x : Answer} → Answers tab u 0 budget x → (n : ℕ) × (by : Named) × (x ≡ bound (response_of tab u t + offset tab u 0) n by)
  unfolding response_of
  lasts plain within {budget} enough (overloaded over) =
      absurd (agree kept-tab single owner plain within {budget = budget} (overloaded over))
  lasts plain within enough (short free needed l) = absurd (omega (arith, within, needed-alone plain within needed))
  lasts plain within enough (past free needed l) = absurd (agree kept-tab single owner plain within (past free needed l))
  lasts plain within enough (kept {n = n} {x = by} free needed l b) =
      (n, named tab u by, ap (λ (R : ℕ). bound R n (named tab u by)) (agree kept-tab single owner plain within (kept free needed l b)))
