-- The walk and the definitions say the same: the evaluations needed and the outcome exist and are the only ones, the walk's
-- answer is the answer of document 01, and no other is.
use mathlib.Core.Path.{◌≡◌, refl, sym, ap, ap₂, ◌∙◌, subst, subst₂}
use mathlib.Core.List.{List}
use Prim.Native.Nat.{ℕ, ◌+◌, ◌-◌, ◌≤◌, ◌<◌}
use native.Mathlib.Decide.{dec_le}
use native.Mathlib.Omega.{arith}
use Rattle.table.specs.Table.{Table, IsTask}
use Rattle.table.specs.Limits.{horizon}
use Rattle.table.specs.Kept.{Kept}
use Rattle.periods.specs.Charge.{imposed}
use Rattle.analysis.specs.Charge.{Later}
use Rattle.analysis.specs.Bound.{last_job, jobs_to, busy, Setting, Bound}
use Rattle.analysis.specs.Who.{BoundBy}
use Rattle.analysis.specs.Overload.{Overload, overload?}
use Rattle.analysis.specs.Order.{Turn, Source, walk_order}
use Rattle.analysis.specs.Needed.{JobChains, Outcome, bounded, past_horizon, Needed}
use Rattle.analysis.specs.Answer.{Named, named, Answer, bound, overload, beyond, spent, Answers}
use Rattle.analysis.specs.Walk.{Best, nothing, answer_of, answer_by, answer, walk_turns}
use Rattle.analysis.proofs.Chain.{chain_same}
use Rattle.analysis.proofs.Order.{turn-setting}
use Rattle.analysis.proofs.Charges.{Fair, imposed-fair}
use Rattle.analysis.proofs.Walk.{TurnsWalked, TurnsEnd, turns-end, turns-enough, turns-short, turns-needed}
use Rattle.analysis.proofs.Before.{source-orders}
use Rattle.analysis.proofs.First.{first-unique, best_over}
use Rattle.analysis.proofs.Greatest.{walk-bound, walk-past}

-- ---- the evaluations needed

module _ {tab : Table} {u a : ℕ} where
  chains-same : {m c N n k : ℕ} → JobChains tab u a m c N n → JobChains tab u a m c N k → n ≡ k
  chains-same JobChains.none JobChains.none = refl
  chains-same (JobChains.one r x) (JobChains.one q y) =
      let (e, f) = chain_same x y in ap₂ ◌+◌ (chains-same r q) e

  -- there is one number of evaluations needed, and one outcome
  pub needed-unique : {order : List Turn} {n k : ℕ} {o p : Outcome} → Needed tab u a order n o → Needed tab u a order k p → (n ≡ k) × (o ≡ p)
  needed-unique Needed.none Needed.none = (refl, refl)
  needed-unique (Needed.past x) (Needed.past y) = ((chain_same x y).0, refl)
  needed-unique (Needed.past x) (Needed.turn y jobs rest) =
      let (e, f) = chain_same x y in
      absurd (let z : ◌≡◌ {A = ℕ} 0 1 = cc in omega arith)
  needed-unique (Needed.turn x jobs rest) (Needed.past y) =
      let (e, f) = chain_same x y in
      absurd (let z : ◌≡◌ {A = ℕ} 0 1 = cc in omega arith)
  needed-unique (Needed.turn {m = m} {c = c} {L = L} {k = k} x jobs rest) (Needed.turn {L = M} y chains more) =
      let (e, f) = chain_same x y in
      let g : L ≡ M = cc in
      let j = chains-same (subst (λ (t : ℕ). JobChains tab u a m c (jobs_to tab u a c (last_job tab u a c t)) k) g jobs) chains in
      let (i, o) = needed-unique rest more in
      (omega arith, o)

-- ---- the walk's answer

-- Walks later tab u a budget x: the walk with that budget answers x, by its turns apart from any budget
pub data Walks (later : Later) (tab : Table) (u a budget : ℕ) : Answer → Type 0 where
  overloaded : Overload tab u a → Walks later tab u a budget overload
  short : {n : ℕ} {met : List Best} {o : Outcome} → ¬ (Overload tab u a) → TurnsWalked later tab u a (walk_order tab u a) n met o → budget < n → Walks later tab u a budget (spent budget)
  past : {n : ℕ} {met : List Best} → ¬ (Overload tab u a) → TurnsWalked later tab u a (walk_order tab u a) n met past_horizon → n ≤ budget → Walks later tab u a budget (beyond n)
  kept : {n R : ℕ} {by : Named} {met : List Best} → ¬ (Overload tab u a) → TurnsWalked later tab u a (walk_order tab u a) n met bounded → n ≤ budget → (best_over nothing met).response ≡ R → named tab u (best_over nothing met).source ≡ by → Walks later tab u a budget (bound R n by)

module _ (later : Later) (tab : Table) (u a budget : ℕ) where
  walked : Answer
  walked = answer_of tab u budget (walk_turns later tab u a (walk_order tab u a) budget nothing)

  answer-overload : Overload tab u a → answer later tab u a budget ≡ overload
  unfolding answer answer_by
  answer-overload h = go (overload? tab u a)
    where
      go : (d : Dec (Overload tab u a)) → answer_by d (answer_of tab u budget (walk_turns later tab u a (walk_order tab u a) budget nothing)) ≡ overload
      go (yes x) = refl
      go (no x) = absurd (x h)

  answer-walk : ¬ (Overload tab u a) → answer later tab u a budget ≡ walked
  unfolding answer answer_by walked
  answer-walk h = go (overload? tab u a)
    where
      go : (d : Dec (Overload tab u a)) → answer_by d (answer_of tab u budget (walk_turns later tab u a (walk_order tab u a) budget nothing)) ≡ walked
      go (yes x) = absurd (h x)
      go (no x) = refl

  -- what the walk answers is what the function computes
  pub walks-answer : {x : Answer} → Walks later tab u a budget x → answer later tab u a budget ≡ x
  unfolding answer_of walked
  walks-answer (overloaded h) = answer-overload h
  walks-answer (short free turns l) =
      answer-walk free ∙ ap (answer_of tab u budget) (turns-short later tab u a turns budget nothing l)
  walks-answer (past {n = n} free turns l) =
      answer-walk free ∙ ap (answer_of tab u budget) (turns-enough later tab u a turns budget nothing l) ∙ ap beyond (omega arith)
  walks-answer (kept {n = n} free turns l e f) =
      let m : budget - (budget - n) ≡ n = omega arith in
      answer-walk free
      ∙ ap (answer_of tab u budget) (turns-enough later tab u a turns budget nothing l)
      ∙ (λ i. bound (e i) (m i) (f i))

-- ---- the walk and the definitions

-- a bound has one first that gives it
pub bound-by-unique : {later : Later} {tab : Table} {u a R Q : ℕ} {x y : Source} → BoundBy later tab u a R x → BoundBy later tab u a Q y → (x ≡ y) × (R ≡ Q)
bound-by-unique h k = first-unique source-orders h.first k.first

module _ {tab : Table} (kept-tab : Kept tab) {u a : ℕ} (is_task : IsTask tab u a) where
  walk_end : {later : Later} → Fair later → TurnsEnd later tab u a (walk_order tab u a)
  walk_end fair = turns-end fair kept-tab is_task (walk_order tab u a) (λ s h. turn-setting tab u a h)

  -- The evaluations needed, and an outcome, always exist
  pub needed-exists : (n : ℕ) × (o : Outcome) × Needed tab u a (walk_order tab u a) n o
  needed-exists = let z = walk_end imposed-fair in (z.n, z.o, turns-needed z.turns)

  -- with the turns that come to them
  needed-turns : {n : ℕ} {o : Outcome} → Needed tab u a (walk_order tab u a) n o → (met : List Best) × TurnsWalked imposed tab u a (walk_order tab u a) n met o
  needed-turns needed =
      let z = walk_end imposed-fair in
      let (e, f) = needed-unique (turns-needed z.turns) needed in
      (z.met, subst₂ (λ (x : ℕ) (y : Outcome). TurnsWalked imposed tab u a (walk_order tab u a) x z.met y) e f z.turns)

  -- The outcome is past the horizon exactly when for some mode and candidate no t in 1..H meets the inequality for L
  pub outcome-past : {n : ℕ} → Needed tab u a (walk_order tab u a) n past_horizon → (m : ℕ) × (c : ℕ) × Setting tab u a m c × ((t : ℕ) → 1 ≤ t → t ≤ horizon → ¬ (busy tab u a m c t ≤ t))
  outcome-past needed = let (met, turns) = needed-turns needed in walk-past imposed-fair kept-tab is_task turns

  -- and otherwise there is a bound
  pub outcome-bounded : {n : ℕ} → Needed tab u a (walk_order tab u a) n bounded → (R : ℕ) × Bound imposed tab u a R
  outcome-bounded needed = let (met, turns) = needed-turns needed in ((best_over nothing met).response, (walk-bound imposed-fair kept-tab is_task turns).bound)

  pub past-outcome : {n : ℕ} {o : Outcome} → Needed tab u a (walk_order tab u a) n o → {m c : ℕ} → Setting tab u a m c → ((t : ℕ) → 1 ≤ t → t ≤ horizon → ¬ (busy tab u a m c t ≤ t)) → o ≡ past_horizon
  past-outcome {n} {o} needed {m} {c} setting none = go o needed
    where
      go : (o : Outcome) → Needed tab u a (walk_order tab u a) n o → o ≡ past_horizon
      go past_horizon x = refl
      go bounded x =
          let (R, y) = outcome-bounded x in
          let l = y.within m c setting in
          absurd (none l.L l.busy_length.has.0 l.within l.busy_length.has.1)

  -- the walk answers for either charge of later jobs, and any budget
  pub answer-walks : {later : Later} → Fair later → (budget : ℕ) → Walks later tab u a budget (answer later tab u a budget)
  answer-walks {later} fair budget = go (overload? tab u a) (dec_le z.n budget) z.o z.turns
    where
      z : TurnsEnd later tab u a (walk_order tab u a)
      z = walk_end fair

      is : {x : Answer} → Walks later tab u a budget x → Walks later tab u a budget (answer later tab u a budget)
      is w = rw (walks-answer later tab u a budget w) w

      go : Dec (Overload tab u a) → Dec (z.n ≤ budget) → (o : Outcome) → TurnsWalked later tab u a (walk_order tab u a) z.n z.met o → Walks later tab u a budget (answer later tab u a budget)
      go (yes h) d o turns = is (overloaded h)
      go (no free) (no l) o turns = is (short free turns (omega arith))
      go (no free) (yes l) past_horizon turns = is (past free turns l)
      go (no free) (yes l) bounded turns = is (kept free turns l refl refl)

  -- a bound that it answers is the bound, and who it names is the first that gives it
  pub answer-by : {later : Later} → Fair later → (budget : ℕ) {R n : ℕ} {by : Named} → answer later tab u a budget ≡ bound R n by → (x : Source) × (named tab u x ≡ by) × BoundBy later tab u a R x
  answer-by {later} fair budget {R} {by = by} e = go (subst (Walks later tab u a budget) e (answer-walks fair budget))
    where
      go : {n : ℕ} → Walks later tab u a budget (bound R n by) → (x : Source) × (named tab u x ≡ by) × BoundBy later tab u a R x
      go (kept {met = met} free turns l r f) =
          let x = (best_over nothing met).source in
          (x, f, subst (λ (q : ℕ). BoundBy later tab u a q x) r (walk-bound fair kept-tab is_task turns))

  pub answer-bound : {later : Later} → Fair later → (budget : ℕ) {R n : ℕ} {by : Named} → answer later tab u a budget ≡ bound R n by → Bound later tab u a R
  answer-bound fair budget e = let (x, f, z) = answer-by fair budget e in z.bound

  -- The walk's answer is the answer of document 01
  pub answers : (budget : ℕ) → Answers tab u a budget (answer imposed tab u a budget)
  answers budget = go (answer-walks imposed-fair budget)
    where
      go : {x : Answer} → Walks imposed tab u a budget x → Answers tab u a budget x
      go (overloaded h) = Answers.overloaded h
      go (short free turns l) = Answers.short free (turns-needed turns) l
      go (past free turns l) = Answers.past free (turns-needed turns) l
      go (kept {n = n} {met = met} free turns l e f) =
          subst₂ (λ (R : ℕ) (by : Named). Answers tab u a budget (bound R n by)) e f
          (Answers.kept free (turns-needed turns) l (walk-bound imposed-fair kept-tab is_task turns))

  answers-walks : {budget : ℕ} {x : Answer} → Answers tab u a budget x → Walks imposed tab u a budget x
  answers-walks (Answers.overloaded h) = overloaded h
  answers-walks (Answers.short free needed l) = let (met, turns) = needed-turns needed in short free turns l
  answers-walks (Answers.past free needed l) = let (met, turns) = needed-turns needed in past free turns l
  answers-walks {budget} (Answers.kept free needed l x) =
      let (met, turns) = needed-turns needed in
      let (e, f) = bound-by-unique (walk-bound imposed-fair kept-tab is_task turns) x in
      kept free turns l f (ap (named tab u) e)

  -- and no other answer is
  pub answers-unique : {budget : ℕ} {x y : Answer} → Answers tab u a budget x → Answers tab u a budget y → x ≡ y
  answers-unique {budget} h k =
      sym (walks-answer imposed tab u a budget (answers-walks h)) ∙ walks-answer imposed tab u a budget (answers-walks k)
