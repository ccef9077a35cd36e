-- The walk apart from any budget: what its turns come to, for either charge of later jobs, with the chains behind it. The
-- walk with a budget computes the same where the budget has the evaluations, and is short where it has not; with imposed
-- charges they are the evaluations needed.
use mathlib.Core.Path.{◌≡◌, refl, sym, ap, ap₂, ◌∙◌, subst₂}
use mathlib.Core.List.{List, [], ◌∷◌, ◌++◌, Memᴰ}
use Prim.Native.Nat.{ℕ, zero, suc, ◌+◌, ◌-◌, ◌≤◌, ◌<◌}
use native.Mathlib.Decide.{dec_le}
use native.Mathlib.Omega.{arith}
use Rattle.table.specs.Table.{Table, IsTask}
use Rattle.table.specs.Kept.{Kept}
use Rattle.periods.specs.Charge.{imposed}
use Rattle.analysis.specs.Charge.{Later}
use Rattle.analysis.specs.Bound.{last_job, jobs_to, demand, busy, BusyLength, Setting}
use Rattle.analysis.specs.Chain.{End, came, over}
use Rattle.analysis.specs.Order.{Turn}
use Rattle.analysis.specs.Needed.{Beyond, job, JobChains, Outcome, bounded, past_horizon, Needed}
use Rattle.analysis.specs.Walk as W
use Rattle.analysis.specs.Walk.{Best, better, answered, through, chain, beyond?, never?, Walked, walk_jobs, walk_turn, walk_turns}
use Rattle.analysis.proofs.Chain.{Ends, chain-enough, chain-short}
use Rattle.analysis.proofs.Charges.{Fair}
use Rattle.analysis.proofs.First.{best_over, best-append}
use Rattle.analysis.proofs.Turn.{LengthChain, JobChain, busy-ends, busy-length, queued-completes}

-- the jobs N, N + 1, .., `todo` of them, make n evaluations, and these are their responses
pub data JobsWalked (later : Later) (tab : Table) (u a m c : ℕ) : (todo N n : ℕ) → List Best → Type 0 where
  none : {N : ℕ} → JobsWalked later tab u a m c 0 N 0 []
  one : {todo N n k w : ℕ} {met : List Best} → JobChain later tab u a m c (job tab u a c N) k w → JobsWalked later tab u a m c todo (suc N) n met → JobsWalked later tab u a m c (suc todo) N (k + n) (answered tab u a m c N w ∷ met)

-- the turns make n evaluations and come to that outcome, and these are the responses met
pub data TurnsWalked (later : Later) (tab : Table) (u a : ℕ) : (order : List Turn) (n : ℕ) → List Best → Outcome → Type 0 where
  none : TurnsWalked later tab u a [] 0 [] bounded
  past : {s : Turn} {rest : List Turn} {n : ℕ} → LengthChain tab u a s.mode s.candidate n over → TurnsWalked later tab u a (s ∷ rest) n [] past_horizon
  turn : {s : Turn} {rest : List Turn} {n k l L : ℕ} {jobs met : List Best} {o : Outcome} → LengthChain tab u a s.mode s.candidate n (came L) → JobsWalked later tab u a s.mode s.candidate (jobs_to tab u a s.candidate (last_job tab u a s.candidate L)) 0 k jobs → TurnsWalked later tab u a rest l met o → TurnsWalked later tab u a (s ∷ rest) (n + k + l) (jobs ++ met) o

-- ---- the walk with a budget

-- where the walk stands after an outcome
abbrev pub reached : Outcome → (left : ℕ) → Best → Walked
reached bounded left b = through left b
reached past_horizon left b = W.past left

module _ (later : Later) (tab : Table) (u a : ℕ) where
  -- one job: its chain ends within what is left, or falls short
  job-step : (m c todo N : ℕ) {k w : ℕ} → JobChain later tab u a m c (job tab u a c N) k w → (left : ℕ) (best : Best) → k ≤ left → walk_jobs later tab u a m c (suc todo) N left best ≡ walk_jobs later tab u a m c todo (suc N) (left - k) (better best (answered tab u a m c N w))
  unfolding walk_jobs
  job-step m c todo N h left best l = rw (chain-enough (demand later tab u a m c (job tab u a c N)) never? h left l, walk_jobs) refl

  job-short : (m c todo N : ℕ) {k w : ℕ} → JobChain later tab u a m c (job tab u a c N) k w → (left : ℕ) (best : Best) → left < k → walk_jobs later tab u a m c (suc todo) N left best ≡ W.short
  unfolding walk_jobs
  job-short m c todo N h left best l = rw (chain-short (demand later tab u a m c (job tab u a c N)) never? h left l, walk_jobs) refl

  jobs-enough : {m c todo N n : ℕ} {met : List Best} → JobsWalked later tab u a m c todo N n met → (left : ℕ) (best : Best) → n ≤ left → walk_jobs later tab u a m c todo N left best ≡ through (left - n) (best_over best met)
  unfolding walk_jobs best_over
  jobs-enough none left best l = ap₂ through (omega arith) refl
  jobs-enough {m} {c} (one {todo = todo} {N = N} {n = n} {k = k} {w = w} h rest) left best l =
      job-step m c todo N h left best (omega arith)
      ∙ jobs-enough rest (left - k) (better best (answered tab u a m c N w)) (omega arith)
      ∙ ap₂ through (omega arith) refl

  jobs-short : {m c todo N n : ℕ} {met : List Best} → JobsWalked later tab u a m c todo N n met → (left : ℕ) (best : Best) → left < n → walk_jobs later tab u a m c todo N left best ≡ W.short
  jobs-short none left best l = absurd (omega arith)
  jobs-short {m} {c} (one {todo = todo} {N = N} {n = n} {k = k} {w = w} h rest) left best l =
      go (dec_le k left) (λ x y q. jobs-short rest x y q)
    where
      go : Dec (k ≤ left) → ((x : ℕ) (y : Best) → x < n → walk_jobs later tab u a m c todo (suc N) x y ≡ W.short) → walk_jobs later tab u a m c (suc todo) N left best ≡ W.short
      go (yes q) more = job-step m c todo N h left best q ∙ more (left - k) _ (omega arith)
      go (no q) more = job-short m c todo N h left best (omega arith)

  -- one turn: its L chain comes back, passes H, or falls short
  turn-came : (s : Turn) {n L : ℕ} → LengthChain tab u a s.mode s.candidate n (came L) → (left : ℕ) (best : Best) → n ≤ left → walk_turn later tab u a s left best ≡ walk_jobs later tab u a s.mode s.candidate (jobs_to tab u a s.candidate (last_job tab u a s.candidate L)) 0 (left - n) best
  unfolding walk_turn
  turn-came s h left best l = rw (chain-enough (busy tab u a s.mode s.candidate) beyond? h left l, walk_turn) refl

  turn-past : (s : Turn) {n : ℕ} → LengthChain tab u a s.mode s.candidate n over → (left : ℕ) (best : Best) → n ≤ left → walk_turn later tab u a s left best ≡ W.past (left - n)
  unfolding walk_turn
  turn-past s h left best l = rw (chain-enough (busy tab u a s.mode s.candidate) beyond? h left l, walk_turn) refl

  turn-short : (s : Turn) {n : ℕ} {e : End} → LengthChain tab u a s.mode s.candidate n e → (left : ℕ) (best : Best) → left < n → walk_turn later tab u a s left best ≡ W.short
  unfolding walk_turn
  turn-short s h left best l = rw (chain-short (busy tab u a s.mode s.candidate) beyond? h left l, walk_turn) refl

  pub turns-enough : {order : List Turn} {n : ℕ} {met : List Best} {o : Outcome} → TurnsWalked later tab u a order n met o → (left : ℕ) (best : Best) → n ≤ left → walk_turns later tab u a order left best ≡ reached o (left - n) (best_over best met)
  unfolding walk_turns best_over
  turns-enough none left best l = ap₂ through (omega arith) refl
  turns-enough (past {s = s} h) left best l = rw (turn-past s h left best l, walk_turns) refl
  turns-enough (turn {s = s} {n = n} {k = k} {jobs = b} {met = d} {o = o} h jobs rest) left best l =
      let first : walk_turn later tab u a s left best ≡ through (left - n - k) (best_over best b) = turn-came s h left best (omega arith) ∙ jobs-enough jobs (left - n) best (omega arith) in
      rw (first, walk_turns)
      (turns-enough rest (left - n - k) (best_over best b) (omega arith) ∙ ap₂ (reached o) (omega arith) (sym (best-append best b d)))

  pub turns-short : {order : List Turn} {n : ℕ} {met : List Best} {o : Outcome} → TurnsWalked later tab u a order n met o → (left : ℕ) (best : Best) → left < n → walk_turns later tab u a order left best ≡ W.short
  unfolding walk_turns
  turns-short none left best l = absurd (omega arith)
  turns-short (past {s = s} h) left best l = rw (turn-short s h left best l, walk_turns) refl
  turns-short (turn {s = s} {rest = order} {n = n} {k = k} {l = z} {jobs = b} h jobs rest) left best l =
      go (dec_le n left) (dec_le k (left - n)) (λ x y q. turns-short rest x y q)
    where
      go : Dec (n ≤ left) → Dec (k ≤ left - n) → ((x : ℕ) (y : Best) → x < z → walk_turns later tab u a order x y ≡ W.short) → walk_turns later tab u a (s ∷ order) left best ≡ W.short
      go (no p) d more = rw (turn-short s h left best (omega arith), walk_turns) refl
      go (yes p) (no q) more =
          let first : walk_turn later tab u a s left best ≡ W.short = turn-came s h left best p ∙ jobs-short jobs (left - n) best (omega arith) in
          rw (first, walk_turns) refl
      go (yes p) (yes q) more =
          let first : walk_turn later tab u a s left best ≡ through (left - n - k) (best_over best b) = turn-came s h left best p ∙ jobs-enough jobs (left - n) best q in
          rw (first, walk_turns) (more (left - n - k) (best_over best b) (omega arith))

-- ---- the walk is always defined

pub record JobsEnd (later : Later) (tab : Table) (u a m c todo N : ℕ) : Type 0 where
  pub n : ℕ
  pub met : List Best
  pub jobs : JobsWalked later tab u a m c todo N n met

pub record TurnsEnd (later : Later) (tab : Table) (u a : ℕ) (order : List Turn) : Type 0 where
  pub n : ℕ
  pub met : List Best
  pub o : Outcome
  pub turns : TurnsWalked later tab u a order n met o

module _ {later : Later} (fair : Fair later) {tab : Table} (kept : Kept tab) {u a : ℕ} (is_task : IsTask tab u a) where
  jobs-end : (m c : ℕ) {L : ℕ} → BusyLength tab u a m c L → (todo N : ℕ) → N + todo ≤ jobs_to tab u a c (last_job tab u a c L) → JobsEnd later tab u a m c todo N
  jobs-end m c length zero N l = record { n = 0; met = []; jobs = none }
  jobs-end m c length (suc todo) N l =
      let z = queued-completes kept is_task fair m c length N (omega arith) in
      let rest = jobs-end m c length todo (suc N) (omega arith) in
      record { n = _; met = _; jobs = one z.chain rest.jobs }

  pub turns-end : (order : List Turn) → ((s : Turn) → Memᴰ s order → Setting tab u a s.mode s.candidate) → TurnsEnd later tab u a order
  turns-end [] settings = record { n = 0; met = []; o = bounded; turns = none }
  turns-end (s ∷ order) settings =
      go ends.end ends.chain (turns-end order (λ x h. settings x (Memᴰ.tail h)))
    where
      here : Setting tab u a s.mode s.candidate
      here = settings s (Memᴰ.head refl)

      ends : Ends (busy tab u a s.mode s.candidate) Beyond 1
      ends = busy-ends kept is_task here

      go : (e : End) → LengthChain tab u a s.mode s.candidate ends.length e → TurnsEnd later tab u a order → TurnsEnd later tab u a (s ∷ order)
      go over chain rest = record { n = ends.length; met = []; o = past_horizon; turns = past chain }
      go (came L) chain rest =
          let z = jobs-end s.mode s.candidate (busy-length kept is_task here chain) (jobs_to tab u a s.candidate (last_job tab u a s.candidate L)) 0 (omega arith) in
          record { n = _; met = _; o = rest.o; turns = turn chain z.jobs rest.turns }

-- ---- the evaluations needed

module _ {tab : Table} {u a : ℕ} where
  jobs-needed : {m c todo N n k : ℕ} {met : List Best} → JobChains tab u a m c N n → JobsWalked imposed tab u a m c todo N k met → JobChains tab u a m c (N + todo) (n + k)
  jobs-needed {m} {c} before none = subst₂ (λ (x y : ℕ). JobChains tab u a m c x y) (omega arith) (omega arith) before
  jobs-needed {m} {c} before (one h rest) =
      subst₂ (λ (x y : ℕ). JobChains tab u a m c x y) (omega arith) (omega arith) (jobs-needed (JobChains.one before h) rest)

  -- with imposed charges, the evaluations of the walk are those needed
  pub turns-needed : {order : List Turn} {n : ℕ} {met : List Best} {o : Outcome} → TurnsWalked imposed tab u a order n met o → Needed tab u a order n o
  turns-needed none = Needed.none
  turns-needed (past h) = Needed.past h
  turns-needed (turn {s = s} {k = k} h jobs rest) =
      Needed.turn {k = k} h
      (subst₂ (λ (x y : ℕ). JobChains tab u a s.mode s.candidate x y) (omega arith) (omega arith) (jobs-needed JobChains.none jobs))
      (turns-needed rest)
