-- What the walk keeps as the greatest response met is the bound, with the first that gives it, and where it passes H some busy
-- length is not within the horizon.
use mathlib.Core.Path.{◌≡◌, refl, sym, ap, ap₂, subst, subst₂}
use mathlib.Core.Logic.{◌⊎◌, inl, inr}
use mathlib.Core.List.Memᴰ
use mathlib.Core.List.{
  List,
  ◌∷◌,
  ◌++◌,
  Memᴰ,
}
use lib.IntN.{ℤ, pos}
use lib.Signed.{◌≤ℤ◌}
use Prim.Native.Nat.{ℕ, suc, ◌+◌, ◌≤◌, ◌<◌}
use native.Mathlib.Nat.{eq-or-lt_of_le}
use native.Mathlib.Omega.{arith}
use Rattle.table.specs.Table.{Table, IsTask}
use Rattle.table.specs.Limits.{horizon}
use Rattle.table.specs.Kept.{Kept}
use Rattle.analysis.specs.Choice.{count}
use Rattle.analysis.specs.Charge.{Later}
use Rattle.analysis.specs.Bound.{last_job, jobs_to, busy, BusyLength, Completion, response, Setting, Within, Response, Bound}
use Rattle.analysis.specs.Chain.{came, over}
use Rattle.analysis.specs.Order.{Turn, TurnBefore, Source, SourceBefore, walk_order}
use Rattle.analysis.specs.Needed.{job, Outcome, bounded, past_horizon}
use Rattle.analysis.specs.Who.{Responds, BoundBy}
use Rattle.analysis.specs.Walk.{Best, nothing, answered}
use Rattle.analysis.proofs.Choice.{least-unique}
use Rattle.analysis.proofs.First.{Ascending, ascending-append, BestBefore, best_over, best-most, best-first}
use Rattle.analysis.proofs.Order.{setting-turn, turn-setting, walk-ascends}
use Rattle.analysis.proofs.Signed.{count-some, count-le}
use Rattle.analysis.proofs.Charges.{Fair}
use Rattle.analysis.proofs.Turn.{LengthChain, busy-length, busy-within, busy-past, job-completion}
use Rattle.analysis.proofs.Walk.{JobsWalked, none, one, TurnsWalked, past, turn, TurnsEnd, turns-end}
use Rattle.analysis.proofs.Response.{Queued, queued-response, response-queued, response-job, some-response}

-- a turn of the walk that comes to its jobs, with their responses
pub record Met (later : Later) (tab : Table) (u a m c : ℕ) (responses : List Best) : Type 0 where
  pub n : ℕ
  pub L : ℕ
  pub k : ℕ
  pub chain : LengthChain tab u a m c n (came L)
  pub jobs : JobsWalked later tab u a m c (jobs_to tab u a c (last_job tab u a c L)) 0 k responses

-- the same with what it is of
pub record MetIn (later : Later) (tab : Table) (u a : ℕ) (order : List Turn) (x : Best) : Type 0 where
  pub s : Turn
  pub in_order : Memᴰ s order
  pub responses : List Best
  pub here : Memᴰ x responses
  pub met : Met later tab u a s.mode s.candidate responses

module _ {later : Later} {tab : Table} {u a : ℕ} where
  -- each turn of a walk that ends bounded is met, and its responses are among those of the walk
  turn-met : {order : List Turn} {n : ℕ} {met : List Best} → TurnsWalked later tab u a order n met bounded → (s : Turn) → Memᴰ s order → (jobs : List Best) × ((x : Best) → Memᴰ x jobs → Memᴰ x met) × Met later tab u a s.mode s.candidate jobs
  turn-met none s h = absurd (Memᴰ.not-nil h)
  turn-met (turn {s = x} {rest = order} {jobs = b} {met = d} chain jobs rest) s h = go (Memᴰ.cases_cons h) (λ m. turn-met rest s m)
    where
      Is : Turn → List Best → Type 0
      Is t all = (e : List Best) × ((y : Best) → Memᴰ y e → Memᴰ y all) × Met later tab u a t.mode t.candidate e

      go : (s ≡ x) ⊎ Memᴰ s order → (Memᴰ s order → Is s d) → Is s (b ++ d)
      go (inl e) more =
          subst (λ (t : Turn). Is t (b ++ d)) (sym e)
          (b, (λ y k. Memᴰ.append_left d k), record { n = _; L = _; k = _; chain = chain; jobs = jobs })
      go (inr m) more = let (f, l, met) = more m in (f, (λ y k. Memᴰ.append_right b (l y k)), met)

  -- and each response of the walk is one of a turn's
  met-turn : {order : List Turn} {n : ℕ} {met : List Best} → TurnsWalked later tab u a order n met bounded → (x : Best) → Memᴰ x met → MetIn later tab u a order x
  met-turn none x h = absurd (Memᴰ.not-nil h)
  met-turn (turn {s = s} {rest = order} {jobs = b} {met = d} chain jobs rest) x h = go (Memᴰ.append_cases b h) (λ m. met-turn rest x m)
    where
      go : Memᴰ x b ⊎ Memᴰ x d → (Memᴰ x d → MetIn later tab u a order x) → MetIn later tab u a (s ∷ order) x
      go (inl k) more =
          record { s = s; in_order = Memᴰ.head refl; responses = b; here = k; met = record { n = _; L = _; k = _; chain = chain; jobs = jobs } }
      go (inr k) more =
          let z = more k in
          record { s = z.s; in_order = Memᴰ.tail z.in_order; responses = z.responses; here = z.here; met = z.met }

  -- a walk that ends past the horizon has an L chain that does
  turn-past : {order : List Turn} {n : ℕ} {met : List Best} → TurnsWalked later tab u a order n met past_horizon → (s : Turn) × Memᴰ s order × ((k : ℕ) × LengthChain tab u a s.mode s.candidate k over)
  turn-past (past {s = s} {n = n} chain) = (s, Memᴰ.head refl, (n, chain))
  turn-past (turn chain jobs rest) = let (s, h, z) = turn-past rest in (s, Memᴰ.tail h, z)

-- x is the response of the i-th job
pub record OfJob (later : Later) (tab : Table) (u a m c i : ℕ) (x : Best) : Type 0 where
  pub w : ℕ
  pub completion : Completion later tab u a m c (job tab u a c i) w
  pub is : x ≡ answered tab u a m c i w

module _ {later : Later} (fair : Fair later) {tab : Table} (kept : Kept tab) {u a : ℕ} (is_task : IsTask tab u a) where
  -- the response of each of the jobs N, N + 1, .. is met
  job-met : {m c todo N n : ℕ} {met : List Best} → JobsWalked later tab u a m c todo N n met → (i : ℕ) {w : ℕ} → N ≤ i → i < N + todo → Completion later tab u a m c (job tab u a c i) w → Memᴰ (answered tab u a m c i w) met
  job-met none i l h done = absurd (omega arith)
  job-met {m} {c} (one {todo = todo} {N = N} {w = v} {met = met} chain rest) i {w} l h done =
      go (eq-or-lt_of_le l) (λ q. job-met rest i q (omega arith) done)
    where
      go : (N ≡ i) ⊎ (N < i) → (suc N ≤ i → Memᴰ (answered tab u a m c i w) met) → Memᴰ (answered tab u a m c i w) (answered tab u a m c N v ∷ met)
      go (inl e) more =
          let same : v ≡ w = least-unique (subst (λ (x : ℕ). Completion later tab u a m c (job tab u a c x) v) e (job-completion kept is_task fair m c (job tab u a c N) chain)) done in
          Memᴰ.head (sym (ap₂ (answered tab u a m c) e same))
      go (inr q) more = Memᴰ.tail (more q)

  -- and each response met is that of one of them
  met-job : {m c todo N n : ℕ} {met : List Best} → JobsWalked later tab u a m c todo N n met → (x : Best) → Memᴰ x met → (i : ℕ) × (N ≤ i) × (i < N + todo) × OfJob later tab u a m c i x
  met-job none x h = absurd (Memᴰ.not-nil h)
  met-job {m} {c} (one {todo = todo} {N = N} {w = w} {met = met} chain rest) x h = go (Memᴰ.cases_cons h) (λ k. met-job rest x k)
    where
      go : (x ≡ answered tab u a m c N w) ⊎ Memᴰ x met → (Memᴰ x met → (i : ℕ) × (suc N ≤ i) × (i < suc N + todo) × OfJob later tab u a m c i x) → (i : ℕ) × (N ≤ i) × (i < N + suc todo) × OfJob later tab u a m c i x
      go (inl e) more =
          (N, omega arith, omega arith, record { w = w; completion = job-completion kept is_task fair m c (job tab u a c N) chain; is = e })
      go (inr k) more = let (i, l, by, z) = more k in (i, omega arith, omega arith, z)

  -- ---- in the order of the walk

  jobs-ascend : {m c todo N n : ℕ} {met : List Best} → JobsWalked later tab u a m c todo N n met → Ascending BestBefore met
  unfolding answered
  jobs-ascend none = Ascending.none
  jobs-ascend {m} {c} (one {N = N} {w = w} {met = met} chain rest) = Ascending.one behind (jobs-ascend rest)
    where
      behind : (y : Best) → Memᴰ y met → BestBefore (answered tab u a m c N w) y
      behind y h =
          let (i, l, by, z) = met-job rest y h in
          subst (BestBefore (answered tab u a m c N w)) (sym z.is) (SourceBefore.job refl l)

  met-ascend : {order : List Turn} {n : ℕ} {met : List Best} → TurnsWalked later tab u a order n met bounded → Ascending TurnBefore order → Ascending BestBefore met
  unfolding answered
  met-ascend none up = Ascending.none
  met-ascend (turn {s = s} {jobs = b} {met = d} chain jobs rest) (Ascending.one least up) =
      ascending-append (jobs-ascend jobs) (met-ascend rest up) across
    where
      across : (x y : Best) → Memᴰ x b → Memᴰ y d → BestBefore x y
      across x y h k =
          let (i, l, by, v) = met-job jobs x h in
          let z = met-turn rest y k in
          let (j, f, p, w) = met-job z.met.jobs y z.here in
          subst₂ BestBefore (sym v.is) (sym w.is) (SourceBefore.turn (least z.s z.in_order))

  -- ---- the bound

  module _ {n : ℕ} {met : List Best} (turns : TurnsWalked later tab u a (walk_order tab u a) n met bounded) where
    abbrev pub best : Best
    best = best_over nothing met

    within : (m c : ℕ) → Setting tab u a m c → Within tab u a m c
    within m c setting =
        let (d, l, z) = turn-met turns (record { mode = m; candidate = c }) (setting-turn tab u a setting) in
        busy-within kept is_task setting z.chain

    -- the response of a queued job is met
    queued-met : {m c L N w : ℕ} {r : ℤ} → Setting tab u a m c → BusyLength tab u a m c L → Queued later tab u a m c L N w r → Memᴰ (answered tab u a m c N w) met
    queued-met {m} {c} {L} {N} {w} setting length q =
        let (d, all, z) = turn-met turns (record { mode = m; candidate = c }) (setting-turn tab u a setting) in
        let e : z.L ≡ L = least-unique (busy-length kept is_task setting z.chain) length in
        let by : N < jobs_to tab u a c (last_job tab u a c z.L) = subst (λ (t : ℕ). N < jobs_to tab u a c (last_job tab u a c t)) (sym e) q.by in
        all (answered tab u a m c N w) (job-met z.jobs N (omega arith) (omega arith) q.completion)

    greatest : (m c : ℕ) (p r : ℤ) → Setting tab u a m c → Response later tab u a m c p r → r ≤ℤ pos best.response
    unfolding answered
    greatest m c p r setting x =
        let (N, w, q) = response-queued kept is_task x.busy_length x in
        count-le r (rw q.is ((best-most nothing met).1 _ (queued-met setting x.busy_length q)))

    some : 1 ≤ best.response
    some = some-response kept is_task fair within greatest

    -- what a source gives is met
    responds-met : (x : Source) (r : ℕ) → Responds later tab u a x r → Memᴰ (record { response = r; source = x }) met
    unfolding answered count
    responds-met x r h =
        let length = h.response.busy_length in
        let (w, q) = response-job kept is_task length h.response in
        let e : r ≡ count (response tab u a x.turn.candidate (job tab u a x.turn.candidate x.job) w) = ap count q.is in
        Memᴰ.cast (λ i. record { response = e i; source = x }) (queued-met h.setting length q)

    -- and what is met, unless it is 0, is what a source gives
    met-responds : (x : Best) → Memᴰ x met → 1 ≤ x.response → Responds later tab u a x.source x.response
    unfolding answered
    met-responds x h big =
        let z = met-turn turns x h in
        let setting = turn-setting tab u a z.in_order in
        let length = busy-length kept is_task setting z.met.chain in
        let (i, l, by, y) = met-job z.met.jobs x z.here in
        let m = z.s.mode in
        let c = z.s.candidate in
        let is : count (response tab u a c (job tab u a c i) y.w) ≡ x.response = sym (ap (λ (v : Best). v.response) y.is) in
        let q : Queued later tab u a m c z.met.L i y.w (pos x.response) = record { by = omega arith; completion = y.completion; is = sym (count-some (response tab u a c (job tab u a c i) y.w) is big) } in
        subst (λ (v : Source). Responds later tab u a v x.response) (sym (ap (λ (v : Best). v.source) y.is))
        (record { setting = setting; response = queued-response kept is_task length q })

    -- The best of the walk is the bound, and the first that gives it
    pub walk-bound : BoundBy later tab u a best.response best.source
    walk-bound =
        let (here, less) = best-first met (met-ascend turns (walk-ascends tab u a)) some in
        let gives = met-responds best here some in
        record {
          bound = record { within = within; attained = record { m = _; c = _; p = _; setting = gives.setting; response = gives.response }; greatest = greatest };
          first =
              record {
                gives = gives;
                greatest = λ y s h. (best-most nothing met).1 _ (responds-met y s h);
                first = λ y s b h. less _ (responds-met y s h) b;
              };
        }

  -- Where it passes H, some setting has no t in 1..H that meets the inequality for L
  pub walk-past : {n : ℕ} {met : List Best} → TurnsWalked later tab u a (walk_order tab u a) n met past_horizon → (m : ℕ) × (c : ℕ) × Setting tab u a m c × ((t : ℕ) → 1 ≤ t → t ≤ horizon → ¬ (busy tab u a m c t ≤ t))
  walk-past turns =
      let (s, h, (k, chain)) = turn-past turns in
      let setting = turn-setting tab u a h in
      (s.mode, s.candidate, setting, busy-past kept is_task setting chain)

  -- So the bound exists where every busy length is within the horizon
  pub bound-exists : ((m c : ℕ) → Setting tab u a m c → Within tab u a m c) → (R : ℕ) × Bound later tab u a R
  bound-exists within = go end.o end.turns
    where
      end : TurnsEnd later tab u a (walk_order tab u a)
      end = turns-end fair kept is_task (walk_order tab u a) (λ s h. turn-setting tab u a h)

      go : (o : Outcome) → TurnsWalked later tab u a (walk_order tab u a) end.n end.met o → (R : ℕ) × Bound later tab u a R
      go bounded turns = ((best turns).response, (walk-bound turns).bound)
      go past_horizon turns =
          let (m, c, setting, past-H) = walk-past turns in
          let x = within m c setting in
          absurd (past-H x.L x.busy_length.has.0 x.within x.busy_length.has.1)
