-- What a busy length demands, over whole major frames: of any candidate in any mode as much more as its load, so of them all no more
-- than the frame demand. Where a task is not overloaded, its busy demand rises by at most D in D ticks, and by no less the later.
use mathlib.Core.Path.{◌≡◌, refl, sym, ap, ◌∙◌}
use mathlib.Core.Bool.{true}
use Prim.Native.Nat.{ℕ, ◌+◌, ◌-◌, ◌*◌, ◌/◌, ◌%◌, ◌≤◌, ◌<◌}
use native.Mathlib.Nat.{add-mul, mul_assoc, mul_comm, mul-add, div-add-mod', mod-lt, mul-le-mul_left, le_trans, le_refl}
use native.Mathlib.Decide.{ℕ_discrete}
use native.Mathlib.Omega.{arith}
use Rattle.table.specs.Sum.{sum}
use Rattle.table.specs.Table.{Table, IsTask, transactions, period, modes, tasks, time, blocking}
use Rattle.table.specs.Limits.{horizon}
use Rattle.table.specs.Kept.{Kept}
use Rattle.table.proofs.Sum.{sum-le, sum-ext, sum-beside, sum-mul}
use Rattle.table.proofs.Ranges.{kept-period}
use Rattle.periods.specs.Phase.{ceil}
use Rattle.periods.specs.Charge.{released}
use Rattle.periods.proofs.Phase.{phase-lt}
use Rattle.periods.proofs.Charge.{rel}
use Rattle.periods.proofs.Quotient.{split-later, rel-later}
use Rattle.analysis.specs.Choice.{when, unless}
use Rattle.analysis.specs.Rival.{urgent?, rival?}
use Rattle.analysis.specs.Charge.{phase_of, held_of, charge, greatest, others}
use Rattle.analysis.specs.Bound.{last_job, own, demand, busy, Setting}
use Rattle.analysis.specs.Walk.{chain, beyond?}
use Rattle.analysis.specs.Overload.{Counts, Overload, load, counts?, most_load, frame_demand}
use Rattle.analysis.proofs.Choice.{when-yes, unless-yes, unless-le, most-ge}
use Rattle.analysis.proofs.Join.{own-by}
use Rattle.charge.specs.Split.{whole_periods, rest_of, rest_at, rests}
use Rattle.charge.specs.Weight.{weight, mode_weight}
use Rattle.charge.proofs.Split.{charge-split}
use Rattle.charge.proofs.Weights.{weight-none}
use Rattle.cycle.specs.Cycle.{Cycle}
use Rattle.cycle.proofs.Steady.{rounds-later}
use Rattle.cycle.proofs.Bends.{Bends, bends-steady, bends-plain, bends-more, bends-add, bends-sum, bends-most, bends-when, bends-unless}

-- ---- one transaction

weighs-less : {A B : Type 0} (d : Dec A) (e : Dec B) (x : ℕ) → (A → B) → when d x ≤ when e x
unfolding when
weighs-less (yes a) (yes b) x h = le_refl x
weighs-less (yes a) (no f) x h = absurd (f (h a))
weighs-less (no f) e x h = omega arith

module _ (tab : Table) (u a : ℕ) where
  weight-load : (i m : ℕ) → (j : ℕ) → weight tab u a i m j ≤ when (urgent? tab u a i j) (time tab i m j)
  unfolding weight
  weight-load i m j = weighs-less (rival? tab u a i m j) (urgent? tab u a i j) (time tab i m j) (λ r. r.urgent)

  -- what the rivals weigh in a mode is within its load
  mode-load : (i m : ℕ) → mode_weight tab u a i m ≤ load tab u a i m
  unfolding mode_weight load
  mode-load i m = sum-le (tasks tab i) (λ j l. weight-load i m j)

  -- and a itself fits beside them in u
  own-load : (m : ℕ) → a < tasks tab u → time tab u m a + mode_weight tab u a u m ≤ load tab u a u m
  unfolding mode_weight load
  own-load m place =
      let urgent_time : ℕ → ℕ = λ j. when (urgent? tab u a u j) (time tab u m j) in
      let itself : weight tab u a u m a ≡ 0 = weight-none tab u a u m a (λ r. r.other (refl, refl)) in
      omega (
        arith,
        sum-beside (tasks tab u) {f = weight tab u a u m} {g = urgent_time} (λ j l. weight-load u m j) a place itself,
        when-yes (urgent? tab u a u a) (time tab u m a) (le_refl _),
      )

  counted-load : (i m : ℕ) → m < modes tab i → Counts tab u a i m → load tab u a i m ≤ most_load tab u a i
  unfolding most_load
  counted-load i m mode counts =
      omega (
        arith,
        when-yes (counts? tab u a i m) (load tab u a i m) counts,
        most-ge (modes tab i) (λ k. when (counts? tab u a i k) (load tab u a i k)) m mode,
      )

module _ {tab : Table} (kept : Kept tab) {i : ℕ} (h : i < transactions tab) where
  -- n periods later a candidate in a mode charges n times what its rivals weigh more
  charge-later : (u a m c t n : ℕ) → charge released tab u a i m c (t + n * period tab i) ≡ charge released tab u a i m c t + n * mode_weight tab u a i m
  unfolding rests rest_at rest_of whole_periods
  charge-later u a m c t n =
      let T = period tab i in
      let short = mod-lt t (kept-period kept h) in
      let now = charge-split kept true h (t / T) (t % T) short u a m c in
      let then = charge-split kept true h (t / T + n) (t % T) short u a m c in
      let here = ap (charge released tab u a i m c) (div-add-mod' t T) in
      let there = ap (charge released tab u a i m c) (split-later (kept-period kept h) t n) in
      omega (arith, now, then, here, there, add-mul (t / T) n (mode_weight tab u a i m))

  -- and another transaction at most n times its greatest load
  greatest-bends : (u a n : ℕ) → ¬ (i ≡ u) → Bends (n * period tab i) (n * most_load tab u a i) (greatest released tab u a i)
  unfolding greatest
  greatest-bends u a n other =
      bends-most (modes tab i)
      (λ m l. bends-most (tasks tab i)
      (λ c k. bends-when (rival? tab u a i m c)
      (bends-more (mul-le-mul_left n (le_trans (mode-load tab u a i m) (counted-load tab u a i m l (λ e. absurd (other e)))))
      (bends-plain (λ t. charge-later u a m c t n)))))

-- ---- all of them

module _ {tab : Table} (kept : Kept tab) {u a : ℕ} (is_task : IsTask tab u a) {m c : ℕ} (setting : Setting tab u a m c) where
  T-some : 0 < period tab u
  T-some = kept-period kept is_task.owner

  own-later : (t n : ℕ) → own released tab u a m c (last_job tab u a c (t + n * period tab u)) (t + n * period tab u) ≡ own released tab u a m c (last_job tab u a c t) t + n * (time tab u m a + mode_weight tab u a u m)
  unfolding rel phase_of
  own-later t n =
      let T = period tab u in
      let C = time tab u m a in
      let φ = phase_of tab u c a in
      let later = t + n * T in
      omega (
        arith,
        own-by released tab u a m c t T-some,
        own-by released tab u a m c later T-some,
        add-mul (held_of tab u c a) (ceil (t - φ) T) C,
        add-mul (held_of tab u c a) (ceil (later - φ) T) C,
        rel-later T-some C φ (phase-lt T-some _ _) t n,
        charge-later kept is_task.owner u a m c t n,
        mul-add n C (mode_weight tab u a u m),
      )

  -- q frames are so many periods of transaction i
  abbrev periods : (q i : ℕ) → ℕ
  periods q i = q * (tab.frame / period tab i)

  frames : (q i : ℕ) → i < transactions tab → q * tab.frame ≡ periods q i * period tab i
  unfolding period
  frames q i h =
      let whole : tab.frame / period tab i * period tab i ≡ tab.frame = omega (arith, div-add-mod' tab.frame (period tab i), (kept.each i h).divides) in
      ap (λ (x : ℕ). q * x) (sym whole) ∙ sym (mul_assoc q (tab.frame / period tab i) (period tab i))

  -- what transaction i demands more, q frames later
  abbrev more : (q i : ℕ) → ℕ
  more q i = periods q i * most_load tab u a i

  more-all : (q : ℕ) → sum (transactions tab) (more q) ≡ q * frame_demand tab u a
  unfolding frame_demand
  more-all q =
      let share : ℕ → ℕ = λ i. tab.frame / period tab i * most_load tab u a i in
      sum-ext (transactions tab) {f = more q} {g = λ i. share i * q} (λ i l. mul_assoc q (tab.frame / period tab i) (most_load tab u a i) ∙ mul_comm q (share i))
      ∙ sum-mul (transactions tab) share q
      ∙ mul_comm (sum (transactions tab) share) q

  others-bends : (q : ℕ) → Bends (q * tab.frame) (sum (transactions tab) (λ i. unless (ℕ_discrete i u) (more q i))) (others released tab u a)
  unfolding others
  others-bends q =
      bends-sum (transactions tab) (λ i l. bends-unless (ℕ_discrete i u) (λ n. rw (frames q i l) (greatest-bends kept l u a (periods q i) n)))

  own-bends : (q : ℕ) → Bends (q * tab.frame) (more q u) (λ t. own released tab u a m c (last_job tab u a c t) t)
  own-bends q =
      let l = is_task.owner in
      rw (frames q u l)
      (bends-more (mul-le-mul_left (periods q u) (le_trans (own-load tab u a m is_task.place) (counted-load tab u a u m setting.mode (λ e. setting.runs))))
      (bends-plain (λ t. own-later t (periods q u))))

  -- The busy demand of a task that is not overloaded
  pub busy-bends : ¬ (Overload tab u a) → (q : ℕ) → Bends (q * tab.frame) (q * tab.frame) (busy tab u a m c)
  unfolding busy demand
  busy-bends free q =
      let n = transactions tab in
      let left : ℕ → ℕ = λ i. unless (ℕ_discrete i u) (more q i) in
      let beside = sum-beside n {f = left} {g = more q} (λ i l. unless-le (ℕ_discrete i u) (more q i)) u is_task.owner (unless-yes (ℕ_discrete u u) (more q u) refl) in
      let all : q * frame_demand tab u a ≤ q * tab.frame = mul-le-mul_left q (omega arith) in
      bends-more (omega (arith, beside, more-all q, all))
      (bends-add (bends-add (bends-plain {r = 0} {f = λ t. blocking tab u a} (λ t. omega arith)) (own-bends q)) (others-bends q))

  -- So its L chain, once it has gone through a cycle of whole frames, goes through it again
  pub busy-rounds :
      ¬ (Overload tab u a)
      → (q : ℕ) {D : ℕ}
      → D ≡ q * tab.frame
      → {x n : ℕ}
      → Cycle (busy tab u a m c) D x n
      → (k j left : ℕ)
      → k * n ≤ left
      → x + (j + k) * D ≤ horizon
      → chain (busy tab u a m c) beyond? left (x + j * D) ≡ chain (busy tab u a m c) beyond? (left - k * n) (x + (j + k) * D)
  busy-rounds free q e = rounds-later (bends-steady (rw e (busy-bends free q))) beyond? (λ v l o. omega arith)
