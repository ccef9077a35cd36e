-- At a completion with imposed charges no rival is charged in part: going back by the part would lower the demand by at least as much,
-- and the completion is the least. So the first job's completion is one of the plain analysis.
use mathlib.Core.Path.{◌≡◌, ap, subst}
use mathlib.Core.Logic.{inl, inr}
use Prim.Native.Nat.{ℕ, ◌+◌, ◌*◌, ◌-◌, ◌≤◌, ◌<◌}
use native.Mathlib.Nat.{add-le-add, le_refl}
use native.Mathlib.Decide.{ℕ_discrete}
use native.Mathlib.Omega.{arith}
use Rattle.table.specs.Table.{Table, transactions, period, time}
use Rattle.table.specs.Kept.{Kept}
use Rattle.table.proofs.Sum.{sum-le}
use Rattle.table.proofs.Ranges.{kept-period}
use Rattle.periods.specs.Charge.{imposed, released}
use Rattle.periods.proofs.Charge.{imp, imposed-is, released-is}
use Rattle.analysis.specs.Choice.{when}
use Rattle.analysis.specs.Rival.{Urgent, urgent?}
use Rattle.analysis.specs.Charge.{phase_of, held_of, task_charge}
use Rattle.analysis.specs.Bound.{demand, Completion}
use Rattle.analysis.specs.Needed.{job}
use Rattle.analysis.proofs.Choice.{when-yes, when-mono, unless-no, unless-mono}
use Rattle.analysis.proofs.Charges.{imposed-fair, demand-grows}
use Rattle.analysis.proofs.Turn.{job-completes, job-completion, completion-below}
use Rattle.jitter.specs.Plain.{Single, workload, Completes, Completion as PlainCompletion}
use Rattle.jitter.proofs.Sums.{sum-aside}
use Rattle.jitter.proofs.Ceil.{Part, whole-or-part}
use Rattle.jitter.proofs.Alone.{rival_charge, is_task, runs-alone, demand-alone, demand-workload}

-- at t the task of transaction i is charged a job in part
abbrev InPart : Table → (i t : ℕ) → Type 0
InPart tab i t = Part (period tab i) (time tab i 0 0) (t - phase_of tab i 0 0)

module _ {tab : Table} (kept : Kept tab) (u : ℕ) {i : ℕ} (h : i < transactions tab) where
  charge-rises : {s t : ℕ} → s ≤ t → rival_charge imposed tab u s i ≤ rival_charge imposed tab u t i
  unfolding task_charge
  charge-rises l =
      let rises = (imposed-fair.rises l).by (period tab i) (time tab i 0 0) (phase_of tab i 0 0) (kept-period kept h) in
      unless-mono (ℕ_discrete i u) (λ n. when-mono (urgent? tab u 0 i 0) (λ g. add-le-add (le_refl _) rises))

  -- before the part of a job, a rival's charge is less by that part
  charge-falls : ¬ (i ≡ u) → Urgent tab u 0 i 0 → (t : ℕ) (p : InPart tab i t) → rival_charge imposed tab u (t - p.r) i + p.r ≡ rival_charge imposed tab u t i
  unfolding task_charge
  charge-falls other g t p =
      let T = period tab i in
      let C = time tab i 0 0 in
      let F = phase_of tab i 0 0 in
      let at : (s : ℕ) → rival_charge imposed tab u s i ≡ held_of tab i 0 0 * C + imp T C (s - F) = λ s.
      omega (
        arith,
        unless-no (ℕ_discrete i u) (when (urgent? tab u 0 i 0) (task_charge imposed tab i 0 0 s 0)) other,
        when-yes (urgent? tab u 0 i 0) (task_charge imposed tab i 0 0 s 0) g,
        imposed-is T C s F,
      ) in
      let back : t - p.r - F ≡ t - F - p.r = omega arith in
      omega (arith, at t, at (t - p.r), ap (imp T C) back, p.falls)

module _ {tab : Table} (kept : Kept tab) (single : Single tab) {u : ℕ} (owner : u < transactions tab) where
  module _ (N : ℕ) {w : ℕ} (done : Completion imposed tab u 0 0 0 (job tab u 0 0 N) w) where
    no_part : {i : ℕ} → i < transactions tab → ¬ (i ≡ u) → Urgent tab u 0 i 0 → ¬ (InPart tab i w)
    no_part {i} h other g p =
        let before : ℕ = w - p.r in
        let falls =
        sum-aside (transactions tab) {f = rival_charge imposed tab u before} {g = rival_charge imposed tab u w} i p.r 0 h
        (λ k l n. charge-rises kept u l (omega arith))
        (omega (arith, charge-falls kept u h other g w p)) in
        let meets : demand imposed tab u 0 0 0 (job tab u 0 0 N) before ≤ before = omega (arith, falls, done.has, demand-alone kept single owner imposed N w, demand-alone kept single owner imposed N before) in
        let sooner : w ≤ before = completion-below kept (is_task kept single owner) imposed-fair 0 0 (job tab u 0 0 N) done before meets in
        omega (arith, p.some, p.within)

    charge-whole : {i : ℕ} → i < transactions tab → ¬ (i ≡ u) → Urgent tab u 0 i 0 → task_charge released tab i 0 0 w 0 ≤ task_charge imposed tab i 0 0 w 0
    unfolding task_charge
    charge-whole {i} h other g =
        let T = period tab i in
        let C = time tab i 0 0 in
        let F = phase_of tab i 0 0 in
        elim (whole-or-part (kept-period kept h) C (w - F)) [
          | inl e ↦ omega (arith, e, imposed-is T C w F, released-is T C w F)
          | inr p ↦ absurd (no_part h other g p)
        ]

    -- So a completion with imposed charges meets the equation with released ones
    pub completion-whole : demand released tab u 0 0 0 (job tab u 0 0 N) w ≡ w
    completion-whole =
        let less =
        sum-le (transactions tab) {f = rival_charge released tab u w} {g = rival_charge imposed tab u w}
        (λ i h. unless-mono (ℕ_discrete i u) (λ n. when-mono (urgent? tab u 0 i 0) (λ g. charge-whole h n g))) in
        omega (
          arith,
          less,
          done.has,
          demand-alone kept single owner imposed N w,
          demand-alone kept single owner released N w,
          demand-grows kept (imposed-fair.within w) (is_task kept single owner) 0 0 (job tab u 0 0 N),
        )

  -- and that of the first job meets the plain one
  pub first-completes : {w : ℕ} → Completion imposed tab u 0 0 0 (job tab u 0 0 0) w → Completes tab u w
  unfolding workload
  first-completes {w} done =
      let meets : workload tab u w ≡ w = omega (arith, demand-workload kept single owner w, completion-whole 0 done) in
      (omega (arith, runs-alone kept single owner), meets)

  -- The plain completion is the first job's: its chain ends there at the latest, for no more is imposed than is released
  pub first-completion : {t : ℕ} → PlainCompletion tab u t → Completion imposed tab u 0 0 0 (job tab u 0 0 0) t
  first-completion {t} plain =
      let task = is_task kept single owner in
      let p = job tab u 0 0 0 in
      let meets : demand imposed tab u 0 0 0 p t ≤ t = omega (arith, demand-grows kept (imposed-fair.within t) task 0 0 p, demand-workload kept single owner t, plain.has.1) in
      let z = job-completes kept task imposed-fair 0 0 p t meets in
      let done = job-completion kept task imposed-fair 0 0 p z.chain in
      let same : z.w ≡ t = omega (arith, completion-below kept task imposed-fair 0 0 p done t meets, plain.least z.w (first-completes done)) in
      subst (Completion imposed tab u 0 0 0 p) same done
