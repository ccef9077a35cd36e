-- A task that completes within its period is not overloaded: by its completion t each task requests its load's share of t at least, and
-- all requests together are t.
use mathlib.Core.Path.{◌≡◌, sym, ap, ◌∙◌}
use Prim.Native.Nat.{ℕ, ◌+◌, ◌*◌, ◌/◌, ◌≤◌, ◌<◌}
use native.Mathlib.Nat.{mul-add, mul_comm, mul_assoc, mul-le-mul, mul-le-mul_left, le_of_mul-le-mul_right}
use native.Mathlib.Decide.{ℕ_discrete}
use native.Mathlib.Omega.{arith}
use Rattle.table.specs.Sum.{sum}
use Rattle.table.specs.Table.{Table, transactions, period, jitter, time}
use Rattle.table.specs.Kept.{Kept}
use Rattle.table.proofs.Sum.{sum-mul}
use Rattle.analysis.specs.Choice.{when}
use Rattle.analysis.specs.Rival.{urgent?}
use Rattle.analysis.specs.Overload.{Overload, most_load, frame_demand}
use Rattle.analysis.proofs.Choice.{when-le, unless-no}
use Rattle.jitter.specs.Plain.{Single, Completes, rival_request, workload}
use Rattle.jitter.specs.Start.{rival_load}
use Rattle.jitter.proofs.Sums.{sum-aside}
use Rattle.jitter.proofs.Alone.{load-alone, whole-frame}
use Rattle.jitter.proofs.Line.{load-under}

-- what is chosen may be multiplied first
when-times : {A : Type 0} (d : Dec A) (n x : ℕ) → n * when d x ≡ when d (n * x)
unfolding when
when-times (yes a) n x = omega arith
when-times (no h) n x = omega arith

module _ {tab : Table} (kept : Kept tab) (single : Single tab) {u : ℕ} (owner : u < transactions tab) where
  -- what transaction i demands in one frame
  abbrev frame_share : ℕ → ℕ
  frame_share i = tab.frame / period tab i * most_load tab u 0 i

  -- another task, by its load
  share-rival : {i : ℕ} → i < transactions tab → ¬ (i ≡ u) → (t : ℕ) → frame_share i * t ≤ rival_request tab u t i * tab.frame
  unfolding rival_load
  share-rival {i} h other t =
      let n : ℕ = tab.frame / period tab i in
      let C : ℕ = time tab i 0 0 in
      let share : frame_share i ≤ n * when (urgent? tab u 0 i 0) C = mul-le-mul_left n (load-alone kept single u h) in
      let is : rival_load tab u i ≡ n * when (urgent? tab u 0 i 0) C = unless-no (ℕ_discrete i u) (when (urgent? tab u 0 i 0) (n * C)) other ∙ sym (when-times (urgent? tab u 0 i 0) n C) in
      let less : frame_share i * t ≤ rival_load tab u i * (t + jitter tab i 0) = mul-le-mul (omega arith) (omega arith) in
      omega (
        arith,
        less,
        load-under kept u h t,
        mul_comm (rival_load tab u i) (t + jitter tab i 0),
        mul_comm tab.frame (rival_request tab u t i),
      )

  -- the task itself, by its one job
  share-own : {t : ℕ} → t ≤ period tab u → frame_share u * t ≤ time tab u 0 0 * tab.frame
  share-own {t} within =
      let n : ℕ = tab.frame / period tab u in
      let C : ℕ = time tab u 0 0 in
      let load : most_load tab u 0 u ≤ C = omega (arith, load-alone kept single u owner, when-le (urgent? tab u 0 u 0) C) in
      let less : frame_share u * t ≤ n * C * period tab u = mul-le-mul (mul-le-mul_left n load) within in
      let move : n * C * period tab u ≡ C * tab.frame =
      ap (λ (x : ℕ). x * period tab u) (mul_comm n C)
      ∙ mul_assoc C n (period tab u)
      ∙ ap (λ (x : ℕ). C * x) (whole-frame kept owner) in
      omega arith

  pub not-overloaded : {t : ℕ} → Completes tab u t → t ≤ period tab u → ¬ (Overload tab u 0)
  unfolding frame_demand workload
  not-overloaded {t} done within over =
      let M : ℕ = tab.frame in
      let C : ℕ = time tab u 0 0 in
      let n : ℕ = transactions tab in
      let requests : ℕ = sum n (rival_request tab u t) in
      let all =
      sum-aside n {f = λ i. frame_share i * t} {g = λ i. rival_request tab u t i * M} u 0 (C * M) owner
      (λ i h other. share-rival h other t)
      (omega (arith, share-own within)) in
      let within-t : M * (requests + C) ≤ M * t = mul-le-mul_left M (omega (arith, done.1)) in
      let fits : frame_demand tab u 0 * t ≤ M * t =
      omega (
        arith,
        all,
        within-t,
        sum-mul n frame_share t,
        sum-mul n (rival_request tab u t) M,
        mul-add M requests C,
        mul_comm M requests,
        mul_comm M C,
      ) in
      omega (arith, over, le_of_mul-le-mul_right {k = t} fits done.0)
