-- The workload never falls and is at least 1. So 1 is a sound start, and with a start its workload; a sound start that comes back is the
-- completion; and where a start is beyond the horizon there is none.
use mathlib.Core.Path.{◌≡◌}
use Prim.Native.Nat.{ℕ, ◌≤◌, ◌<◌}
use native.Mathlib.Nat.{le_refl, le_trans, le_of_eq, mul-le-mul_right}
use native.Mathlib.Decide.{dec_lt, ℕ_discrete}
use native.Mathlib.Omega.{arith}
use Rattle.table.specs.Limits.{horizon}
use Rattle.table.specs.Table.{Table, transactions, time}
use Rattle.table.specs.Kept.{Kept}
use Rattle.table.proofs.Sum.{sum-le}
use Rattle.table.proofs.Ranges.{kept-period}
use Rattle.periods.proofs.Charge.{ceil-mono}
use Rattle.analysis.specs.Rival.{urgent?}
use Rattle.analysis.specs.Chain.{Chain, came}
use Rattle.analysis.specs.Needed.{Beyond}
use Rattle.analysis.proofs.Choice.{when-mono, unless-mono}
use Rattle.analysis.proofs.Chain.{came-fixed, came-least, comes}
use Rattle.jitter.specs.Request.{request}
use Rattle.jitter.specs.Plain.{Single, request_of, rival_request, workload, Completion, Never}
use Rattle.jitter.specs.Start.{Sound}
use Rattle.jitter.proofs.Alone.{runs-alone}

module _ {tab : Table} (kept : Kept tab) where
  pub request-rises : {i s t : ℕ} → i < transactions tab → s ≤ t → request_of tab i s ≤ request_of tab i t
  unfolding request_of request
  request-rises {i} h l = mul-le-mul_right (time tab i 0 0) (ceil-mono (kept-period kept h) (omega arith))

  pub rival-rises : (u : ℕ) {i s t : ℕ} → i < transactions tab → s ≤ t → rival_request tab u s i ≤ rival_request tab u t i
  unfolding rival_request
  rival-rises u {i} h l =
      unless-mono (ℕ_discrete i u) (λ n. when-mono (urgent? tab u 0 i 0) (λ r. request-rises h l))

  pub workload-rises : (u : ℕ) {s t : ℕ} → s ≤ t → workload tab u s ≤ workload tab u t
  unfolding workload
  workload-rises u {s} {t} l =
      omega (arith, sum-le (transactions tab) {f = rival_request tab u s} {g = rival_request tab u t} (λ i h. rival-rises u h l))

module _ {tab : Table} (kept : Kept tab) (single : Single tab) where
  module _ {u : ℕ} (owner : u < transactions tab) where
    pub workload-some : (t : ℕ) → 1 ≤ workload tab u t
    unfolding workload
    workload-some t = omega (arith, runs-alone kept single owner)

    -- ---- starts

    pub sound-one : Sound tab u 1
    sound-one = record { some = le_refl 1; below = λ s c. c.0 }

    pub sound-next : {x : ℕ} → Sound tab u x → Sound tab u (workload tab u x)
    sound-next {x} z =
        record {
          some = workload-some x;
          below = λ s c. le_trans (workload-rises kept u (z.below s c)) (le_of_eq c.1);
        }

    -- a start is not above its workload: else there would be a completion below it
    pub sound-rises : {x : ℕ} → Sound tab u x → x ≤ workload tab u x
    sound-rises {x} z =
        elim (dec_lt (workload tab u x) x) [
          | no l ↦ omega arith
          | yes l ↦
              let (n, w, chain, least) = comes {f = workload tab u} {x = 1} {H = x} (λ s t h k. workload-rises kept u k) (workload-some 1) z.some x z.some (le_refl x) (omega arith) in
              let fixed : workload tab u w ≡ w = came-fixed chain in
              let below : w ≤ workload tab u x = least.least (workload tab u x) (workload-some x, workload-rises kept u (omega arith)) in
              absurd (omega (arith, z.below w (least.has.0, fixed)))
        ]

    pub sound-completion : {x : ℕ} → Sound tab u x → workload tab u x ≡ x → Completion tab u x
    sound-completion z e = record { has = (z.some, e); least = z.below }

    pub sound-beyond : {x : ℕ} → Sound tab u x → horizon < x → Never tab u
    sound-beyond z l t within c = omega (arith, z.below t c)

    -- So a chain of the workload from 1 comes back at the completion
    pub chain-completion : {n t : ℕ} → Chain (workload tab u) Beyond 1 n (came t) → Completion tab u t
    chain-completion {n} {t} chain =
        let least = came-least (λ s z h k. workload-rises kept u k) (workload-some 1) chain in
        record {
          has = (least.has.0, came-fixed chain);
          least = λ s c. least.least s (c.0, le_of_eq c.1);
        }
