-- Links from the last to the first: what is the next setting, or the next other transaction, from one on, where it is
-- known from the one behind it.
use mathlib.Core.Path.{◌≡◌, sym, ap, ◌∙◌}
use Prim.Native.Nat.{ℕ, ◌+◌, ◌*◌, ◌≤◌, ◌<◌}
use native.Mathlib.Decide.{ℕ_discrete}
use native.Mathlib.Omega.{arith}
use Rattle.table.specs.Table.{Table, IsTask, transactions, modes}
use Rattle.table.specs.Limits.{modes_most}
use Rattle.table.specs.Number.{in_all, number}
use Rattle.table.specs.Kept.{Kept}
use Rattle.table.proofs.Number.{number_lt, number-unique}
use Rattle.table.proofs.Ranges.{modes-few}
use Rattle.charge.specs.Weight.{weight}
use Rattle.charge.specs.Links.{setting_number, Spare, NextSetting, Idle, NextOther}

-- ---- settings

-- no two settings have the same number
setting-unique :
    (tab : Table) {i m c j n d : ℕ}
    → IsTask tab i c
    → IsTask tab j d
    → m < modes_most
    → n < modes_most
    → setting_number tab i m c ≡ setting_number tab j n d
    → (i ≡ j) × ((m ≡ n) × (c ≡ d))
unfolding setting_number
setting-unique tab {i} {m} {c} {j} {n} {d} is are l k e =
    let (p, q) = number-unique tab is are (omega arith) in
    (p, (omega arith, q))

module _ {tab : Table} (kept : Kept tab) (u a : ℕ) where
  pub setting-le : {i m c : ℕ} → IsTask tab i c → m ≤ modes tab i → setting_number tab i m c ≤ modes_most * in_all tab
  unfolding setting_number
  setting-le is l = omega (arith, number_lt tab is, modes-few kept is.owner)

  -- none is behind the last
  pub setting-end : NextSetting tab u a (modes_most * in_all tab) (modes_most * in_all tab)
  unfolding setting_number
  setting-end =
      record {
        from = omega arith;
        within = omega arith;
        charged = λ i m c is l e. absurd (omega (arith, number_lt tab is));
        spare = λ i m c is mode above below. absurd (omega arith);
      }

  module _ {i c k : ℕ} (is : IsTask tab i c) (numbered : number tab i c ≡ k) where
    setting-is : (m : ℕ) → setting_number tab i m c ≡ modes_most * k + m
    unfolding setting_number
    setting-is m = ap (λ (n : ℕ). modes_most * n + m) numbered

    -- those behind the last mode of task number k are of the tasks behind it
    pub setting-behind : {v : ℕ} → NextSetting tab u a (modes_most * (k + 1)) v → NextSetting tab u a (modes_most * k + modes tab i) v
    unfolding setting_number
    setting-behind x =
        let few = modes-few kept is.owner in
        record {
          from = omega (arith, x.from);
          within = x.within;
          charged = x.charged;
          spare = λ j m d are mode above below.
              let small = modes-few kept are.owner in
              elim (ℕ_discrete (number tab j d) k) [
                | yes e ↦ absurd (omega (arith, ap (modes tab) (number-unique tab are is (e ∙ sym numbered)).0))
                | no h ↦ x.spare j m d are mode (omega arith) below
              ];
        }

    -- one that is charged is the next from itself on
    pub setting-charged : {m : ℕ} → m < modes tab i → ¬ (weight tab u a i m c ≡ 0) → NextSetting tab u a (modes_most * k + m) (modes_most * k + m)
    setting-charged {m} mode weighs =
        let few = modes-few kept is.owner in
        record {
          from = omega arith;
          within = omega (arith, setting-is m, setting-le {m = m} is (omega arith));
          charged = λ j n d are l e.
              let (p, (q, r)) = setting-unique tab is are (omega arith) l (setting-is m ∙ e) in
              rw (← p, ← q, ← r) (record { mode = mode; weighs = weighs });
          spare = λ j n d are there above below. absurd (omega arith);
        }

    -- a spare one is passed over
    pub setting-spare : {m v : ℕ} → m < modes tab i → Spare tab u a i m c → NextSetting tab u a (modes_most * k + (m + 1)) v → NextSetting tab u a (modes_most * k + m) v
    setting-spare {m} mode spare x =
        let few = modes-few kept is.owner in
        record {
          from = omega (arith, x.from);
          within = x.within;
          charged = x.charged;
          spare = λ j n d are there above below.
              let small = modes-few kept are.owner in
              elim (ℕ_discrete (setting_number tab j n d) (setting_number tab i m c)) [
                | yes e ↦
                    let (p, (q, r)) = setting-unique tab are is (omega arith) (omega arith) e in
                    rw (p, q, r) spare
                | no h ↦ x.spare j n d are there (omega (arith, setting-is m)) below
              ];
        }

-- ---- other transactions

module _ {tab : Table} {u a : ℕ} where
  pub other-end : IsTask tab u a → NextOther tab u a (transactions tab) (transactions tab)
  other-end is =
      record { from = omega arith; within = omega arith; other = λ e. omega (arith, is.owner); idle = λ j l h. absurd (omega arith) }

  pub other-self : {i : ℕ} → i < transactions tab → ¬ (i ≡ u) → NextOther tab u a i i
  other-self h other =
      record { from = omega arith; within = omega arith; other = other; idle = λ j l h. absurd (omega arith) }

  pub other-idle : {i v : ℕ} → Idle tab u a i → NextOther tab u a (i + 1) v → NextOther tab u a i v
  other-idle {i} none x =
      record {
        from = omega (arith, x.from);
        within = x.within;
        other = x.other;
        idle = λ j l h.
            elim (ℕ_discrete j i) [
              | yes e ↦ rw e none
              | no d ↦ x.idle j (omega arith) h
            ];
      }
