-- The settings that are charged make the greatest charge of a transaction: a spare setting charges nothing, or no more
-- than that of a later mode. So do the linked transactions make the sum: an idle one charges nothing.
use mathlib.Core.Path.{◌≡◌, refl, ap, sym, ◌∙◌}
use mathlib.Core.Logic.{◌⊎◌, inl, inr}
use mathlib.Core.Bool.{Bool}
use Prim.Native.Nat.{ℕ, zero, suc, ◌+◌, ◌*◌, ◌-◌, ◌/◌, ◌%◌, ◌^◌, ◌≤◌, ◌<◌, max}
use native.Mathlib.Nat.{le_refl, le_trans, le_antisymm, mul-le-mul, le-max_left, le-max_right, mod-lt, div-add-mod'}
use native.Mathlib.Decide.{dec_lt, ℕ_discrete}
use native.Mathlib.Omega.{arith}
use Rattle.table.specs.Sum.{sum}
use Rattle.table.specs.Limits.{horizon, modes_most, tasks_in_all}
use Rattle.table.specs.Table.{Table, IsTask, transactions, period, modes, tasks}
use Rattle.table.specs.Number.{before, number, in_all}
use Rattle.table.specs.Kept.{Kept}
use Rattle.table.proofs.Sum.{sum-le, sum-zero, sum-split, sum-next}
use Rattle.table.proofs.Number.{before-suc, before-grow}
use Rattle.table.proofs.Ranges.{kept-period, modes-few}
use Rattle.analysis.specs.Choice.{unless, most}
use Rattle.analysis.specs.Rival.{rival?}
use Rattle.analysis.specs.Charge.{phase_of, held_of, charge, greatest}
use Rattle.analysis.proofs.Choice.{when-le, unless-no, most-ge, most-le, unless-le}
use Rattle.charge.specs.Later.{later_of}
use Rattle.charge.specs.Split.{whole_periods, rest_at, rests}
use Rattle.charge.specs.Weight.{weight, mode_weight, held_back}
use Rattle.charge.specs.Links.{setting_number, Below, Spare, none, dropped, Charged, NextSetting, Idle, own, weightless as idle, NextOther}
use Rattle.charge.proofs.Ranges.{candidate_charge, other_charge, others-room}
use Rattle.charge.proofs.Weights.{weightless, weighty, greatest-weightless}
use Rattle.charge.proofs.Split.{rest-mono, charge-split}

-- ---- the setting of a number

-- candidate c in mode m of transaction i is setting z
pub record SettingAt (tab : Table) (i z m c : ℕ) : Type 0 where
  pub is_task : IsTask tab i c
  pub few : m < modes_most
  pub numbered : z ≡ setting_number tab i m c

module _ {tab : Table} {i : ℕ} (owner : i < transactions tab) where
  pub setting-at :
      {z : ℕ}
      → modes_most * before tab i ≤ z
      → z < modes_most * (before tab i + tasks tab i)
      → SettingAt tab i z (z % modes_most) (z / modes_most - before tab i)
  unfolding setting_number number
  setting-at from below =
      record { is_task = record { owner = owner; place = omega arith }; few = omega arith; numbered = omega arith }

  pub end-le : Kept tab → before tab i + tasks tab i ≤ tasks_in_all
  unfolding in_all
  end-le kept = omega (arith, before-suc tab i, before-grow tab owner, kept.few_tasks)

-- ---- spare settings

-- setting (m, c) is spare, or charges at most best
abbrev pub Met : Bool → Table → (u a i t best m c : ℕ) → Type 0
Met whole tab u a i t best m c = Spare tab u a i m c ⊎ (charge (later_of whole) tab u a i m c t ≤ best)

module _ {tab : Table} (kept : Kept tab) (whole : Bool) {i : ℕ} (owner : i < transactions tab) (t u a : ℕ) where
  -- what setting (m, c) charges
  abbrev charged : (m c : ℕ) → ℕ
  charged m c = charge (later_of whole) tab u a i m c t

  abbrev candidate : (m c : ℕ) → ℕ
  candidate m c = candidate_charge whole tab u a i m t c

  -- t split by the period
  periods : ℕ
  periods = t / period tab i

  rest : ℕ
  rest = t % period tab i

  charged-split : (m c : ℕ) → charged m c ≡ held_back tab u a i m c + whole_periods whole periods * mode_weight tab u a i m + rests whole tab u a i m c periods rest
  unfolding periods rest
  charged-split m c =
      ap (charge (later_of whole) tab u a i m c) (sym (div-add-mod' t (period tab i)))
      ∙ charge-split kept whole owner periods rest (mod-lt t (kept-period kept owner)) u a m c

  -- lesser weights charge less
  charge-below : {m n : ℕ} → Below tab u a i m n → (c : ℕ) → charged m c ≤ charged n c
  unfolding held_back mode_weight rests rest_at
  charge-below {m} {n} below c =
      let held : held_back tab u a i m c ≤ held_back tab u a i n c = sum-le (tasks tab i) (λ j l. mul-le-mul (le_refl (held_of tab i c j)) (below.each j l)) in
      let all : mode_weight tab u a i m ≤ mode_weight tab u a i n = sum-le (tasks tab i) below.each in
      let part : rests whole tab u a i m c periods rest ≤ rests whole tab u a i n c periods rest = sum-le (tasks tab i) (λ j l. rest-mono whole periods (period tab i) rest (phase_of tab i c j) (below.each j l)) in
      omega (
        arith,
        held,
        mul-le-mul (le_refl (whole_periods whole periods)) all,
        part,
        charged-split m c,
        charged-split n c,
      )

  candidate-below : {m n c : ℕ} → c < tasks tab i → Below tab u a i m n → candidate m c ≤ candidate n c
  candidate-below {m} {n} {c} l below =
      elim (ℕ_discrete (weight tab u a i m c) 0) [
        | yes e ↦ omega (arith, weightless tab u a i m c e (charged m c))
        | no h ↦
            let some : ¬ (weight tab u a i n c ≡ 0) = λ e. h (omega (arith, below.each c l)) in
            omega (arith, when-le (rival? tab u a i m c) (charged m c), charge-below below c, weighty tab u a i n c some (charged n c))
      ]

  -- a setting that is charged is one of those that the greatest is of
  charged-le : {m c : ℕ} → c < tasks tab i → Charged tab u a i m c → charged m c ≤ greatest (later_of whole) tab u a i t
  unfolding greatest
  charged-le {m} {c} l row =
      let in_mode = most-ge (tasks tab i) (candidate m) c l in
      let in_all = most-ge (modes tab i) (λ m. most (tasks tab i) (candidate m)) m row.mode in
      omega (arith, in_mode, in_all, weighty tab u a i m c row.weighs (charged m c))

  module _ {best : ℕ} (met : (m c : ℕ) → IsTask tab i c → m < modes tab i → Met whole tab u a i t best m c) where
    -- by the later modes, of which there are at most k
    candidate-met : (k m c : ℕ) → c < tasks tab i → m < modes tab i → modes tab i ≤ m + k → candidate m c ≤ best
    candidate-met zero m c l mode few = omega arith
    candidate-met (suc k) m c l mode few =
        elim (met m c (record { owner = owner; place = l }) mode) [
          | inl (none e) ↦ omega (arith, weightless tab u a i m c e (charged m c))
          | inl (dropped d) ↦
              le_trans (candidate-below l d.below) (candidate-met k d.by c l d.mode (omega (arith, d.later)))
          | inr h ↦ le_trans (when-le (rival? tab u a i m c) (charged m c)) h
        ]

    greatest-met : greatest (later_of whole) tab u a i t ≤ best
    unfolding greatest
    greatest-met =
        most-le (modes tab i) (λ m mode. most-le (tasks tab i) (λ c l. candidate-met (modes tab i) m c l mode (omega arith)))

-- ---- along the links

-- best is of the settings before z, and z is charged where it is a setting of transaction i
pub record Along (whole : Bool) (tab : Table) (u a i t best z : ℕ) : Type 0 where
  pub from : modes_most * before tab i ≤ z
  pub charged : (m c : ℕ) → SettingAt tab i z m c → Charged tab u a i m c
  pub most : best ≤ greatest (later_of whole) tab u a i t
  pub met : (m c : ℕ) → IsTask tab i c → m < modes tab i → setting_number tab i m c < z → Met whole tab u a i t best m c

module _ {tab : Table} (kept : Kept tab) (whole : Bool) {i : ℕ} (owner : i < transactions tab) (t : ℕ) {u a : ℕ} where
  pub along-first : {v : ℕ} → NextSetting tab u a (modes_most * before tab i) v → Along whole tab u a i t 0 v
  unfolding setting_number number
  along-first next =
      record {
        from = next.from;
        charged = λ m c at. next.charged i m c at.is_task at.few at.numbered;
        most = omega arith;
        met = λ m c is mode l. inl (next.spare i m c is mode (omega arith) l);
      }

  pub along-next :
      {best z v m c : ℕ}
      → Along whole tab u a i t best z
      → SettingAt tab i z m c
      → NextSetting tab u a (z + 1) v
      → Along whole tab u a i t (max best (charge (later_of whole) tab u a i m c t)) v
  unfolding setting_number number
  along-next {best} {z} {v} {m} {c} along at next =
      let this = charge (later_of whole) tab u a i m c t in
      record {
        from = omega (arith, along.from, next.from);
        charged = λ n d at. next.charged i n d at.is_task at.few at.numbered;
        most = omega (arith, along.most, charged-le kept whole owner t u a at.is_task.place (along.charged m c at));
        met = λ n d is mode l. elim (dec_lt (setting_number tab i n d) z) [
          | yes k ↦
              elim (along.met n d is mode k) [
                | inl spare ↦ inl spare
                | inr h ↦ inr (le_trans h (le-max_left best this))
              ]
          | no k ↦
              elim (dec_lt z (setting_number tab i n d)) [
                | yes g ↦ inl (next.spare i n d is mode (omega arith) l)
                | no g ↦
                    let few = modes-few kept (owner) in
                    let p : n ≡ m = omega (arith, at.numbered, at.few, few) in
                    let q : d ≡ c = omega (arith, at.numbered, at.few, few) in
                    inr (rw (p, q) (le-max_right best this))
              ]
        ];
      }

  pub along-last : {best z : ℕ} → Along whole tab u a i t best z → modes_most * (before tab i + tasks tab i) ≤ z → best ≡ greatest (later_of whole) tab u a i t
  unfolding setting_number number
  along-last along end =
      le_antisymm along.most
      (greatest-met kept whole owner t u a (λ m c is mode. along.met m c is mode (omega (arith, is.place, modes-few kept (owner)))))

-- ---- the other transactions

unless-own : {A : Type 0} (d : Dec A) (x : ℕ) → A → unless d x ≡ 0
unfolding unless
unless-own (yes a) x h = refl
unless-own (no f) x h = absurd (f h)

idle-charge : (whole : Bool) {tab : Table} {u a i : ℕ} (t : ℕ) → Idle tab u a i → other_charge whole tab u a t i ≡ 0
idle-charge whole {u} {i} t (own e) = unless-own (ℕ_discrete i u) _ e
idle-charge whole {tab} {u} {a} {i} t (idle e) =
    omega (arith, unless-le (ℕ_discrete i u) (greatest (later_of whole) tab u a i t), greatest-weightless (later_of whole) tab u a i t e)

-- total is of the transactions before i, and i is another one than u
pub record Others (whole : Bool) (tab : Table) (u a t total i : ℕ) : Type 0 where
  pub within : i ≤ transactions tab
  pub other : ¬ (i ≡ u)
  pub sum : total ≡ sum i (other_charge whole tab u a t)

module _ (whole : Bool) {tab : Table} {u a : ℕ} (t : ℕ) where
  -- those up to the next one add nothing
  others-idle : {i v : ℕ} → NextOther tab u a i v → sum v (other_charge whole tab u a t) ≡ sum i (other_charge whole tab u a t)
  others-idle {i} {v} next =
      let f = other_charge whole tab u a t in
      let e : i + (v - i) ≡ v = omega (arith, next.from) in
      let rest : sum (v - i) (λ j. f (i + j)) ≡ 0 = sum-zero (v - i) (λ j l. idle-charge whole t (next.idle (i + j) (omega arith) (omega arith))) in
      omega (arith, ap (λ (n : ℕ). sum n f) e, sum-split i (v - i) f, rest)

  pub others-first : {v : ℕ} → NextOther tab u a 0 v → Others whole tab u a t 0 v
  unfolding sum
  others-first next = record { within = next.within; other = next.other; sum = sym (others-idle next) }

  module _ {total i : ℕ} (others : Others whole tab u a t total i) where
    added : total + greatest (later_of whole) tab u a i t ≡ sum i (other_charge whole tab u a t) + other_charge whole tab u a t i
    added =
        omega (arith, others.sum, unless-no (ℕ_discrete i u) (greatest (later_of whole) tab u a i t) others.other)

    pub others-few : Kept tab → t ≤ horizon → i < transactions tab → total + greatest (later_of whole) tab u a i t < 2 ^ 60
    others-few kept short h = omega (arith, added, others-room kept whole short u a i h)

    pub others-next : {v : ℕ} → NextOther tab u a (i + 1) v → Others whole tab u a t (total + greatest (later_of whole) tab u a i t) v
    others-next next =
        record {
          within = next.within;
          other = next.other;
          sum = omega (arith, added, sum-next i (other_charge whole tab u a t), others-idle next);
        }
