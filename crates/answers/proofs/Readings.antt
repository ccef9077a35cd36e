-- What is read from the work cells behind the table's row: which cell it stands in, and how large it is.
use mathlib.Core.Path.{◌≡◌, ap, ◌∙◌, subst}
use mathlib.Core.Bool.{Bool, true, false}
use mathlib.Core.List.{List}
use Prim.Native.Nat.{ℕ, ◌+◌, ◌*◌, ◌-◌, ◌/◌, ◌%◌, ◌^◌, ◌≤◌, ◌<◌}
use native.Mathlib.Nat.{add-zero, add-mul, le_trans, mul-le-mul, mul-le-mul_right, le-mul_of_pos_right}
use native.Mathlib.Omega.{arith}
use lib.ListN.{get_or}
use Rattle.row.specs.Row.{table_of}
use Rattle.table.specs.Sum.{sum}
use Rattle.table.specs.Limits.{modes_most, tasks_most, tasks_in_all}
use Rattle.table.specs.Table.{Table, IsTask, period, modes, tasks}
use Rattle.table.specs.Number.{before, number}
use Rattle.table.specs.Kept.{Kept}
use Rattle.table.proofs.Sum.{sum-ext}
use Rattle.table.proofs.Number.{number_lt}
use Rattle.table.proofs.Sum.{sum_room, sum-term}
use Rattle.table.proofs.Ranges.{kept-period, modes-few, period-lt, tasks-few}
use Rattle.periods.proofs.Phase.{phase-lt}
use Rattle.analysis.specs.Choice.{when}
use Rattle.analysis.specs.Rival.{rival?}
use Rattle.analysis.specs.Charge.{phase_of, held_of, task_charge, charge}
use Rattle.answers.specs.declared.charges.Subject.{Subject}
use Rattle.answers.specs.declared.charges.Split.{Split}
use Rattle.charge.specs.Later.{later_of}
use Rattle.charge.specs.Split.{whole_periods, rest_of, rest_at, rests, charge_cap}
use Rattle.charge.specs.Weight.{weight, mode_weight, held_back}
use Rattle.charge.specs.Links.{setting_number, NextSetting}
use Rattle.charge.proofs.Weights.{weight-lt, mode-weight-le, held-back-le}
use Rattle.charge.proofs.Split.{rest_le, rival-split, charge-split, charge-capped}
use Rattle.charge.proofs.Along.{SettingAt, setting-at}
use Rattle.answers.specs.Split.{moment, InWork, IsSplit, IsSetting}
use Rattle.answers.specs.Work.{phases_cell, weights_cell, sums_cell, settings_cell, Lent, IsSubject}

-- ---- ranges

module _ {tab : Table} (kept : Kept tab) {i : ℕ} {x : Split} (split : IsSplit tab i x) where
  -- a period is a tick at least
  pub periods-lt : x.periods < 2 ^ 32
  unfolding moment
  periods-lt =
      let some : 0 < x.period = omega (arith, split.period, kept-period kept split.owner) in
      omega (arith, split.within, le-mul_of_pos_right x.periods some)

  pub phase-of-below : (c j : ℕ) → phase_of tab i c j < x.period
  unfolding phase_of
  phase-of-below c j = rw split.period (phase-lt (kept-period kept split.owner) _ _)

  module _ {m : ℕ} (mode : m < modes tab i) (u a : ℕ) where
    -- one period more than the whole ones
    pub passed-le : (x.periods + 1) * mode_weight tab u a i m ≤ 2 ^ 60
    passed-le =
        mul-le-mul {n₂ = 2 ^ 32} {m₂ = tasks_most * 2 ^ 24} (omega (arith, periods-lt)) (mode-weight-le kept u a split.owner mode)

    pub whole_le : (whole : Bool) → whole_periods whole x.periods * mode_weight tab u a i m ≤ 2 ^ 60
    unfolding whole_periods
    whole_le true = le_trans (mul-le-mul_right {m = x.periods} {n = x.periods + 1} _ (omega arith)) passed-le
    whole_le false = le_trans (mul-le-mul_right {m = x.periods - 1} {n = x.periods + 1} _ (omega arith)) passed-le

  -- what is charged at the t that is split
  module _ (whole : Bool) (u a m c : ℕ) where
    pub charge-at :
        charge (later_of whole) tab u a i m c (moment x)
        ≡ held_back tab u a i m c + whole_periods whole x.periods * mode_weight tab u a i m + rests whole tab u a i m c x.periods x.rest
    unfolding moment
    charge-at =
        rw split.period
        (charge-split kept whole split.owner x.periods x.rest (omega (arith, split.below, split.period)) u a m c)

    pub charge-at-most : charge (later_of whole) tab u a i m c (moment x) ≤ charge_cap tab u a i m c x.periods
    unfolding moment
    charge-at-most =
        rw split.period
        (charge-capped kept whole split.owner x.periods x.rest (omega (arith, split.below, split.period)) u a m c)

    -- by one task: what is held back, the whole periods, and the rest
    pub rival-at :
        (j : ℕ)
        → (held_of tab i c j + whole_periods whole x.periods) * weight tab u a i m j
        + rest_of whole x.periods x.period x.rest (phase_of tab i c j) (weight tab u a i m j)
        ≡ when (rival? tab u a i m j) (task_charge (later_of whole) tab i m c (moment x) j)
    unfolding moment rest_at
    rival-at j =
        rw split.period
        (omega (
          arith,
          rival-split kept whole split.owner x.periods x.rest (omega (arith, split.below, split.period)) u a m c j,
          add-mul (held_of tab i c j) (whole_periods whole x.periods) (weight tab u a i m j),
        ))

    -- which is far below 2 ^ 64
    pub charge-fits : m < modes tab i → charge (later_of whole) tab u a i m c (moment x) < 2 ^ 61
    unfolding charge_cap
    charge-fits mode = omega (arith, charge-at-most, held-back-le kept u a split.owner mode c, passed-le mode u a)

    pub rival-fits : m < modes tab i → (j : ℕ) → j < tasks tab i → when (rival? tab u a i m j) (task_charge (later_of whole) tab i m c (moment x) j) < 2 ^ 61
    unfolding charge
    rival-fits mode j l =
        omega (arith, sum-term (tasks tab i) (λ j. when (rival? tab u a i m j) (task_charge (later_of whole) tab i m c (moment x) j)) j l, charge-fits mode)

-- ---- cells

-- what lent cells are of is kept
pub kept-of : {work : List ℕ} {tab : Table} → Lent work → table_of work ≡ tab → Kept tab
kept-of lent e = subst Kept e lent.table.kept

-- the rest of task j by its cells
abbrev pub rest_cell : List ℕ → Bool → Split → (phases weights j : ℕ) → ℕ
rest_cell work whole x phases weights j =
    rest_of whole x.periods x.period x.rest (get_or work (phases + j) 0) (get_or work (weights + j) 0)

-- what `rest_of` requires of a phase and a weight that are read
pub record RestNeeds (x : Split) (phase weight : ℕ) : Type 0 where
  pub period : x.period < 2 ^ 24
  pub rest : x.rest < x.period
  pub passed : phase < x.period
  pub light : weight < 2 ^ 24

module _ {work : List ℕ} (lent : Lent work) {i : ℕ} {x : Split} (split : IsSplit (table_of work) i x) where
  pub place-lt : {j : ℕ} → IsTask (table_of work) i j → x.first + j < tasks_in_all
  unfolding number
  place-lt {j} t = omega (arith, split.first, number_lt (table_of work) t, lent.table.kept.few_tasks)

  pub in-work : {m c : ℕ} → IsTask (table_of work) i c → m < modes (table_of work) i → InWork x m c
  unfolding tasks
  in-work t mode =
      let kept = lent.table.kept in
      let m = modes-few kept t.owner in
      let n = tasks-few kept t.owner in
      record {
        number = place-lt t;
        mode = omega arith;
        some = omega (arith, split.count, (kept.each i t.owner).some_task);
        few = omega (arith, split.count);
      }

  pub phase-at : {c j : ℕ} → IsTask (table_of work) i c → IsTask (table_of work) i j → get_or work (phases_cell + tasks_most * (x.first + c) + j) 0 ≡ phase_of (table_of work) i c j
  unfolding number
  phase-at {c} {j} k t = rw split.first (lent.phases i c j k t)

  module _ {s : Subject} (subject : IsSubject work s) {m : ℕ} (mode : m < modes (table_of work) i) where
    pub weight-at : {j : ℕ} → IsTask (table_of work) i j → get_or work (weights_cell + tasks_in_all * m + (x.first + j)) 0 ≡ weight (table_of work) s.u s.a i m j
    unfolding number
    weight-at {j} t = rw split.first (subject.weighs.weight i m j t mode)

    -- the same cell as the code adds it up
    weight-in : {j : ℕ} → IsTask (table_of work) i j → get_or work (weights_cell + tasks_in_all * m + x.first + j) 0 ≡ weight (table_of work) s.u s.a i m j
    weight-in {j} t =
        let e : weights_cell + tasks_in_all * m + x.first + j ≡ weights_cell + tasks_in_all * m + (x.first + j) = omega arith in
        ap (λ (n : ℕ). get_or work n 0) e ∙ weight-at t

    -- the cells of task j are as `rest_of` requires
    pub rest-needs :
        {c : ℕ}
        → IsTask (table_of work) i c
        → (j : ℕ)
        → j < x.count
        → RestNeeds x (get_or work (phases_cell + tasks_most * (x.first + c) + j) 0) (get_or work (weights_cell + tasks_in_all * m + x.first + j) 0)
    rest-needs {c} k j l =
        let kept = lent.table.kept in
        let own : j < tasks (table_of work) i = omega (arith, split.count) in
        let t : IsTask (table_of work) i j = record { owner = k.owner; place = own } in
        record {
          period = omega (arith, split.period, period-lt kept k.owner);
          rest = split.below;
          passed = rw (phase-at k t) (phase-of-below kept split c j);
          light = rw (weight-in t) (weight-lt kept s.u s.a k.owner mode j own);
        }

    -- the rest of a task by its cells, and of all tasks
    module _ {c : ℕ} (k : IsTask (table_of work) i c) (whole : Bool) where
      abbrev rest_in : ℕ → ℕ
      rest_in j = rest_cell work whole x (phases_cell + tasks_most * (x.first + c)) (weights_cell + tasks_in_all * m + x.first) j

      -- the first task's cells are read without an offset
      pub rest-first : rest_in 0 ≡ rest_of whole x.periods x.period x.rest (get_or work (phases_cell + tasks_most * (x.first + c)) 0) (get_or work (weights_cell + tasks_in_all * m + x.first) 0)
      rest-first = rw (add-zero (phases_cell + tasks_most * (x.first + c)), add-zero (weights_cell + tasks_in_all * m + x.first))

      rest_in-rest_at : {j : ℕ} → IsTask (table_of work) i j → rest_in j ≡ rest_at whole (table_of work) s.u s.a i m c x.periods x.rest j
      unfolding rest_at
      rest_in-rest_at {j} t = rw (phase-at k t, weight-in t, split.period)

      pub rests-in : (n : ℕ) → n ≡ x.count → sum n rest_in ≡ rests whole (table_of work) s.u s.a i m c x.periods x.rest
      unfolding rests
      rests-in n e =
          ap (λ (n : ℕ). sum n rest_in) (e ∙ split.count) ∙ sum-ext (tasks (table_of work) i) {f = rest_in} (λ j l. rest_in-rest_at (record { owner = k.owner; place = l }))

      rest-in-le : (j : ℕ) → j < tasks (table_of work) i → rest_in j ≤ 2 ^ 25
      unfolding rest_at
      rest-in-le j l =
          omega (
            arith,
            rest_in-rest_at {j = j} (record { owner = k.owner; place = l }),
            rest_le whole x.periods (period (table_of work) i) x.rest (phase_of (table_of work) i c j) (weight (table_of work) s.u s.a i m j),
            weight-lt lent.table.kept s.u s.a k.owner mode j l,
          )

      pub rests-room : (j : ℕ) → j < x.count → sum j rest_in + rest_in j ≤ tasks_most * 2 ^ 25
      rests-room j l =
          omega (arith, sum_room {f = rest_in} j rest-in-le (omega (arith, split.count)), tasks-few lent.table.kept k.owner)

    pub sum-at :
        {c : ℕ}
        → IsTask (table_of work) i c
        → get_or work (sums_cell + 2 * (modes_most * (x.first + c) + m)) 0
        + get_or work (sums_cell + 2 * (modes_most * (x.first + c) + m) + 1) 0 * 2 ^ 32
        ≡ held_back (table_of work) s.u s.a i m c
    unfolding number
    sum-at {c} t = rw split.first (subject.weighs.sum i m c t mode)

-- a setting, and that its cells are there
pub setting-in :
    {work : List ℕ} {s : Subject} {i m c : ℕ} {x : Split}
    → Lent work
    → IsSubject work s
    → IsTask (table_of work) i c
    → m < modes (table_of work) i
    → IsSplit (table_of work) i x
    → IsSetting work s i m c x × InWork x m c
setting-in lent subject is mode split =
    (record { lent = lent; subject = subject; is_task = is; mode = mode; split = split }, in-work lent split is mode)

-- the setting of a number
pub at-setting :
    {tab : Table} {i z : ℕ} {x : Split}
    → IsSplit tab i x
    → modes_most * before tab i ≤ z
    → z < modes_most * (x.first + x.count)
    → SettingAt tab i z (z % modes_most) (z / modes_most - x.first)
at-setting split from below = rw split.first (setting-at split.owner from (omega (arith, split.first, split.count)))

-- the links that stand there: from the first setting of a transaction, and from behind a setting
module _ {work : List ℕ} {s : Subject} (subject : IsSubject work s) {i : ℕ} where
  pub first-setting :
      {x : Split}
      → Kept (table_of work)
      → IsSplit (table_of work) i x
      → NextSetting (table_of work) s.u s.a (modes_most * before (table_of work) i) (get_or work (settings_cell + modes_most * x.first) 0)
  unfolding setting_number number tasks
  first-setting {x} kept split =
      let e : modes_most * x.first ≡ modes_most * (before (table_of work) i + 0) + 0 = omega (arith, split.first) in
      let first : IsTask (table_of work) i 0 = record { owner = split.owner; place = (kept.each i split.owner).some_task } in
      let f : modes_most * before (table_of work) i ≡ modes_most * (before (table_of work) i + 0) + 0 = omega arith in
      rw (e, f) (subject.settings i 0 0 first (omega arith))

  pub next-setting :
      {z m c : ℕ}
      → SettingAt (table_of work) i z m c
      → m < modes (table_of work) i
      → NextSetting (table_of work) s.u s.a (z + 1) (get_or work (settings_cell + (z + 1)) 0)
  unfolding setting_number
  next-setting {z} {m} {c} at mode =
      let e : z + 1 ≡ modes_most * number (table_of work) i c + (m + 1) = omega (arith, at.numbered) in
      rw e (subject.settings i (m + 1) c at.is_task (omega arith))
