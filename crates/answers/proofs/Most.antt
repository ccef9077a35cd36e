-- One more task of a mode, by what it weighs, and one step of each loop over tasks and modes.
use mathlib.Core.Path.{◌≡◌, refl}
use Prim.Native.Nat.{ℕ, ◌+◌, ◌≤◌, ◌<◌}
use native.Mathlib.Numerals.{add-one}
use native.Mathlib.Decide.{dec_lt}
use native.Mathlib.Omega.{arith}
use Rattle.table.specs.Table.{Table, tasks}
use Rattle.analysis.specs.Choice.{when}
use Rattle.analysis.specs.Rival.{rival?}
use Rattle.analysis.specs.Charge.{Later, charge}
use Rattle.analysis.specs.Order.{Turn}
use Rattle.analysis.specs.Who.{Most, nobody, charged, second_if, most_by, in_mode, in_modes}
use Rattle.charge.specs.Weight.{weight}
use Rattle.charge.proofs.Weights.{weightless, weighty}

-- ---- by a decision, and what it chooses

spared : {A : Type 0} (d : Dec A) (x : Most) (r : ℕ) (by : Turn) → when d 1 ≡ 0 → most_by d x r by ≡ x
unfolding most_by when
spared (yes h) x r by e = absurd (omega arith)
spared (no h) x r by e = refl

first : {A : Type 0} (d : Dec A) (r : ℕ) (by : Turn) → when d 1 ≡ 1 → most_by d nobody r by ≡ charged r by
unfolding most_by when
first (yes h) r by e = refl
first (no h) r by e = absurd (omega arith)

second : {A : Type 0} (d : Dec A) (s r : ℕ) (x by : Turn) → when d 1 ≡ 1 → most_by d (charged s x) r by ≡ second_if (dec_lt s r) (charged s x) (charged r by)
unfolding most_by when
second (yes h) s r x by e = refl
second (no h) s r x by e = absurd (omega arith)

greater : {s r : ℕ} (d : Dec (s < r)) (x y : Most) → s < r → second_if d x y ≡ y
unfolding second_if
greater (yes h) x y l = refl
greater (no h) x y l = absurd (h l)

no-greater : {s r : ℕ} (d : Dec (s < r)) (x y : Most) → r ≤ s → second_if d x y ≡ x
unfolding second_if
no-greater (yes h) x y l = absurd (omega arith)
no-greater (no h) x y l = refl

-- ---- a task by its weight: one that weighs nothing is no rival, and any other is

module _ (tab : Table) (u a i m j : ℕ) where
  pub most-weightless : (x : Most) (r : ℕ) (by : Turn) → weight tab u a i m j ≡ 0 → most_by (rival? tab u a i m j) x r by ≡ x
  most-weightless x r by e = spared (rival? tab u a i m j) x r by (weightless tab u a i m j e 1)

  module _ (weighs : ¬ (weight tab u a i m j ≡ 0)) where
    pub most-first : (r : ℕ) (by : Turn) → most_by (rival? tab u a i m j) nobody r by ≡ charged r by
    most-first r by = first (rival? tab u a i m j) r by (weighty tab u a i m j weighs 1)

    pub most-greater : (s r : ℕ) (x by : Turn) → s < r → most_by (rival? tab u a i m j) (charged s x) r by ≡ charged r by
    most-greater s r x by l =
        rw (second (rival? tab u a i m j) s r x by (weighty tab u a i m j weighs 1)) (greater (dec_lt s r) (charged s x) (charged r by) l)

    pub most-no-greater : (s r : ℕ) (x by : Turn) → r ≤ s → most_by (rival? tab u a i m j) (charged s x) r by ≡ charged s x
    most-no-greater s r x by l =
        rw (second (rival? tab u a i m j) s r x by (weighty tab u a i m j weighs 1)) (no-greater (dec_lt s r) (charged s x) (charged r by) l)

-- ---- the loops

module _ (later : Later) (tab : Table) (u a i t : ℕ) where
  pub in-mode-next : (m c : ℕ) (x : Most) → in_mode later tab u a i t m (c + 1) x ≡ most_by (rival? tab u a i m c) (in_mode later tab u a i t m c x) (charge later tab u a i m c t) (record { mode = m; candidate = c })
  unfolding in_mode
  in-mode-next m c x = rw (add-one c)

  pub in-modes-next : (m : ℕ) → in_modes later tab u a i t (m + 1) ≡ in_mode later tab u a i t m (tasks tab i) (in_modes later tab u a i t m)
  unfolding in_modes
  in-modes-next m = rw (add-one m)
