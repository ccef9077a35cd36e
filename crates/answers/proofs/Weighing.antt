-- Filling the part of the work cells that is the task's under analysis: weights, their sums and held-back sums.
use mathlib.Core.Path.{◌≡◌, refl, sym, ap, ap₂, ◌∙◌, subst}
use mathlib.Core.List.{List}
use Prim.Native.Nat.{ℕ, ◌+◌, ◌*◌, ◌/◌, ◌%◌, ◌^◌, ◌≤◌, ◌<◌}
use native.Mathlib.Nat.{mul-le-mul, div-add-mod'}
use native.Mathlib.Decide.{ℕ_discrete}
use native.Mathlib.Omega.{arith}
use lib.ListN.{length, get_or, set, length-set}
use lib.Seq.{get_or-set_other}
use Rattle.row.specs.Row.{table_of}
use Rattle.table.specs.Sum.{sum}
use Rattle.table.specs.Table.{Table, IsTask, transactions, modes}
use Rattle.table.specs.Limits.{modes_most, tasks_most, tasks_in_all}
use Rattle.table.specs.Number.{number}
use Rattle.table.specs.Kept.{Kept}
use Rattle.table.proofs.Sum.{sum-ext, sum-next, sum_room}
use Rattle.table.proofs.Number.{number_lt, number-unique}
use Rattle.table.proofs.Ranges.{modes-few, tasks-few}
use Rattle.analysis.specs.Charge.{held_of}
use Rattle.answers.specs.declared.charges.Subject.{Subject}
use Rattle.answers.specs.Work.{held_cell, weights_cell, mode_weights_cell, sums_cell, settings_cell, work_cells, Lent, Weighs}
use Rattle.charge.specs.Weight.{weight, mode_weight, held_back}
use Rattle.answers.specs.Parts.{SameTo, TasksOf, ModeWeighed, Summed, WeighedTo}
use Rattle.charge.proofs.Ranges.{held-of-lt}
use Rattle.charge.proofs.Weights.{weight-lt}
use Rattle.answers.proofs.Filling.{stored, same_refl, same_set, same-less, same-cell}

-- ---- stores

-- cell p is none of those of transaction i in mode m
record Apart (tab : Table) (i m p : ℕ) : Type 0 where
  weight : (j : ℕ) → IsTask tab i j → ¬ (weights_cell + tasks_in_all * m + number tab i j ≡ p)
  mode_weight : ¬ (mode_weights_cell + modes_most * i + m ≡ p)
  lower : (c : ℕ) → IsTask tab i c → ¬ (sums_cell + 2 * (modes_most * number tab i c + m) ≡ p)
  upper : (c : ℕ) → IsTask tab i c → ¬ (sums_cell + 2 * (modes_most * number tab i c + m) + 1 ≡ p)

-- nor of any mode below k
abbrev ApartTo : Table → (k p : ℕ) → Type 0
ApartTo tab k p = (i m : ℕ) → i < transactions tab → m < modes tab i → modes_most * i + m < k → Apart tab i m p

-- so a store there leaves them
weighed-set : {tab : Table} (u a : ℕ) {k p : ℕ} {work : List ℕ} (v : ℕ) → ApartTo tab k p → WeighedTo tab u a k work → WeighedTo tab u a k (set work p v)
weighed-set u a {p = p} {work = work} v apart x =
    record {
      weighed = λ i m h mode l.
          let y = apart i m h mode l in
          let z = x.weighed i m h mode l in
          record {
            weight = λ j is. get_or-set_other work p _ v 0 (y.weight j is) ∙ z.weight j is;
            mode_weight = get_or-set_other work p _ v 0 y.mode_weight ∙ z.mode_weight;
          };
      summed = λ i m h mode l.
          let y = apart i m h mode l in
          record {
            sum = λ c is.
                ap₂ (λ (v w : ℕ). v + w * 2 ^ 32) (get_or-set_other work p _ v 0 (y.lower c is)) (get_or-set_other work p _ v 0 (y.upper c is))
                ∙ (x.summed i m h mode l).sum c is;
          };
    }

-- each mode has its own cells: what mode m of transaction i stores is none of those before it
module _ {tab : Table} (kept : Kept tab) {i m f n : ℕ} (own : TasksOf tab i f n) (mode : m < modes tab i) where
  place : {j : ℕ} → j < n → IsTask tab i j
  place l = record { owner = own.owner; place = omega (arith, own.count) }

  -- tasks and modes are few
  pub small : {j : ℕ} → j < n → (f + j < tasks_in_all) × (m < modes_most)
  unfolding number
  small l = (omega (arith, own.first, number_lt tab (place l), kept.few_tasks), omega (arith, modes-few kept own.owner))

  apart-weight : {j : ℕ} → j < n → ApartTo tab (modes_most * i + m) (weights_cell + tasks_in_all * m + (f + j))
  unfolding number
  apart-weight {j} l y k h there before =
      let few = small l in
      let short = modes-few kept h in
      record {
        weight = λ z is e.
            let below = number_lt tab is in
            let same = number-unique tab is (place l) (omega (arith, own.first, kept.few_tasks)) in
            omega arith;
        mode_weight = λ e. omega arith;
        lower = λ c is e. omega arith;
        upper = λ c is e. omega arith;
      }

  apart-mode-weight : ApartTo tab (modes_most * i + m) (mode_weights_cell + modes_most * i + m)
  apart-mode-weight y k h there before =
      let few = modes-few kept own.owner in
      let short = modes-few kept h in
      let most = kept.few_transactions in
      record {
        weight = λ z is e. omega (arith, number_lt tab is, kept.few_tasks);
        mode_weight = λ e. omega arith;
        lower = λ c is e. omega (arith, own.owner);
        upper = λ c is e. omega (arith, own.owner);
      }

  apart-sum : {c d : ℕ} → c < n → d < 2 → ApartTo tab (modes_most * i + m) (sums_cell + 2 * (modes_most * (f + c) + m) + d)
  unfolding number
  apart-sum {c} {d} l half y k h there before =
      let few = small l in
      let short = modes-few kept h in
      let most = kept.few_transactions in
      record {
        weight = λ z is e. omega (arith, number_lt tab is, kept.few_tasks);
        mode_weight = λ e. omega arith;
        lower = λ z is e.
            let same = number-unique tab is (place l) (omega (arith, own.first)) in
            omega arith;
        upper = λ z is e.
            let same = number-unique tab is (place l) (omega (arith, own.first)) in
            omega arith;
      }

-- stores behind them leave weights and their sum, and held-back sums
module _ {tab : Table} (kept : Kept tab) (u a : ℕ) {i m : ℕ} (h : i < transactions tab) (mode : m < modes tab i) {old work : List ℕ} where
  pub mode-weighed-same : SameTo sums_cell old work → ModeWeighed tab u a i m old → ModeWeighed tab u a i m work
  mode-weighed-same same x =
      let few = modes-few kept h in
      record {
        weight = λ j is.
            same-cell same (weights_cell + tasks_in_all * m + number tab i j) (omega (arith, number_lt tab is, kept.few_tasks)) (x.weight j is);
        mode_weight = same-cell same (mode_weights_cell + modes_most * i + m) (omega (arith, kept.few_transactions)) x.mode_weight;
      }

  summed_same : SameTo settings_cell old work → Summed tab u a i m old → Summed tab u a i m work
  summed_same same x =
      let few = modes-few kept h in
      record {
        sum = λ c is.
            let below = number_lt tab is in
            ap₂ (λ (v w : ℕ). v + w * 2 ^ 32)
            (same-cell same (sums_cell + 2 * (modes_most * number tab i c + m)) (omega (arith, kept.few_tasks)) refl)
            (same-cell same (sums_cell + 2 * (modes_most * number tab i c + m) + 1) (omega (arith, kept.few_tasks)) refl)
            ∙ x.sum c is;
      }

-- ---- weights and their sum

-- the modes below mode m of transaction i, and there the weights of the first n tasks, w in all
pub record WeightsTo (tab : Table) (u a i m f n w : ℕ) (old work : List ℕ) : Type 0 where
  pub same : SameTo weights_cell old work
  pub done : WeighedTo tab u a (modes_most * i + m) work
  pub mode_weight : w ≡ sum n (weight tab u a i m)
  pub weight : (j : ℕ) → j < n → get_or work (weights_cell + tasks_in_all * m + (f + j)) 0 ≡ weight tab u a i m j

module _ {tab : Table} (kept : Kept tab) (u a : ℕ) {i m f n : ℕ} (own : TasksOf tab i f n) (mode : m < modes tab i) where
  pub weights-none : {old : List ℕ} → WeighedTo tab u a (modes_most * i + m) old → WeightsTo tab u a i m f 0 0 old old
  unfolding sum
  weights-none {old} done =
      record { same = same_refl weights_cell old; done = done; weight = λ j l. absurd (omega arith); mode_weight = refl }

  -- the sum with the next weight
  pub weights-room : {j : ℕ} → j < n → sum j (weight tab u a i m) + weight tab u a i m j ≤ tasks_most * 2 ^ 24
  weights-room {j} l =
      omega (
        arith,
        sum_room {f = weight tab u a i m} {K = 2 ^ 24} j (λ z k. omega (arith, weight-lt kept u a own.owner mode z k)) (place kept own mode l).place,
        tasks-few kept own.owner,
      )

  pub weights-next :
      {j w v : ℕ} {old work : List ℕ}
      → j < n
      → length work ≡ work_cells
      → v ≡ weight tab u a i m j
      → WeightsTo tab u a i m f j w old work
      → WeightsTo tab u a i m f (j + 1) (w + v) old (set work (weights_cell + tasks_in_all * m + (f + j)) v)
  weights-next {j} {v = v} {old = old} {work = work} l long is x =
      let few = small kept own mode l in
      record {
        same = same_set weights_cell old work (weights_cell + tasks_in_all * m + (f + j)) v (omega arith) x.same;
        done = weighed-set u a v (apart-weight kept own mode l) x.done;
        weight = λ z k.
            stored work (weights_cell + tasks_in_all * m + (f + j)) v (weights_cell + tasks_in_all * m + (f + z)) (omega arith)
            (λ e. is ∙ ap (weight tab u a i m) (omega arith))
            (λ d. x.weight z (omega arith));
        mode_weight = rw sum-next (omega (arith, x.mode_weight));
      }

  pub weights-all :
      {w : ℕ} {old work : List ℕ}
      → length work ≡ work_cells
      → WeightsTo tab u a i m f n w old work
      → SameTo weights_cell old (set work (mode_weights_cell + modes_most * i + m) w)
      × (WeighedTo tab u a (modes_most * i + m) (set work (mode_weights_cell + modes_most * i + m) w)
      × ModeWeighed tab u a i m (set work (mode_weights_cell + modes_most * i + m) w))
  unfolding number mode_weight
  weights-all {w} {old} {work} long x =
      let few = modes-few kept own.owner in
      let most = kept.few_transactions in
      let at = mode_weights_cell + modes_most * i + m in (
        same_set weights_cell old work at w (omega arith) x.same,
        (
          weighed-set u a w (apart-mode-weight kept own mode) x.done,
          record {
            weight = λ j is.
                stored work at w (weights_cell + tasks_in_all * m + number tab i j) (omega (arith, own.owner)) (λ e. absurd (omega (arith, number_lt tab is, kept.few_tasks)))
                (λ d. rw (← own.first) (x.weight j (omega (arith, own.count, is.place))));
            mode_weight = stored work at w at (omega (arith, own.owner)) (λ e. x.mode_weight ∙ ap (λ (k : ℕ). sum k (weight tab u a i m)) own.count) (λ d. absurd (d refl));
          },
        ),
      )

-- ---- held-back sums

-- what the jobs of task j that are held back to candidate c's instant weigh, by the cells: the tasks have numbers from f on
abbrev pub held_weight : List ℕ → ℕ → ℕ → ℕ → ℕ → ℕ
held_weight work m c f j =
    get_or work (held_cell + tasks_most * (f + c) + j) 0 * get_or work (weights_cell + tasks_in_all * m + (f + j)) 0

module _ {work : List ℕ} (lent : Lent work) {u a i m f n c : ℕ} (own : TasksOf (table_of work) i f n) (mode : m < modes (table_of work) i)
    (loaded : ModeWeighed (table_of work) u a i m work) (here : c < n) where
  held-weight-is : {j : ℕ} → j < n → held_weight work m c f j ≡ held_of (table_of work) i c j * weight (table_of work) u a i m j
  unfolding number
  held-weight-is {j} l =
      let is = place lent.table.kept own mode l in
      rw own.first (ap₂ ◌*◌ (lent.held i c j (place lent.table.kept own mode here) is) (loaded.weight j is))

  pub held-weight-le : {j : ℕ} → j < n → held_weight work m c f j ≤ 2 ^ 49
  held-weight-le {j} l =
      let kept = lent.table.kept in
      let is = place kept own mode l in
      rw (held-weight-is l)
      (mul-le-mul {n₂ = 2 ^ 25} {m₂ = 2 ^ 24} (omega (arith, held-of-lt kept is c)) (omega (arith, weight-lt kept u a own.owner mode j is.place)))

  -- the sum with the next task
  pub held-room : {j : ℕ} → j < n → sum j (held_weight work m c f) + held_weight work m c f j ≤ tasks_most * 2 ^ 49
  held-room {j} l =
      omega (arith, sum_room {f = held_weight work m c f} {K = 2 ^ 49} j (λ z k. held-weight-le k) l, tasks-few lent.table.kept own.owner, own.count)

  pub held-back-is : sum n (held_weight work m c f) ≡ held_back (table_of work) u a i m c
  unfolding held_back
  held-back-is =
      sum-ext n {f = held_weight work m c f} (λ j l. held-weight-is l)
      ∙ ap (λ (k : ℕ). sum k (λ j. held_of (table_of work) i c j * weight (table_of work) u a i m j)) own.count

-- the modes below mode m of transaction i, and there the sums of the first n candidates
pub record SumsTo (tab : Table) (u a i m f n : ℕ) (old work : List ℕ) : Type 0 where
  pub same : SameTo sums_cell old work
  pub done : WeighedTo tab u a (modes_most * i + m) work
  pub sum :
      (c : ℕ)
      → c < n
      → get_or work (sums_cell + 2 * (modes_most * (f + c) + m)) 0 + get_or work (sums_cell + 2 * (modes_most * (f + c) + m) + 1) 0 * 2 ^ 32
      ≡ held_back tab u a i m c

module _ {tab : Table} (kept : Kept tab) (u a : ℕ) {i m f n : ℕ} (own : TasksOf tab i f n) (mode : m < modes tab i) {old : List ℕ} where
  pub sums_none : WeighedTo tab u a (modes_most * i + m) old → SumsTo tab u a i m f 0 old old
  sums_none done = record { same = same_refl sums_cell old; done = done; sum = λ c l. absurd (omega arith) }

  pub sums_next :
      {c v : ℕ} {work : List ℕ}
      → c < n
      → length work ≡ work_cells
      → v ≡ held_back tab u a i m c
      → SumsTo tab u a i m f c old work
      → SumsTo tab u a i m f (c + 1) old (set (set work (sums_cell + 2 * (modes_most * (f + c) + m)) (v % 2 ^ 32)) (sums_cell + 2 * (modes_most * (f + c) + m) + 1) (v / 2 ^ 32))
  sums_next {c} {v} {work} l long is x =
      let few = small kept own mode l in
      record {
        same = same_set sums_cell old one (at + 1) (v / 2 ^ 32) (omega arith) (same_set sums_cell old work at (v % 2 ^ 32) (omega arith) x.same);
        done =
            weighed-set u a (v / 2 ^ 32) (apart-sum kept own mode l (omega arith))
            (weighed-set u a (v % 2 ^ 32) (apart-lower l) x.done);
        sum = λ d k.
            elim (ℕ_discrete d c) [
              | yes e ↦
                  ap₂ (λ (v w : ℕ). v + w * 2 ^ 32)
                  (two (sums_cell + 2 * (modes_most * (f + d) + m)) (λ h. absurd (omega arith)) (λ h. refl) (λ h. absurd (h.0 (omega arith))))
                  (two (sums_cell + 2 * (modes_most * (f + d) + m) + 1) (λ h. refl) (λ h. absurd (omega arith)) (λ h. absurd (h.1 (omega arith))))
                  ∙ omega (arith, div-add-mod' v (2 ^ 32))
                  ∙ is
                  ∙ ap (held_back tab u a i m) (sym e)
              | no h ↦
                  ap₂ (λ (v w : ℕ). v + w * 2 ^ 32)
                  (two (sums_cell + 2 * (modes_most * (f + d) + m)) (λ p. absurd (omega arith)) (λ p. absurd (omega arith)) (λ p. refl))
                  (two (sums_cell + 2 * (modes_most * (f + d) + m) + 1) (λ p. absurd (omega arith)) (λ p. absurd (omega arith)) (λ p. refl))
                  ∙ x.sum d (omega arith)
            ];
      }
    where
      at : ℕ
      at = sums_cell + 2 * (modes_most * (f + c) + m)

      one : List ℕ
      one = set work at (v % 2 ^ 32)

      apart-lower : c < n → ApartTo tab (modes_most * i + m) at
      apart-lower l = let zero : at + 0 ≡ at = omega arith in subst (ApartTo tab (modes_most * i + m)) zero (apart-sum kept own mode l (omega arith))

      two :
          (q : ℕ) {y : ℕ}
          → (q ≡ at + 1 → v / 2 ^ 32 ≡ y)
          → (q ≡ at → v % 2 ^ 32 ≡ y)
          → (¬ (q ≡ at) × ¬ (q ≡ at + 1) → get_or work q 0 ≡ y)
          → get_or (set one (at + 1) (v / 2 ^ 32)) q 0 ≡ y
      two q second first other =
          let few = small kept own mode l in
          stored one (at + 1) (v / 2 ^ 32) q (simp length-set (omega arith)) second
          (λ h. stored work at (v % 2 ^ 32) q (omega arith) first (λ g. other (g, h)))

  -- a mode is done once its sums are
  pub sums-all : {work : List ℕ} → ModeWeighed tab u a i m old → SumsTo tab u a i m f n old work → WeighedTo tab u a (modes_most * i + (m + 1)) work
  unfolding number
  sums-all {work} loaded x =
      let few = modes-few kept own.owner in
      let summed : Summed tab u a i m work =
      record { sum = λ c is. rw (← own.first) (x.sum c (omega (arith, own.count, is.place))) } in
      let now = mode-weighed-same kept u a own.owner mode x.same loaded in
      record {
        weighed = λ y k h there l.
            let short = modes-few kept h in
            elim (ℕ_discrete (modes_most * y + k) (modes_most * i + m)) [
              | yes e ↦
                  let p : y ≡ i = omega arith in
                  let q : k ≡ m = omega arith in
                  rw (p, q) now
              | no d ↦ x.done.weighed y k h there (omega arith)
            ];
        summed = λ y k h there l.
            let short = modes-few kept h in
            elim (ℕ_discrete (modes_most * y + k) (modes_most * i + m)) [
              | yes e ↦
                  let p : y ≡ i = omega arith in
                  let q : k ≡ m = omega arith in
                  rw (p, q) summed
              | no d ↦ x.done.summed y k h there (omega arith)
            ];
      }

-- ---- transactions, and the work cells with the subject's weights

pub weighed-none : (tab : Table) (u a : ℕ) (work : List ℕ) → WeighedTo tab u a (modes_most * 0) work
weighed-none tab u a work =
    record { weighed = λ i m h mode l. absurd (omega arith); summed = λ i m h mode l. absurd (omega arith) }

-- behind the last mode of a transaction comes the next one
pub weighed-next : {tab : Table} (kept : Kept tab) (u a i : ℕ) {work : List ℕ} → WeighedTo tab u a (modes_most * i + modes tab i) work → WeighedTo tab u a (modes_most * (i + 1)) work
weighed-next {tab} kept u a i x =
    record {
      weighed = λ y m h mode l. x.weighed y m h mode (earlier y m h mode l);
      summed = λ y m h mode l. x.summed y m h mode (earlier y m h mode l);
    }
  where
    earlier : (y m : ℕ) → y < transactions tab → m < modes tab y → modes_most * y + m < modes_most * (i + 1) → modes_most * y + m < modes_most * i + modes tab i
    earlier y m h mode l =
        elim (ℕ_discrete y i) [
          | yes e ↦ omega (arith, ap (modes tab) e)
          | no d ↦ omega (arith, modes-few kept h)
        ]

pub weighed-subject :
    (work : List ℕ) (tab : Table) (s : Subject)
    → table_of work ≡ tab
    → Kept tab
    → WeighedTo tab s.u s.a (modes_most * transactions tab) work
    → Weighs work s
weighed-subject work tab s e kept x =
    let y = subst (λ (t : Table). WeighedTo t s.u s.a (modes_most * transactions t) work) (sym e) x in
    let keeps = subst Kept (sym e) kept in
    record {
      weight = λ i m j is mode. (y.weighed i m is.owner mode (omega (arith, is.owner, modes-few keeps is.owner))).weight j is;
      mode_weight = λ i m h mode. (y.weighed i m h mode (omega (arith, modes-few keeps h))).mode_weight;
      sum = λ i m c is mode. (y.summed i m is.owner mode (omega (arith, is.owner, modes-few keeps is.owner))).sum c is;
    }

-- stores behind the sums leave the weights of the subject
pub subject-same : {old work : List ℕ} (s : Subject) → table_of work ≡ table_of old → Kept (table_of old) → SameTo settings_cell old work → Weighs old s → Weighs work s
subject-same {old} {work} s e kept same x =
    weighed-subject work (table_of old) s e kept
    (record {
      weighed = λ i m h mode l.
          mode-weighed-same kept s.u s.a h mode (same-less (omega arith) same) (record { weight = λ j is. x.weight i m j is mode; mode_weight = x.mode_weight i m h mode });
      summed = λ i m h mode l. summed_same kept s.u s.a h mode same (record { sum = λ c is. x.sum i m c is mode });
    })
