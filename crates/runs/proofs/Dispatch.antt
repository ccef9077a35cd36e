-- The dispatcher: of the jobs that are pending in a tick it serves one of the most urgent, of one task the earliest. Of
-- equal priorities it takes the first in image order, and it idles only if no job is pending.
use mathlib.Core.Path.{◌≡◌, refl, ap}
use Prim.Native.Nat.{ℕ, zero, suc, max, ◌≤◌, ◌<◌}
use native.Mathlib.Decide.{dec_le, dec_lt}
use native.Mathlib.Omega.{arith}
use Rattle.table.specs.Table.{Table, IsTask, transactions, tasks, priority}
use Rattle.runs.specs.Run.{Slot, idle, job, Run}

unfoldable pub choose : {A : Type 0} → Dec A → Slot → Slot → Slot
choose (yes a) s r = s
choose (no h) s r = r

-- how urgent a tick's work is; idling is below every job
unfoldable pub rank : Table → Slot → ℕ
rank tab idle = 0
rank tab (job i j k) = suc (priority tab i j)

-- the more urgent of two, the first if they are equally so
unfoldable pub more : Table → Slot → Slot → Slot
more tab s r = choose (dec_lt (rank tab s) (rank tab r)) r s

-- the first of the most urgent among f 0, .., f (n − 1)
unfoldable pub best : Table → ℕ → (ℕ → Slot) → Slot
best tab zero f = idle
best tab (suc n) f = more tab (best tab n f) (f n)

-- nothing among them is more urgent
best-rank : (tab : Table) (n : ℕ) (f : ℕ → Slot) (i : ℕ) → i < n → rank tab (f i) ≤ rank tab (best tab n f)
unfolding best more choose
best-rank tab zero f i h = absurd (omega arith)
best-rank tab (suc n) f i h =
    go (dec_lt (rank tab (best tab n f)) (rank tab (f n))) (before (dec_lt i n) (best-rank tab n f i))
  where
    before :
        Dec (i < n) →
        (i < n → rank tab (f i) ≤ rank tab (best tab n f)) →
        rank tab (f i) ≤ max (rank tab (best tab n f)) (rank tab (f n))
    before (yes l) r = omega (arith, r l)
    before (no l) r =
        let last : rank tab (f i) ≡ rank tab (f n) = ap (λ (x : ℕ). rank tab (f x)) (omega arith) in
        omega arith

    go :
        (d : Dec (rank tab (best tab n f) < rank tab (f n))) →
        rank tab (f i) ≤ max (rank tab (best tab n f)) (rank tab (f n)) →
        rank tab (f i) ≤ rank tab (choose d (f n) (best tab n f))
    go (yes d) e = omega arith
    go (no d) e = omega arith

-- what idling and each of them has, the best has
best-has :
    (tab : Table) (Q : Slot → Type 0) (n : ℕ) (f : ℕ → Slot) → Q idle → ((i : ℕ) → i < n → Q (f i)) → Q (best tab n f)
unfolding best more choose
best-has tab Q zero f q h = q
best-has tab Q (suc n) f q h =
    go (dec_lt (rank tab (best tab n f)) (rank tab (f n))) (best-has tab Q n f q (λ i l. h i (omega arith)))
  where
    go : (d : Dec (rank tab (best tab n f) < rank tab (f n))) → Q (best tab n f) → Q (choose d (f n) (best tab n f))
    go (yes d) e = h n (omega arith)
    go (no d) e = e

-- Job k of task j of transaction i is pending in tick t, ready and not finished, if `given` says how many ticks each job
-- has been given before t
pub record IsPending (ρ : Run) (given : ℕ → ℕ → ℕ → ℕ) (t i j k : ℕ) : Type 0 where
  pub ready : ρ.ready i j k ≤ t
  pub unfinished : given i j k < ρ.need i j k

abbrev pub pending_by :
    {ρ : Run} {given : ℕ → ℕ → ℕ → ℕ} {t i j k : ℕ} →
    Dec (ρ.ready i j k ≤ t) →
    Dec (given i j k < ρ.need i j k) →
    Dec (IsPending ρ given t i j k)
pending_by (no h) e = no (λ w. h w.ready)
pending_by (yes h) (no e) = no (λ w. e w.unfinished)
pending_by (yes h) (yes e) = yes (record { ready = h; unfinished = e })

module _ (tab : Table) (ρ : Run) (given : ℕ → ℕ → ℕ → ℕ) (t : ℕ) where
  unfoldable pub pending? : (i j k : ℕ) → Dec (IsPending ρ given t i j k)
  pending? i j k = pending_by (dec_le (ρ.ready i j k) t) (dec_lt (given i j k) (ρ.need i j k))

  -- that job if it is pending
  unfoldable pub if_pending : (i j k : ℕ) → Slot
  if_pending i j k = choose (pending? i j k) (job i j k) idle

  -- The earliest pending job of that task. It is looked for among the events up to the t-th: a later one comes after t,
  -- since events are T ≥ 1 apart
  unfoldable pub earliest : (i j : ℕ) → Slot
  earliest i j = best tab (suc t) (if_pending i j)

  unfoldable pub dispatch : Slot
  dispatch = best tab (transactions tab) (λ i. best tab (tasks tab i) (λ j. earliest i j))

  -- what the dispatcher serves: a pending job of the table, before which no job of its task is pending
  pub record Due (i j k : ℕ) : Type 0 where
    pub is_task : IsTask tab i j
    pub pending : IsPending ρ given t i j k
    pub first : (l : ℕ) → l < k → ¬ (IsPending ρ given t i j l)

  abbrev pub DueIn : Slot → Type 0
  DueIn idle = Unit {0}
  DueIn (job i j k) = Due i j k

  pending-rank : (i j k : ℕ) → IsPending ρ given t i j k → rank tab (if_pending i j k) ≡ suc (priority tab i j)
  unfolding if_pending choose rank
  pending-rank i j k w = go (pending? i j k)
    where
      go : (d : Dec (IsPending ρ given t i j k)) → rank tab (choose d (job i j k) idle) ≡ suc (priority tab i j)
      go (yes d) = refl
      go (no d) = absurd (d w)

  -- The first of the most urgent is the earliest here, since a task's jobs are equally urgent
  earliest-due : (i j n : ℕ) → IsTask tab i j → DueIn (best tab n (if_pending i j))
  unfolding best more choose if_pending rank
  earliest-due i j zero h = tt
  earliest-due i j (suc n) h = go (pending? i j n) (dec_lt _ _) (earliest-due i j n h)
    where
      go :
          (w : Dec (IsPending ρ given t i j n)) →
          (d : Dec (rank tab (best tab n (if_pending i j)) < rank tab (choose w (job i j n) idle))) →
          DueIn (best tab n (if_pending i j)) →
          DueIn (choose d (choose w (job i j n) idle) (best tab n (if_pending i j)))
      go w (no d) e = e
      go (no w) (yes d) e = tt
      go (yes w) (yes d) e =
          record {
            is_task = h;
            pending = w;
            first = λ l b x. omega (arith, best-rank tab n (if_pending i j) l b, pending-rank i j l x);
          }

  pub dispatch-due : DueIn dispatch
  unfolding dispatch earliest
  dispatch-due =
      best-has tab DueIn (transactions tab) _ tt λ i h.
      best-has tab DueIn (tasks tab i) _ tt λ j l.
      earliest-due i j (suc t) (record { owner = h; place = l })

  -- no pending job is more urgent
  pub dispatch-rank : (i j k : ℕ) → IsTask tab i j → k ≤ t → IsPending ρ given t i j k → priority tab i j < rank tab dispatch
  unfolding dispatch earliest
  dispatch-rank i j k h l w =
      omega (
        arith,
        pending-rank i j k w,
        best-rank tab (suc t) (if_pending i j) k (omega arith),
        best-rank tab (tasks tab i) (λ y. earliest i y) j h.place,
        best-rank tab (transactions tab) (λ x. best tab (tasks tab x) (λ y. earliest x y)) i h.owner,
      )
