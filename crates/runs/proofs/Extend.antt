-- Any beginning that breaks no rule extends to a legal run: from tick t0 on the dispatcher decides. It never gives a
-- tick to lower work while a job is pending, so what lower work takes of a stretch it takes before t0.
use mathlib.Core.Path.{◌≡◌, refl, ap, sym, ◌∙◌, subst}
use mathlib.Core.Logic.{◌⊎◌, inl, inr}
use mathlib.Core.List.{List, [], ◌∷◌}
use Prim.Native.Nat.{ℕ, zero, suc, ◌+◌, ◌≤◌, ◌<◌, zero-le}
use native.Mathlib.Nat.{le-mul_of_pos_right}
use native.Mathlib.Decide.{dec_lt, ℕ_discrete}
use native.Mathlib.Omega.{arith}
use lib.Arith.{le-zero}
use Rattle.table.specs.Sum.{sum}
use Rattle.table.specs.Table.{Table, IsTask, period, priority}
use Rattle.table.specs.Kept.{Kept}
use Rattle.analysis.specs.Choice.{when}
use Rattle.runs.specs.Run.{Slot, idle, job, Run, event_tick, arrival, serves, served}
use Rattle.runs.specs.Legal.{Rules, Pending, lower, lower_ticks, Holds, Legal}
use Rattle.runs.specs.Choices.{Permitted}
use Rattle.runs.specs.Beginning.{RulesUpTo, HoldsUpTo, LegalUpTo, GoesOn, Extension}
use Rattle.runs.proofs.ExtendTicks.{with_ticks, permitted-same, served-same, pending-same, lower-same}
use Rattle.runs.proofs.Dispatch.{choose, rank, dispatch, Due, DueIn, dispatch-due, dispatch-rank}

-- a tick serves a job or does not
serves-cases : (i j k : ℕ) (s : Slot) → (serves i j k s ≡ 0) ⊎ ((serves i j k s ≡ 1) × (s ≡ job i j k))
unfolding serves when
serves-cases i j k idle = inl refl
serves-cases i j k (job i' j' k') = go (ℕ_discrete i' i) (ℕ_discrete j' j) (ℕ_discrete k' k)
  where
    go :
        (d : Dec (i' ≡ i)) (e : Dec (j' ≡ j)) (f : Dec (k' ≡ k)) →
        (when d (when e (when f 1)) ≡ 0) ⊎ ((when d (when e (when f 1)) ≡ 1) × (job i' j' k' ≡ job i j k))
    go (no d) e f = inl refl
    go (yes d) (no e) f = inl refl
    go (yes d) (yes e) (no f) = inl refl
    go (yes d) (yes e) (yes f) = inr (refl, cc)

-- where only unfinished jobs are served, none is given more than it needs
served-most :
    (ρ : Run) →
    ((v i j k : ℕ) → ρ.at v ≡ job i j k → served ρ i j k v < ρ.need i j k) →
    (i j k t : ℕ) →
    served ρ i j k t ≤ ρ.need i j k
unfolding served sum
served-most ρ h i j k zero = zero-le
served-most ρ h i j k (suc t) = go (served-most ρ h i j k t) (serves-cases i j k (ρ.at t))
  where
    go :
        served ρ i j k t ≤ ρ.need i j k →
        (serves i j k (ρ.at t) ≡ 0) ⊎ ((serves i j k (ρ.at t) ≡ 1) × (ρ.at t ≡ job i j k)) →
        served ρ i j k t + serves i j k (ρ.at t) ≤ ρ.need i j k
    go m (inl z) = omega arith
    go m (inr o) = omega (arith, h t i j k o.1)

-- the jobs of one task become ready in arrival order
ready-grows :
    (tab : Table) (ρ : Run) →
    Permitted tab ρ →
    (i j l k : ℕ) →
    IsTask tab i j →
    l ≤ k →
    ρ.ready i j l ≤ ρ.ready i j k
ready-grows tab ρ h i j l zero x b = omega (arith, ap (ρ.ready i j) (le-zero b))
ready-grows tab ρ h i j l (suc k) x b =
    elim (dec_lt k l) [
      | yes e ↦ omega (arith, ap (ρ.ready i j) (let q : l ≡ suc k = omega arith in q))
      | no e ↦ omega (arith, ready-grows tab ρ h i j l k x (omega arith), h.in_order i j k x)
    ]

-- a tick that serves a job of priority p or above goes to no lower work
rank-lower : (tab : Table) (p : ℕ) (s : Slot) → p < rank tab s → lower tab p s ≡ 0
unfolding lower rank when
rank-lower tab p idle h = absurd (omega arith)
rank-lower tab p (job i j k) h = go (dec_lt (priority tab i j) p)
  where
    go : (d : Dec (priority tab i j < p)) → when d 1 ≡ 0
    go (yes d) = absurd (omega arith)
    go (no d) = refl

-- the ticks given to that job among those past, the newest first
unfoldable pub given : (i j k : ℕ) → List Slot → ℕ
given i j k [] = 0
given i j k (s ∷ past) = given i j k past + serves i j k s

unfoldable pub newest : List Slot → Slot
newest [] = idle
newest (s ∷ past) = s

module _ (tab : Table) (ρ : Run) (t0 : ℕ) where
  -- tick t, after those past
  unfoldable pub next : ℕ → List Slot → Slot
  next t past = choose (dec_lt t t0) (ρ.at t) (dispatch tab ρ (λ i j k. given i j k past) t)

  unfoldable pub add : ℕ → List Slot → List Slot
  add t past = next t past ∷ past

  -- the ticks before t
  unfoldable pub past : ℕ → List Slot
  past zero = []
  past (suc t) = add t (past t)

  -- the choices of ρ and its ticks before t0; from there on the dispatcher decides
  unfoldable pub dispatched : Run
  dispatched = with_ticks ρ (λ v. newest (past (suc v)))

  -- the ticks given to each job before t
  abbrev given-in : (t i j k : ℕ) → ℕ
  given-in t i j k = given i j k (past t)

  given-served : (i j k t : ℕ) → given i j k (past t) ≡ served dispatched i j k t
  unfolding given past add newest dispatched served sum
  given-served i j k zero = refl
  given-served i j k (suc t) = ap (λ (x : ℕ). x + serves i j k (next t (past t))) (given-served i j k t)

  before : (v : ℕ) → v < t0 → dispatched.at v ≡ ρ.at v
  unfolding dispatched newest past add next choose
  before v h = go (dec_lt v t0)
    where
      go : (d : Dec (v < t0)) → choose d (ρ.at v) (dispatch tab ρ (given-in v) v) ≡ ρ.at v
      go (yes d) = refl
      go (no d) = absurd (d h)

  after : (v : ℕ) → t0 ≤ v → dispatched.at v ≡ dispatch tab ρ (given-in v) v
  unfolding dispatched newest past add next choose
  after v h = go (dec_lt v t0)
    where
      go :
          (d : Dec (v < t0)) →
          choose d (ρ.at v) (dispatch tab ρ (given-in v) v) ≡ dispatch tab ρ (given-in v) v
      go (yes d) = absurd (omega arith)
      go (no d) = refl

  served-before : (i j k t : ℕ) → t ≤ t0 → served dispatched i j k t ≡ served ρ i j k t
  unfolding dispatched
  served-before = served-same ρ dispatched.at t0 before

  goes_on : GoesOn ρ t0 dispatched
  unfolding dispatched
  goes_on = record { event = refl; mode = refl; ready = refl; need = refl; before = before }

  module _ (r : RulesUpTo tab ρ t0) where
    -- what a tick from t0 on serves
    due : (v i j k : ℕ) → t0 ≤ v → dispatched.at v ≡ job i j k → Due tab ρ (given-in v) v i j k
    due v i j k h e =
        subst (DueIn tab ρ (given-in v) v) (sym (after v h) ∙ e) (dispatch-due tab ρ (given-in v) v)

    is_task : (v i j k : ℕ) → dispatched.at v ≡ job i j k → IsTask tab i j
    is_task v i j k e =
        elim (dec_lt v t0) [
          | yes l ↦ (r.serving v i j k l (sym (before v l) ∙ e)).is_task
          | no l ↦ (due v i j k (omega arith) e).is_task
        ]

    is_ready : (v i j k : ℕ) → dispatched.at v ≡ job i j k → ρ.ready i j k ≤ v
    is_ready v i j k e =
        elim (dec_lt v t0) [
          | yes l ↦ (r.serving v i j k l (sym (before v l) ∙ e)).is_ready
          | no l ↦ (due v i j k (omega arith) e).pending.ready
        ]

    unfinished : (v i j k : ℕ) → dispatched.at v ≡ job i j k → served dispatched i j k v < ρ.need i j k
    unfinished v i j k e =
        elim (dec_lt v t0) [
          | yes l ↦ omega (arith, served-before i j k v (omega arith), (r.serving v i j k l (sym (before v l) ∙ e)).unfinished)
          | no l ↦ omega (arith, given-served i j k v, (due v i j k (omega arith) e).pending.unfinished)
        ]

    given-most : (i j k t : ℕ) → served dispatched i j k t ≤ ρ.need i j k
    unfolding dispatched
    given-most = served-most dispatched unfinished

    -- an earlier job was ready no later than this one, and is not pending: it has finished
    ordered : (v i j k : ℕ) → dispatched.at v ≡ job i j k → (l : ℕ) → l < k → served dispatched i j l v ≡ ρ.need i j l
    ordered v i j k e l b =
        elim (dec_lt v t0) [
          | yes h ↦ served-before i j l v (omega arith) ∙ (r.serving v i j k h (sym (before v h) ∙ e)).ordered l b
          | no h ↦
              let D : Due tab ρ (given-in v) v i j k = due v i j k (omega arith) e in
              let ready : ρ.ready i j l ≤ v = omega (arith, D.pending.ready, ready-grows tab ρ r.permitted i j l k D.is_task (omega arith)) in
              let finished : ¬ (given i j l (past v) < ρ.need i j l) = λ u. D.first l b (record { ready = ready; unfinished = u }) in
              omega (arith, given-served i j l v, given-most i j l v)
        ]

    -- every rule but the holding rule
    pub dispatched-rules : Rules tab dispatched
    unfolding dispatched
    dispatched-rules =
        record {
          permitted = permitted-same tab ρ dispatched.at r.permitted;
          serving =
              λ v i j k e.
              record {
                is_task = is_task v i j k e;
                is_ready = is_ready v i j k e;
                unfinished = unfinished v i j k e;
                ordered = ordered v i j k e;
              };
        }

    module _ (kept : Kept tab) where
      -- a job that is ready in tick t is of an event up to the t-th, since events are T ≥ 1 apart
      event-within : (i j k t : ℕ) → IsTask tab i j → ρ.ready i j k ≤ t → k ≤ t
      unfolding arrival event_tick period
      event-within i j k t h l =
          omega
          (arith, r.permitted.arrived i j k h, le-mul_of_pos_right k (kept.each i h.owner).period)

      -- from t0 on, no tick goes to lower work while a job is pending
      held : (p t : ℕ) → t0 ≤ t → Pending tab dispatched p t → lower tab p (dispatched.at t) ≡ 0
      unfolding dispatched
      held p t h x =
          let unfinished : given x.i x.j x.k (past t) < ρ.need x.i x.j x.k = omega (arith, given-served x.i x.j x.k t, x.unfinished) in
          let within : x.k ≤ t = event-within x.i x.j x.k t x.is_task x.ready in
          let most : priority tab x.i x.j < rank tab (dispatch tab ρ (given-in t) t) =
          dispatch-rank tab ρ (given-in t) t x.i x.j x.k x.is_task within (record { ready = x.ready; unfinished = unfinished }) in
          rank-lower tab p (dispatched.at t) (omega (arith, ap (rank tab) (after t h), x.urgent))

      -- The holding rule with any task as a, if the beginning keeps it: a stretch that ends by t0 is one of ρ, and to a
      -- longer one the ticks from t0 on add no lower work
      pub dispatched-holds : (u a : ℕ) → HoldsUpTo tab ρ t0 u a → Holds tab dispatched u a
      unfolding lower_ticks sum dispatched
      dispatched-holds u a h s zero x = zero-le
      dispatched-holds u a h s (suc d) x =
          let p : ℕ = priority tab u a in
          elim (dec_lt (s + d) t0) [
            | yes l ↦
                omega (
                  arith,
                  h s (suc d) (omega arith) (λ v b. pending-same ρ dispatched.at t0 before tab p (s + v) (omega arith) (x v b)),
                  lower-same ρ dispatched.at t0 before tab p s (suc d) (omega arith),
                )
            | no l ↦
                omega (arith, dispatched-holds u a h s d (λ v b. x v (omega arith)), held p (s + d) (omega arith) (x d (omega arith)))
          ]

-- the dispatcher goes on legally from a beginning that breaks no rule
pub dispatched-legal : (tab : Table) → Kept tab → (ρ : Run) (t : ℕ) → LegalUpTo tab ρ t → Legal tab (dispatched tab ρ t)
dispatched-legal tab kept ρ t h =
    record {
      rules = dispatched-rules tab ρ t h.rules;
      holds = λ u a x. dispatched-holds tab ρ t h.rules kept u a (h.holds u a x);
    }

-- Any beginning that breaks no rule extends to a legal run
pub extends : (tab : Table) → Kept tab → (ρ : Run) (t : ℕ) → LegalUpTo tab ρ t → Extension tab ρ t
extends tab kept ρ t h =
    record { run = dispatched tab ρ t; goes_on = goes_on tab ρ t; legal = dispatched-legal tab kept ρ t h }
