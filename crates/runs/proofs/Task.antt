-- The jobs of one task of a table, in a run that keeps the rules, as a stream of jobs.
use mathlib.Core.Path.{◌≡◌, refl, sym, ◌∙◌}
use Prim.Native.Nat.{ℕ, ◌≤◌}
use native.Mathlib.Decide.{ℕ_discrete}
use native.Mathlib.Omega.{arith}
use Rattle.table.specs.Sum.{sum}
use Rattle.table.specs.Table.{Table, IsTask, period, offset, jitter}
use Rattle.table.proofs.Sum.{sum-ext, sum_grow}
use Rattle.analysis.specs.Choice.{when}
use Rattle.runs.specs.Run.{Slot, idle, job, Run, event_tick, arrival, serves, served}
use Rattle.runs.specs.Legal.{Rules}
use Rattle.runs.proofs.Jobs.{Look, none, one, is, Stream, done, done-le}

look_by : {A B : Type 0} → Dec A → Dec B → ℕ → Look
look_by (yes d) (yes e) k = one k
look_by (yes d) (no e) k = none
look_by (no d) e k = none

-- what a tick does for task j of transaction i
pub look : (i j : ℕ) → Slot → Look
look i j idle = none
look i j (job i' j' k) = look_by (ℕ_discrete i' i) (ℕ_discrete j' j) k

pub look_self : (i j k : ℕ) → look i j (job i j k) ≡ one k
unfolding look look_by
look_self i j k = go (ℕ_discrete i i) (ℕ_discrete j j)
  where
    go : (d : Dec (i ≡ i)) (e : Dec (j ≡ j)) → look_by d e k ≡ one k
    go (yes d) (yes e) = refl
    go (yes d) (no e) = absurd (e refl)
    go (no d) e = absurd (d refl)

pub look-job : (i j k : ℕ) (l : Slot) → look i j l ≡ one k → l ≡ job i j k
unfolding look look_by
look-job i j k idle h = cc
look-job i j k (job i' j' k') h = go (ℕ_discrete i' i) (ℕ_discrete j' j) h
  where
    go : (d : Dec (i' ≡ i)) (e : Dec (j' ≡ j)) → look_by d e k' ≡ one k → job i' j' k' ≡ job i j k
    go (yes d) (yes e) h = cc
    go (yes d) (no e) h = cc
    go (no d) e h = cc

serves-look : (i j k : ℕ) (l : Slot) → serves i j k l ≡ is k (look i j l)
unfolding serves look look_by is when
serves-look i j k idle = refl
serves-look i j k (job i' j' k') = go (ℕ_discrete i' i) (ℕ_discrete j' j)
  where
    go : (d : Dec (i' ≡ i)) (e : Dec (j' ≡ j)) → when d (when e (when (ℕ_discrete k' k) 1)) ≡ is k (look_by d e k')
    go (yes d) (yes e) = refl
    go (yes d) (no e) = refl
    go (no d) e = refl

pub served-look : (ρ : Run) (i j k t : ℕ) → served ρ i j k t ≡ sum t (λ v. is k (look i j (ρ.at v)))
unfolding served
served-look ρ i j k t = sum-ext t (λ v l. serves-look i j k (ρ.at v))

unfoldable pub stream : (tab : Table) (ρ : Run) → Rules tab ρ → (i j : ℕ) → IsTask tab i j → Stream
unfolding arrival event_tick
stream tab ρ rules i j here =
    record {
      T = period tab i;
      O = offset tab i j;
      J = jitter tab i j;
      e = ρ.event i;
      ready = ρ.ready i j;
      need = ρ.need i j;
      look = λ v. look i j (ρ.at v);
      arrived = λ k. rules.permitted.arrived i j k here;
      prompt = λ k. omega (arith, rules.permitted.prompt i j k here);
      in_order = λ k. rules.permitted.in_order i j k here;
      is_ready = λ v k o. (rules.serving v i j k (look-job i j k (ρ.at v) o)).is_ready;
      unfinished = λ v k o. rw (served-look ρ i j k v) at (rules.serving v i j k (look-job i j k (ρ.at v) o)).unfinished;
      ordered = λ v k o l b. sym (served-look ρ i j l v) ∙ (rules.serving v i j k (look-job i j k (ρ.at v) o)).ordered l b;
    }

module _ (tab : Table) (ρ : Run) (rules : Rules tab ρ) (i j : ℕ) (here : IsTask tab i j) where
  pub served-done : (k t : ℕ) → served ρ i j k t ≡ done (stream tab ρ rules i j here) k t
  unfolding done stream
  served-done k t = served-look ρ i j k t

  pub served-le : (k t : ℕ) → served ρ i j k t ≤ ρ.need i j k
  unfolding stream
  served-le k t = rw (served-done k t) (done-le (stream tab ρ rules i j here) k t)

pub served-mono : (ρ : Run) (i j k t t' : ℕ) → t ≤ t' → served ρ i j k t ≤ served ρ i j k t'
unfolding served
served-mono ρ i j k t t' l = sum_grow t t' (λ v. serves i j k (ρ.at v)) l
