-- Why a deadline below the offset plus the greatest time is refused: in no run that keeps the rules a job which takes that time has finished
-- by then.
use mathlib.Core.Path.{◌≡◌, refl}
use mathlib.Core.List.{[], ◌∷◌}
use Prim.Native.Nat.{ℕ, zero, suc, ◌+◌, ◌*◌, ◌≤◌, ◌<◌}
use native.Mathlib.Omega.{arith}
use lib.Dec.{lit<, lit≤}
use lib.ListN.{get_or}
use Rattle.table.specs.Table.{Table, IsTask, modes, deadline}
use Rattle.table.specs.Keepable.{greatest_time, IsKeepable}
use Rattle.table.specs.Sample.{plain, lone}
use Rattle.runs.specs.Run.{idle, job, Run, event_tick, arrival, served, Finished}
use Rattle.runs.specs.Choices.{Permitted}
use Rattle.runs.specs.Legal.{Servable, Rules}
use Rattle.runs.specs.Computing.{ticking}
use Rattle.runs.proofs.Jobs.{done-since}
use Rattle.runs.proofs.Task.{stream, served-done}

module _ (tab : Table) (ρ : Run) (rules : Rules tab ρ) (i j : ℕ) (here : IsTask tab i j) where
  pub unkept :
      ¬ IsKeepable tab i j
      → (k : ℕ) → 0 < ρ.need i j k → ρ.need i j k ≡ greatest_time tab i j → ¬ Finished ρ i j k (event_tick tab ρ i k + deadline tab i j)
  unfolding stream arrival
  unkept short k some longest finished =
      let t : ℕ = event_tick tab ρ i k + deadline tab i j in
      short (omega (arith, served-done tab ρ rules i j here k t, done-since (stream tab ρ rules i j here) k t, rules.permitted.arrived i j k here))

-- ---- offset 4, time 3, deadline 6: served as soon as it is there, the first job has finished at 7, and not at 6

abbrev tick_short : Table
tick_short = lone 10 (plain 4 3 5 6)

abbrev at_once : Run
at_once =
    record {
      event = λ i. 0;
      mode = λ i k. 0;
      ready = λ i j k. k * 10 + 4;
      need = λ i j k. 3;
      at = λ v. get_or (idle ∷ idle ∷ idle ∷ idle ∷ job 0 0 0 ∷ job 0 0 0 ∷ job 0 0 0 ∷ []) v idle;
    }

only : (i j : ℕ) → IsTask tick_short i j → (i ≡ 0) × (j ≡ 0)
unfolding ticking
only zero zero is = (refl, refl)
only zero (suc j) is = absurd (omega (arith, is.place))
only (suc i) j is = absurd (omega (arith, is.owner))

permitted : Permitted tick_short at_once
unfolding ticking
permitted =
    record {
      mode = mode;
      steady = λ i k h. refl;
      arrived = λ i j k is. rw ((only i j is).0, (only i j is).1) (omega arith);
      prompt = λ i j k is. rw ((only i j is).0, (only i j is).1) (omega arith);
      in_order = λ i j k is. omega arith;
      need_most = λ i j k is. rw ((only i j is).0, (only i j is).1) (omega arith);
      need_some = λ i j k is some. lit< tt;
    }
  where
    mode : (i k : ℕ) → i < 1 → 0 < modes tick_short i
    mode zero k h = lit< tt
    mode (suc i) k h = absurd (omega arith)

none : {i j k : ℕ} → idle ≡ job i j k → ⊥
none e = let z : ◌≡◌ {A = ℕ} 0 1 = cc in omega arith

first : (v i j k : ℕ) → 4 ≤ v → served at_once 0 0 0 v < 3 → job 0 0 0 ≡ job i j k → Servable tick_short at_once v i j k
unfolding ticking
first v i j k there unfinished e =
    let same-i : i ≡ 0 = cc in
    let same-j : j ≡ 0 = cc in
    let same-k : k ≡ 0 = cc in
    rw (same-i, same-j, same-k)
    record {
      is_task = record { owner = lit< tt; place = lit< tt };
      is_ready = there;
      unfinished = unfinished;
      ordered = λ l h. absurd (omega arith);
    }

serving : (v i j k : ℕ) → at_once.at v ≡ job i j k → Servable tick_short at_once v i j k
unfolding ticking
serving zero i j k e = absurd (none e)
serving (suc zero) i j k e = absurd (none e)
serving (suc (suc zero)) i j k e = absurd (none e)
serving (suc (suc (suc zero))) i j k e = absurd (none e)
serving (suc (suc (suc (suc zero)))) i j k e = first 4 i j k (lit≤ tt) (lit< tt) e
serving (suc (suc (suc (suc (suc zero))))) i j k e = first 5 i j k (lit≤ tt) (lit< tt) e
serving (suc (suc (suc (suc (suc (suc zero)))))) i j k e = first 6 i j k (lit≤ tt) (lit< tt) e
serving (suc (suc (suc (suc (suc (suc (suc v))))))) i j k e = absurd (none e)

not-by-6 : ¬ Finished at_once 0 0 0 6
unfolding ticking greatest_time
not-by-6 =
    unkept tick_short at_once (record { permitted = permitted; serving = serving }) 0 0 (record { owner = lit< tt; place = lit< tt })
    (λ keepable. let room : 7 ≤ 6 = keepable in omega arith) 0 (lit< tt) refl

by-7 : Finished at_once 0 0 0 7
unfolding ticking
by-7 = refl
