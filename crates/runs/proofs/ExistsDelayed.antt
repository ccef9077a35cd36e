-- Permitted choices written out, for any table that keeps its bounds: every job is ready n after its arrival, where no J is
-- below n, and needs all of C. And a beginning that breaks no rule: idling through n + b ticks, where no B is below b.
use mathlib.Core.Path.{◌≡◌, refl}
use Prim.Native.Nat.{ℕ, ◌+◌, ◌*◌, ◌≤◌}
use native.Mathlib.Decide.{dec_lt}
use native.Mathlib.Omega.{arith}
use Rattle.table.specs.Table.{Table, IsTask, period, modes, offset, jitter, blocking, priority, time}
use Rattle.table.specs.Kept.{Kept}
use Rattle.runs.specs.Run.{idle, job, Run, event_tick, arrival}
use Rattle.runs.specs.Choices.{Permitted}
use Rattle.runs.specs.Beginning.{LegalUpTo}
use Rattle.runs.proofs.Exists.{lower-most}

-- these first events; each job is ready n after its arrival and needs all of C; the processor idles
unfoldable pub delayed : Table → (ℕ → ℕ) → ℕ → Run
delayed tab first n =
    record {
      event = first;
      mode = λ i k. 0;
      ready = λ i j k. first i + k * period tab i + offset tab i j + n;
      need = λ i j k. time tab i 0 j;
      at = λ v. idle;
    }

module _ (tab : Table) (kept : Kept tab) (first : ℕ → ℕ) (n : ℕ) (delay : (i j : ℕ) → IsTask tab i j → n ≤ jitter tab i j) where
  pub delayed-permitted : Permitted tab (delayed tab first n)
  unfolding delayed arrival event_tick modes
  delayed-permitted =
      record {
        mode = λ i k h. (kept.each i h).some_mode;
        steady = λ i k h. refl;
        arrived = λ i j k h. omega arith;
        prompt = λ i j k h. omega (arith, delay i j h);
        in_order = λ i j k h. omega arith;
        need_most = λ i j k h. omega arith;
        need_some = λ i j k h l. l;
      }

  -- no job is ready before n, so that a stretch by n + b has at most b ticks
  pub idle-beginning : (b : ℕ) → ((i j : ℕ) → IsTask tab i j → b ≤ blocking tab i j) → LegalUpTo tab (delayed tab first n) (n + b)
  unfolding delayed
  idle-beginning b lower =
      record {
        rules =
            record {
              permitted = delayed-permitted;
              serving = λ v i j k l e. absurd (serves-none e);
            };
        holds = λ u a x s d l e.
            elim (dec_lt 0 d) [
              | yes q ↦ omega (arith, lower-most tab (delayed tab first n) (priority tab u a) s d, lower u a x, (e 0 q).ready)
              | no q ↦ omega (arith, lower-most tab (delayed tab first n) (priority tab u a) s d)
            ];
      }
    where
      serves-none : {i j k : ℕ} → idle ≡ job i j k → ⊥
      serves-none e = let z : ◌≡◌ {A = ℕ} 0 1 = cc in omega arith
