-- Two runs with the same choices that agree in the ticks before t0: up to t0 the same is served and pending, and the same
-- ticks go to lower work.
use mathlib.Core.Path.{◌≡◌, ap}
use Prim.Native.Nat.{ℕ, ◌+◌, ◌≤◌, ◌<◌}
use native.Mathlib.Omega.{arith}
use Rattle.table.specs.Table.{Table}
use Rattle.table.proofs.Sum.{sum-ext}
use Rattle.runs.specs.Run.{Slot, Run, event_tick, arrival, serves, served}
use Rattle.runs.specs.Choices.{Permitted}
use Rattle.runs.specs.Legal.{Pending, lower, lower_ticks}

-- the choices of ρ with these ticks
abbrev pub with_ticks : Run → (ℕ → Slot) → Run
with_ticks ρ f = record { event = ρ.event; mode = ρ.mode; ready = ρ.ready; need = ρ.need; at = f }

-- are as permitted as with any other
pub permitted-same : (tab : Table) (ρ : Run) (f : ℕ → Slot) → Permitted tab ρ → Permitted tab (with_ticks ρ f)
unfolding arrival event_tick
permitted-same tab ρ f x =
    record {
      mode = x.mode;
      steady = x.steady;
      arrived = x.arrived;
      prompt = λ i j k h. omega (arith, x.prompt i j k h);
      in_order = x.in_order;
      need_most = x.need_most;
      need_some = x.need_some;
    }

module _ (ρ : Run) (f : ℕ → Slot) (t0 : ℕ) (same : (v : ℕ) → v < t0 → f v ≡ ρ.at v) where
  pub served-same : (i j k t : ℕ) → t ≤ t0 → served (with_ticks ρ f) i j k t ≡ served ρ i j k t
  unfolding served
  served-same i j k t h = sum-ext t λ v l. ap (serves i j k) (same v (omega arith))

  pub pending-same : (tab : Table) (p t : ℕ) → t ≤ t0 → Pending tab (with_ticks ρ f) p t → Pending tab ρ p t
  pending-same tab p t h x =
      record {
        i = x.i;
        j = x.j;
        k = x.k;
        is_task = x.is_task;
        urgent = x.urgent;
        ready = x.ready;
        unfinished = omega (arith, served-same x.i x.j x.k t h, x.unfinished);
      }

  pub lower-same :
      (tab : Table) (p s d : ℕ) → s + d ≤ t0 → lower_ticks tab (with_ticks ρ f) p s d ≡ lower_ticks tab ρ p s d
  unfolding lower_ticks
  lower-same tab p s d h = sum-ext d λ v l. ap (lower tab p) (same (s + v) (omega arith))
