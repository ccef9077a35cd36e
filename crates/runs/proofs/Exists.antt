-- Legal runs are not empty: any permitted choices belong to one. And a beginning breaks no rule exactly where it is that
-- of some legal run: `extends` is one half of this, `begun` the other.
use mathlib.Core.Path.{◌≡◌, sym, ◌∙◌, subst}
use Prim.Native.Nat.{ℕ, zero, suc, ◌+◌, ◌≤◌, ◌<◌, zero-le}
use native.Mathlib.Decide.{dec_lt}
use native.Mathlib.Omega.{arith}
use Rattle.table.specs.Sum.{sum}
use Rattle.table.specs.Table.{Table, priority}
use Rattle.table.specs.Kept.{Kept}
use Rattle.analysis.specs.Choice.{when}
use Rattle.runs.specs.Run.{Slot, idle, job, Run}
use Rattle.runs.specs.Legal.{Rules, Legal, lower, lower_ticks, Stretch}
use Rattle.runs.specs.Choices.{Permitted}
use Rattle.runs.specs.Beginning.{RulesUpTo, LegalUpTo, Extension}
use Rattle.runs.proofs.ExtendTicks.{with_ticks, permitted-same, served-same, pending-same, lower-same}
use Rattle.runs.proofs.Extend.{extends}

-- lower work takes no more ticks than there are
pub lower-most : (tab : Table) (ρ : Run) (p s d : ℕ) → lower_ticks tab ρ p s d ≤ d
unfolding lower_ticks sum lower when
lower-most tab ρ p s zero = zero-le
lower-most tab ρ p s (suc d) = go (ρ.at (s + d)) (lower-most tab ρ p s d)
  where
    go : (x : Slot) → lower_ticks tab ρ p s d ≤ d → lower_ticks tab ρ p s d + lower tab p x ≤ suc d
    go idle h = omega arith
    go (job i j k) h = by (dec_lt (priority tab i j) p)
      where
        by : (e : Dec (priority tab i j < p)) → lower_ticks tab ρ p s d + when e 1 ≤ suc d
        by (yes e) = omega arith
        by (no e) = omega arith

-- before tick 0 no rule about ticks is broken
pub nothing_yet : (tab : Table) (ρ : Run) → Permitted tab ρ → LegalUpTo tab ρ 0
nothing_yet tab ρ h =
    record {
      rules =
          record {
            permitted = h;
            serving = λ v i j k l. absurd (omega arith);
          };
      holds = λ u a x s d l e. omega (arith, lower-most tab ρ (priority tab u a) s d);
    }

-- Any first events, modes, ready ticks and needs that are permitted belong to a legal run
pub exists : (tab : Table) → Kept tab → (ρ : Run) → Permitted tab ρ → Extension tab ρ 0
exists tab kept ρ h = extends tab kept ρ 0 (nothing_yet tab ρ h)

-- Every beginning of a legal run breaks no rule; of a run that agrees with it before t too, since no rule up to t looks
-- at a later tick
pub begun : (tab : Table) (ρ : Run) (t : ℕ) → Extension tab ρ t → LegalUpTo tab ρ t
begun tab ρ t x = go legal
  where
    f : ℕ → Slot
    f = x.run.at

    before : (v : ℕ) → v < t → f v ≡ ρ.at v
    before = x.goes_on.before

    -- the same choices, so the same run but for its ticks
    legal : Legal tab (with_ticks ρ f)
    legal =
        subst
        (Legal tab)
        (λ y.
        record {
          event = x.goes_on.event y;
          mode = x.goes_on.mode y;
          ready = x.goes_on.ready y;
          need = x.goes_on.need y;
          at = f;
        }
        )
        x.legal

    rules : Rules tab (with_ticks ρ f) → RulesUpTo tab ρ t
    rules r =
        record {
          permitted = permitted-same tab (with_ticks ρ f) ρ.at r.permitted;
          serving =
              λ v i j k l e.
              let x = r.serving v i j k (before v l ∙ e) in
              record {
                is_task = x.is_task;
                is_ready = x.is_ready;
                unfinished = omega (arith, served-same ρ f t before i j k v (omega arith), x.unfinished);
                ordered = λ q b. omega (arith, served-same ρ f t before i j q v (omega arith), x.ordered q b);
              };
        }

    go : Legal tab (with_ticks ρ f) → LegalUpTo tab ρ t
    go y =
        record {
          rules = rules y.rules;
          holds =
              λ u a q s d l e.
              let p : ℕ = priority tab u a in
              let stretch : Stretch tab (with_ticks ρ f) p s d =
              λ v b. pending-same (with_ticks ρ f) ρ.at t (λ w c. sym (before w c)) tab p (s + v) (omega arith) (e v b) in
              omega (arith, lower-same ρ f t before tab p s d l, y.holds u a q s d stretch);
        }
