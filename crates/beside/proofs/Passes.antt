-- A pass over the rivals, task by task: what they request at t, and the line below it.
use mathlib.Core.Path.{◌≡◌, subst}
use Prim.Native.Nat.{ℕ, ◌+◌, ◌*◌, ◌/◌, ◌^◌, ◌≤◌, ◌<◌}
use native.Mathlib.Nat.{le_refl, mul-le-mul}
use native.Mathlib.Omega.{arith}
use Rattle.table.specs.Sum.{sum}
use Rattle.table.specs.Table.{Table, transactions, period, jitter, blocking, time}
use Rattle.table.specs.Limits.{horizon, transactions_most}
use Rattle.table.specs.Kept.{Kept}
use Rattle.table.proofs.Sum.{sum-next, sum_grow}
use Rattle.periods.specs.Phase.{ceil}
use Rattle.jitter.specs.Request.{request}
use Rattle.jitter.specs.Plain.{Single, request_of, rival_request, workload}
use Rattle.jitter.specs.Start.{rival_load, load, Line}
use Rattle.jitter.proofs.Line.{line-none, line-sloped, line-level}
use Rattle.jitter.proofs.Ranges.{jitter-small, requests-most, line_small}
use Rattle.row.specs.Row.{table_of}
use Rattle.beside.specs.declared.completion.Pass.{Pass}
use Rattle.beside.specs.declared.completion.Step.{Step}
use Rattle.beside.specs.Lent.{IsRival}
use Rattle.beside.specs.Search.{IsPass}
use Rattle.beside.proofs.Fields.{rival-counts, other-counts-not}

-- what a pass that has seen so much has with task i, by its load or by what it requests at t
abbrev pub sloped_of : Table → (t i : ℕ) → Pass → Pass
sloped_of tab t i seen =
    record {
      all = seen.all + ceil (t + jitter tab i 0) (period tab i) * time tab i 0 0;
      slope = seen.slope + tab.frame / period tab i * time tab i 0 0;
      jitters = seen.jitters + jitter tab i 0 * (tab.frame / period tab i * time tab i 0 0);
      level = seen.level;
    }

abbrev pub level_of : Table → (t i : ℕ) → Pass → Pass
level_of tab t i seen =
    record {
      all = seen.all + ceil (t + jitter tab i 0) (period tab i) * time tab i 0 0;
      slope = seen.slope;
      jitters = seen.jitters;
      level = seen.level + ceil (t + jitter tab i 0) (period tab i) * time tab i 0 0;
    }

-- how large its numbers are
pub record Small (tab : Table) (seen : Pass) : Type 0 where
  pub all : seen.all ≤ transactions_most * 2 ^ 49
  pub slope : seen.slope < tab.frame
  pub jitters : seen.jitters ≤ 2 ^ 48
  pub level : seen.level ≤ transactions_most * 2 ^ 49

module _ {tab : Table} (kept : Kept tab) where
  pub pass-none : (u t : ℕ) → IsPass tab u t 0 (record { all = 0; slope = 0; jitters = 0; level = 0 })
  unfolding sum
  pass-none u t = record { all = omega arith; line = line-none kept }

  module _ {u t i : ℕ} (h : i < transactions tab) {seen : Pass} (pass : IsPass tab u t i seen) where
    abbrev here : ℕ
    here = ceil (t + jitter tab i 0) (period tab i) * time tab i 0 0

    abbrev demanded : ℕ
    demanded = tab.frame / period tab i * time tab i 0 0

    module _ (rival : IsRival tab u i) where
      request-is : rival_request tab u t i ≡ here
      unfolding rival_request request_of request
      request-is = rival-counts tab u i here rival

      load_is : rival_load tab u i ≡ demanded
      unfolding rival_load
      load_is = rival-counts tab u i demanded rival

      -- a rival by its load, and by what it requests
      pub pass-sloped : Single tab → IsPass tab u t (i + 1) (sloped_of tab t i seen)
      pass-sloped single =
          record {
            all = omega (arith, pass.all, sum-next i (rival_request tab u t), request-is);
            line =
                subst (λ (x : ℕ). Line tab u t (i + 1) (seen.slope + x) (seen.jitters + jitter tab i 0 * x) seen.level) load_is
                (line-sloped kept h pass.line (jitter-small kept single h));
          }

      pub pass-level : IsPass tab u t (i + 1) (level_of tab t i seen)
      pass-level =
          record {
            all = omega (arith, pass.all, sum-next i (rival_request tab u t), request-is);
            line =
                subst (λ (x : ℕ). Line tab u t (i + 1) seen.slope seen.jitters (seen.level + x)) request-is
                (line-level kept h pass.line);
          }

    -- any other task adds nothing
    pub pass-over : ¬ (IsRival tab u i) → IsPass tab u t (i + 1) seen
    unfolding rival_request
    pass-over other =
        let none : rival_request tab u t i ≡ 0 = other-counts-not tab u i (request_of tab i t) other in
        let same : seen.level + rival_request tab u t i ≡ seen.level = omega arith in
        record {
          all = omega (arith, pass.all, sum-next i (rival_request tab u t), none);
          line = subst (Line tab u t (i + 1) seen.slope seen.jitters) same (line-level kept h pass.line);
        }

  pub pass-small : Single tab → {u t n : ℕ} {seen : Pass} → n ≤ transactions tab → load tab u < tab.frame → t ≤ horizon → IsPass tab u t n seen → Small tab seen
  pass-small single {u} {t} {n} few short low pass =
      let (slope, jitters, level) = line_small kept single few short low pass.line in
      record {
        all = omega (arith, pass.all, sum_grow n (transactions tab) (rival_request tab u t) few, requests-most kept single u low);
        slope = slope;
        jitters = jitters;
        level = level;
      }

-- ---- as the code's numbers

-- a pass that has seen so much, and with a rival that requests so much at t, has that jitter and demands so much in a major frame: its
-- numbers stay small, in the line by its load or by what it requests
pub record More (tab : Table) (u t i : ℕ) (seen : Pass) (request jitter demand : ℕ) : Type 0 where
  pub all : seen.all + request ≤ transactions_most * 2 ^ 49
  pub slope : seen.slope + demand < 2 ^ 24
  pub jitters : seen.jitters + jitter * demand ≤ 2 ^ 48
  pub level : seen.level + request ≤ transactions_most * 2 ^ 49
  pub sloped : IsPass tab u t (i + 1) (record { all = seen.all + request; slope = seen.slope + demand; jitters = seen.jitters + jitter * demand; level = seen.level })
  pub flat : IsPass tab u t (i + 1) (record { all = seen.all + request; slope = seen.slope; jitters = seen.jitters; level = seen.level + request })

pub more :
    (x : Step) {i : ℕ} → i < transactions (table_of x.task.row.now) → IsRival (table_of x.task.row.now) x.task.u i
    → {seen : Pass} → IsPass (table_of x.task.row.now) x.task.u x.t i seen
    → {jobs request jit demand : ℕ}
    → jobs ≡ ceil (x.t + jitter (table_of x.task.row.now) i 0) (period (table_of x.task.row.now) i)
    → request ≡ jobs * time (table_of x.task.row.now) i 0 0
    → jit ≡ jitter (table_of x.task.row.now) i 0
    → demand ≡ (table_of x.task.row.now).frame / period (table_of x.task.row.now) i * time (table_of x.task.row.now) i 0 0
    → More (table_of x.task.row.now) x.task.u x.t i seen request jit demand
more x {i} h rival {seen} pass d e f g =
    let tab = table_of x.task.row.now in
    let kept = x.task.single_row.table.kept in
    let single = x.task.single_row.single in
    let sloped = pass-sloped kept h pass rival single in
    let flat = pass-level kept h pass rival in
    let steep : Small tab (sloped_of tab x.t i seen) = pass-small kept single (omega arith) x.room x.within sloped in
    let level : Small tab (level_of tab x.t i seen) = pass-small kept single (omega arith) x.room x.within flat in
    rw (e, d, f, g)
    (record {
      all = steep.all;
      slope = omega (arith, steep.slope, kept.frame);
      jitters = steep.jitters;
      level = level.level;
      sloped = sloped;
      flat = flat;
    })

-- where B + C and the line over all rivals meet: each number on the way is small
pub record Meeting (frame own : ℕ) (seen : Pass) : Type 0 where
  pub slope : seen.slope < frame
  pub few : frame ≤ 2 ^ 24
  pub low : own + seen.level ≤ horizon
  pub high : frame * (own + seen.level) ≤ 2 ^ 48
  pub jitters : seen.jitters ≤ 2 ^ 48

pub meeting :
    (x : Step) {frame own value : ℕ}
    → frame ≡ (table_of x.task.row.now).frame
    → own ≡ blocking (table_of x.task.row.now) x.task.u 0 + time (table_of x.task.row.now) x.task.u 0 0
    → value ≡ workload (table_of x.task.row.now) x.task.u x.t
    → value ≤ horizon
    → {seen : Pass} → IsPass (table_of x.task.row.now) x.task.u x.t (transactions (table_of x.task.row.now)) seen
    → Meeting frame own seen
unfolding workload
meeting x {own = own} g e f l {seen} pass =
    let kept = x.task.single_row.table.kept in
    let small = pass-small kept x.task.single_row.single (le_refl _) x.room x.within pass in
    let within : own + seen.level ≤ horizon = omega (arith, e, f, l, pass.line.flat) in
    rw g
    (record {
      slope = small.slope;
      few = omega (arith, kept.frame);
      low = within;
      high = mul-le-mul {n₂ = 2 ^ 24} {m₂ = 2 ^ 24} (omega (arith, kept.frame)) (omega (arith, within));
      jitters = small.jitters;
    })

-- B + C and what all rivals request are the workload
pub workload-is : {tab : Table} {u t own : ℕ} {seen : Pass} → own ≡ blocking tab u 0 + time tab u 0 0 → IsPass tab u t (transactions tab) seen → own + seen.all ≡ workload tab u t
unfolding workload
workload-is e pass = omega (arith, e, pass.all)
