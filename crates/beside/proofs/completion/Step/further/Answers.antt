-- Where the line and B + C meet t is a sound start, and so is the workload.
use Rattle.std.proofs.Common.{◌≡◌, ℕ, max, ◌<◌, ◌∙◌, arith}
use Rattle.table.specs.Table.{Table}
use native.Mathlib.Decide.{dec_lt}
use Rattle.std.proofs.Math.Nat.{max-eq_left, max-eq_right}
use Rattle.periods.specs.Phase.{ceil}
use Rattle.jitter.specs.Start.{Sound}
use Rattle.jitter.proofs.Start.{workload-some, sound-next}
use Rattle.jitter.proofs.Line.{line-sound}
use Rattle.beside.proofs.Passes.{meeting}
use Rattle.beside.proofs.completion.Step.further.Goals as goal

pub overflow_sub-left : goal.overflow_sub-left
overflow_sub-left c = omega (arith, (meeting c.args.self.now (c.from-frame.ensures ∙ c.frame.ensures) c.requires.own_value c.requires.value_value c.requires.value_le_horizon c.requires.pass).slope)

pub overflow_add-meet : goal.overflow_add-meet
overflow_add-meet c = omega (arith, (meeting c.args.self.now (c.from-frame.ensures ∙ c.frame.ensures) c.requires.own_value c.requires.value_value c.requires.value_le_horizon c.requires.pass).low)

pub overflow_mul-meet : goal.overflow_mul-meet
overflow_mul-meet c = omega (arith, (meeting c.args.self.now (c.from-frame.ensures ∙ c.frame.ensures) c.requires.own_value c.requires.value_value c.requires.value_le_horizon c.requires.pass).high)

pub overflow_add-meet-2 : goal.overflow_add-meet-2
overflow_add-meet-2 c =
    let m = (meeting c.args.self.now (c.from-frame.ensures ∙ c.frame.ensures) c.requires.own_value c.requires.value_value c.requires.value_le_horizon c.requires.pass) in
    omega (arith, m.high, m.jitters)

pub overflow_sub-meet : goal.overflow_sub-meet
overflow_sub-meet c = omega (arith, (meeting c.args.self.now (c.from-frame.ensures ∙ c.frame.ensures) c.requires.own_value c.requires.value_value c.requires.value_le_horizon c.requires.pass).slope)

pub overflow_add-meet-3 : goal.overflow_add-meet-3
overflow_add-meet-3 c =
    let m = (meeting c.args.self.now (c.from-frame.ensures ∙ c.frame.ensures) c.requires.own_value c.requires.value_value c.requires.value_le_horizon c.requires.pass) in
    omega (arith, m.high, m.jitters, m.few)

pub nonzero_div-meet : goal.nonzero_div-meet
nonzero_div-meet c = omega (arith, (meeting c.args.self.now (c.from-frame.ensures ∙ c.frame.ensures) c.requires.own_value c.requires.value_value c.requires.value_le_horizon c.requires.pass).slope)

-- the greater of the two starts
either : {tab : Table} {u : ℕ} (m n : ℕ) → (m < n → Sound tab u n) → Sound tab u m → Sound tab u (max m n)
either {tab} {u} m n later now = go (dec_lt m n)
  where
    go : Dec (m < n) → Sound tab u (max m n)
    go (yes l) = let e : max m n ≡ n = max-eq_right (omega arith) in rw e (later l)
    go (no g) = let e : max m n ≡ m = max-eq_left (omega arith) in rw e now

pub returns-clause-sound : goal.returns-clause-sound
unfolding ceil
returns-clause-sound c =
    let x = c.args.self.now in
    let r = x.task.single_row in
    let q = c.requires in
    let m = (meeting c.args.self.now (c.from-frame.ensures ∙ c.frame.ensures) c.requires.own_value c.requires.value_value c.requires.value_le_horizon c.requires.pass) in
    let fr = c.from-frame.ensures ∙ c.frame.ensures in
    rw c.max.ensures
    (either _ _ (λ h. line-sound r.table.kept r.single x.task.owner q.sound q.pass.line (rw fr at m.slope)
    (rw (fr, q.own_value)) (omega (arith, h, q.value_value, workload-some r.table.kept r.single x.task.owner x.t)))
    (rw q.value_value (sound-next r.table.kept r.single x.task.owner q.sound)))
