-- Each way out is a case of the rest: by the kind of charge, whether a whole period has passed, and whether the phase has.
-- Assumes nothing.
use mathlib.Core.Path.{sym}
use native.Mathlib.Omega.{arith}
use Prim.Native.Nat.{◌<◌}
use Rattle.charge.proofs.Split.{released-passed, released-waiting, imposed-first, imposed-passed, imposed-waiting}
use Rattle.answers.proofs.charges.Split.rest_of.Goals as goal

pub returns-then-phase-self : goal.returns-then-phase-self
returns-then-phase-self c =
    let x = c.args.self in
    rw c.if-whole.true (sym (released-passed x.periods x.period x.rest _ _ c.if-phase-self.true))

pub returns-else-phase-self : goal.returns-else-phase-self
returns-else-phase-self c =
    let x = c.args.self in
    rw c.if-whole.true (sym (released-waiting x.periods x.period x.rest c.args.phase c.args.weight c.if-phase-self.false))

pub returns-then-self-eq0 : goal.returns-then-self-eq0
returns-then-self-eq0 c =
    let a = c.args in
    rw (c.if-whole.false, c.if-self-eq0.true)
    (omega (arith, imposed-first a.self.period a.self.rest a.phase a.weight))

pub returns-then-phase-self-2 : goal.returns-then-phase-self-2
returns-then-phase-self-2 c =
    let a = c.args in
    let some : 0 < a.self.periods = omega arith in
    rw c.if-whole.false
    (omega (arith, imposed-passed a.self.periods a.self.period a.self.rest a.phase a.weight some c.if-phase-self-2.true))

pub returns : goal.returns
returns c =
    let a = c.args in
    let some : 0 < a.self.periods = omega arith in
    rw c.if-whole.false
    (omega (arith, imposed-waiting a.self.periods a.self.period a.self.rest a.phase a.weight some c.if-phase-self-2.false))
