-- The loop keeps the greatest charge of the tasks before c, after what came before the mode. Assumes nothing.
use mathlib.Core.Path.{◌≡◌, refl}
use native.Mathlib.Omega.{arith}
use Rattle.table.specs.Table.{tasks}
use Rattle.analysis.specs.Who.{in_mode}
use Rattle.answers.proofs.Most.{in-mode-next}
use Rattle.answers.proofs.Readings.{setting-in}
use Rattle.answers.proofs.lent.Linked.mode.Goals as goal

pub loop-c-init : goal.loop-c-init
unfolding in_mode
loop-c-init c = refl

pub invariant_of-setting : goal.invariant_of-setting
invariant_of-setting c =
    let split = rw (← c.self.view_is) at c.requires.split in
    setting-in c.self.invariant.0 c.self.invariant.1 (record { owner = split.owner; place = omega (arith, split.count) })
    (rw (← c.self.view_is) at c.requires.m_bound)
    split

pub loop-c-preserved : goal.loop-c-preserved
loop-c-preserved c = rw (in-mode-next, ← c.loop-c.invariant, ← c.self.view_is) c.rival-most.ensures

pub returns : goal.returns
returns c =
    let all : c.loop-c.c ≡ tasks c.args.self.now.tab c.args.i = omega (arith, c.requires.split.count) in
    rw (← all) c.loop-c.invariant
