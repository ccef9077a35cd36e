-- `Walk::candidate` meets its contract: a candidate has its one turn, and another task has none.
use Rattle.std.proofs.Common.{refl, sym, ◌∙◌}
use Rattle.periods.specs.Charge.{imposed}
use Rattle.analysis.specs.Rival.{candidate?}
use Rattle.answers.proofs.Walks.{going-ends, candidate-yes, candidate-no, tested-true, tested-false}
use Rattle.answers.proofs.walk.Walk.candidate.Goals as goal

pub turn-requires-clause-setting : goal.turn-requires-clause-setting
turn-requires-clause-setting c =
    record {
      mode = c.requires.m_bound;
      runs = c.requires.runs;
      place = c.requires.c_bound;
      candidate = tested-true (candidate? c.args.cells.now.tab _ _ _ _) (sym c.is_candidate.ensures ∙ c.if-is_candidate.true);
    }

pub returns-then-is_candidate : goal.returns-then-is_candidate
returns-then-is_candidate c =
    let is = tested-true (candidate? c.args.cells.now.tab _ _ _ _) (sym c.is_candidate.ensures ∙ c.if-is_candidate.true) in
    rw (candidate-yes imposed _ _ _ _ _ _ _ is) c.turn.ensures

pub returns-else-is_candidate : goal.returns-else-is_candidate
returns-else-is_candidate c =
    let not = tested-false (candidate? c.args.cells.now.tab _ _ _ _) (sym c.is_candidate.ensures ∙ c.if-is_candidate.false) in
    going-ends (record { within = c.requires.used_le_budget; same = refl }) (λ left best. candidate-no imposed _ _ _ _ _ left best not)
