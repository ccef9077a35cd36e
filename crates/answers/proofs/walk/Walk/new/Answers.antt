-- `Walk::new` begins with what the definition's walk does.
use borrow.Author.Rules.{rules}
use Rattle.answers.specs.Turn.{source_meant, best_meant}
use Rattle.answers.proofs.walk.Walk.new.Goals as goal

pub returns : goal.returns
unfolding source_meant best_meant
returns c = search rules
