-- An answer that is explained, in the code's own type.
use Rattle.std.specs.Prelude.{◌≡◌, ℕ, MatchOption}
use Rattle.table.specs.Table.{Table}
use Rattle.periods.specs.Charge.{imposed}
use Rattle.analysis.specs.Parts.{MadeOf}
use Rattle.analysis.specs.Answer.{Answer, bound, named}
use Rattle.analysis.specs.Walk.{answer}
use Rattle.told.specs.Answered.{meant}
use Rattle.parts.specs.Parts.{NoBound, parts_meant}
use Rattle.answers.specs.declared.pushed.Bounded.{Bounded}
use Rattle.answers.specs.declared.pushed.Explained.{Explained}
use Rattle.answers.specs.Turn.{source_meant}

-- x is a bound that the job gives, of these parts
pub record Gives (tab : Table) (u a : ℕ) (x : Answer) (b : Bounded) : Type 0 where
  pub R : ℕ
  pub n : ℕ
  pub is : x ≡ bound R n (named tab u (source_meant b.by))
  pub made : MadeOf tab u a R (source_meant b.by) (parts_meant b.parts)

-- it is the answer of the definitions: no bound, or one that the job gives, of these parts
pub record Explains (budget : ℕ) (tab : Table) (u a : ℕ) (x : Explained) : Type 0 where
  pub told : meant x.answer ≡ answer imposed tab u a budget
  pub why : MatchOption x.bounded (NoBound (meant x.answer)) (Gives tab u a (meant x.answer))
