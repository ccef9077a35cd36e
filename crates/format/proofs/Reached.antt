-- Which fields the rules come to: a field is looked at only where those before it held. So what holds of every refusal that may
-- be found at a field that is come to, holds of the one that is given; for any look, under any limits and for any deadlines let in.
use mathlib.Core.Path.{◌≡◌, refl}
use mathlib.Core.Bool.{Bool}
use mathlib.Core.Logic.{◌⊎◌, inl, inr}
use Prim.Native.Nat.{ℕ, zero, suc, ◌≤◌, ◌<◌}
use native.Mathlib.Decide.{ℕ_discrete}
use native.Mathlib.Omega.{arith}
use lib.Dec.{lit≤}
use Rattle.refusals.specs.declared.Refusal.{Refusal}
use Rattle.refusals.specs.Answer.{Answer, accepted, refusal_number, ◌then◌, first_of}
use Rattle.refusals.proofs.Findings.{then-joins, none_first, none_of, Only, only-checked, only_then, only-first}
use Rattle.table.specs.Sum.{sum}
use Rattle.table.specs.Limits.{Limits}
use Rattle.table.specs.Fields.{HeaderField, HeadField, TaskField, Field, IsTaskField}
use Rattle.table.specs.Rules.{Look, part, Deadlines, asked, rule, header_rules, head_rules, task_rules, transaction_rules, body_rules, table_rules}
use Rattle.table.specs.Rules.Deadlines.{any, keepable}
use Rattle.table.proofs.Rules.{SoundHead, sound-header, sound-head}

-- one of the rules' refusals: 2 to 9, or 14
abbrev pub IsRule : Refusal → Type 0
IsRule r = ((2 ≤ refusal_number r) × (refusal_number r ≤ 9)) ⊎ (refusal_number r ≡ 14)

pub only-asked : (P : Refusal → ℕ → Type 0) (deadlines : Deadlines) (a : Answer) → Only P a → Only P (asked deadlines a)
only-asked P any a h = tt
only-asked P keepable a h = h

module _ (limits : Limits) (look : Look Field) where
  abbrev major : ℕ
  major = look.number (Field.header HeaderField.frame)

  abbrev before : ℕ → ℕ
  before u = sum u (λ v. look.number (Field.head v HeadField.tasks))

  -- the head of transaction v holds
  abbrev pub HeadHolds : ℕ → Type 0
  HeadHolds v = SoundHead limits (look.number (Field.header HeaderField.frame)) (sum v (λ w. look.number (Field.head w HeadField.tasks))) (part (Field.head v) look)

  pub few-before : (u : ℕ) → ((v : ℕ) → v < u → HeadHolds v) → sum u (λ v. look.number (Field.head v HeadField.tasks)) ≤ limits.in_all
  unfolding sum
  few-before zero each = omega arith
  few-before (suc u) each = (each u (omega arith)).in_all

  pub record HeadReached (u : ℕ) : Type 0 where
    pub owner : u < look.number (Field.header HeaderField.count)
    pub few : u < limits.transactions
    pub heads : (v : ℕ) → v < u → HeadHolds v

  pub record TaskReached (u j : ℕ) : Type 0 where
    pub owner : u < look.number (Field.header HeaderField.count)
    pub few : u < limits.transactions
    pub heads : (v : ℕ) → v < suc u → HeadHolds v
    pub within : j < look.number (Field.head u HeadField.tasks)

  abbrev pub Reached : Field → Type 0
  Reached (Field.header f) = Unit
  Reached (Field.head u f) = HeadReached u
  Reached (Field.task u j f) = TaskReached u j × IsTaskField (look.number (Field.head u HeadField.modes)) f

  module _ (deadlines : Deadlines) where
    abbrev found : ℕ → Answer
    found u = transaction_rules ◌then◌ limits deadlines major (before u) (part (Field.head u) look) (λ j. part (Field.task u j) look)

    pub heads-hold : (n : ℕ) → first_of n found ≡ accepted → (v : ℕ) → v < n → HeadHolds v
    unfolding transaction_rules first_of
    heads-hold n clear v h =
        sound-head limits then-joins major (before v) (part (Field.head v) look) (none_first _ _ (none_of then-joins n _ clear v h))

    module _ (P : Refusal → ℕ → Type 0)
        (own : (f : Field) → Reached f → Only P (look.finding f))
        (ruled : (f : Field) → Reached f → (r : Refusal) → IsRule r → P r (look.place f)) where
      only-check : (f : Field) → Reached f → (t : Bool) (r : Refusal) → IsRule r → Only P (rule ◌then◌ look f t r)
      only-check f here t r is = only_then P _ _ (own f here) (λ e. only-checked P t r (look.place f) (ruled f here r is))

      only-header : Only P (header_rules ◌then◌ limits (part Field.header look))
      unfolding header_rules
      only-header =
          only_then P _ _
          (only_then P _ _ (only-check (Field.header HeaderField.edition) tt _ _ (inl (lit≤ tt, lit≤ tt)))
          (λ e. only-check (Field.header HeaderField.frame) tt _ _ (inl (lit≤ tt, lit≤ tt))))
          (λ e. only-check (Field.header HeaderField.count) tt _ _ (inl (lit≤ tt, lit≤ tt)))

      only-head : (u : ℕ) → HeadReached u → Only P (head_rules ◌then◌ limits major (before u) (part (Field.head u) look))
      unfolding head_rules
      only-head u here =
          only_then P _ _
          (only_then P _ _ (only-check (Field.head u HeadField.period) here _ _ (inl (lit≤ tt, lit≤ tt)))
          (λ e. only-check (Field.head u HeadField.modes) here _ _ (inl (lit≤ tt, lit≤ tt))))
          (λ e. only-check (Field.head u HeadField.tasks) here _ _ (inl (lit≤ tt, lit≤ tt)))

      only-task :
          (u j : ℕ) → TaskReached u j → Only P (task_rules ◌then◌ deadlines (look.number (Field.head u HeadField.modes)) (part (Field.task u j) look))
      unfolding task_rules first_of
      only-task u j here =
          only_then P _ _
          (only_then P _ _
          (only_then P _ _
          (only_then P _ _
          (only_then P _ _
          (only_then P _ _
          (only_then P _ _ (own (Field.task u j TaskField.offset) (here, tt)) (λ e. own (Field.task u j TaskField.jitter) (here, tt)))
          (λ e. own (Field.task u j TaskField.blocking) (here, tt)))
          (λ e. only-check (Field.task u j TaskField.deadline) (here, tt) _ _ (inl (lit≤ tt, lit≤ tt))))
          (λ e. own (Field.task u j TaskField.priority) (here, tt)))
          (λ e. only-first P (look.number (Field.head u HeadField.modes)) _ (λ m below so_far. own (Field.task u j (TaskField.time m)) (here, below))))
          (λ e. only-checked P _ _ _ (ruled (Field.task u j (TaskField.time 0)) (here, (here.heads u (omega arith)).some_mode) _ (inl (lit≤ tt, lit≤ tt)))))
          (λ e. only-asked P deadlines _ (only-checked P _ _ _ (ruled (Field.task u j TaskField.deadline) (here, tt) _ (inr refl))))

      only-transaction : (u : ℕ) → HeadReached u → Only P (found u)
      unfolding transaction_rules first_of
      only-transaction u here =
          only_then P _ _ (only-head u here)
          (λ clear.
          only-first P (look.number (Field.head u HeadField.tasks)) _
          (λ j within so_far. only-task u j (record { owner = here.owner; few = here.few; heads = more (sound-head limits then-joins major (before u) (part (Field.head u) look) clear); within = within })))
        where
          more : HeadHolds u → (v : ℕ) → v < suc u → HeadHolds v
          more at-u v below =
              elim (ℕ_discrete v u) [
                | yes e ↦ rw e at-u
                | no ne ↦ here.heads v (omega arith)
              ]

      pub only-table : Only P (table_rules ◌then◌ limits deadlines look)
      unfolding table_rules body_rules first_of
      only-table =
          only_then P _ _ only-header
          (λ clear.
          let few = (sound-header limits then-joins (part Field.header look) clear).few in
          only-first P (look.number (Field.header HeaderField.count)) found
          (λ u below so_far. only-transaction u (record { owner = below; few = omega arith; heads = heads-hold u so_far })))
