-- `Account::put_charge` stores what there is; of a refusal there is nothing.
use Rattle.std.proofs.Common.{◌≡◌, refl, Bool, true, false, cond, ℕ, List, []}
use Rattle.std.specs.Prelude.{ltb}
use Rattle.table.specs.Limits.{transactions_most}
use Rattle.account.specs.Account.{charges_cell, stored}
use Rattle.account.proofs.Account.put_charge.Goals as goal

either-way : (b : Bool) (cells : List ℕ) → cells ≡ cond b cells cells
either-way true cells = refl
either-way false cells = refl

stored-none : (at count i : ℕ) (before : List ℕ) → before ≡ stored at count i [] before
unfolding stored
stored-none at count i before = either-way (ltb i count) before

pub returns-in_default : goal.returns-in_default
returns-in_default c = rw c.in_default.is (stored-none charges_cell transactions_most c.args.i c.args.cells.now)
