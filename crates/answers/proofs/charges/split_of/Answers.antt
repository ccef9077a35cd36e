-- t by the period: quotient and remainder give t back. Assumes nothing.
use mathlib.Core.Path.{sym, ◌∙◌}
use native.Mathlib.Omega.{arith}
use native.Mathlib.Nat.{mod-lt, div-add-mod'}
use Rattle.table.specs.Table.{period}
use Rattle.table.proofs.Ranges.{kept-period}
use Rattle.row.specs.Row.{first_cell, table_of}
use Rattle.row.proofs.Held.{held-period, held-tasks}
use Rattle.row.proofs.Fields.{head-there, read_first}
use Rattle.answers.specs.Split.{moment}
use Rattle.answers.proofs.charges.split_of.Goals as goal

pub nonzero_rem-result : goal.nonzero_rem-result
nonzero_rem-result c = omega (arith, kept-period c.requires.row_of_table.kept c.requires.i_bound, held-period c.args.work.now c.requires.i_bound)

pub nonzero_div-at : goal.nonzero_div-at
nonzero_div-at c = omega (arith, kept-period c.requires.row_of_table.kept c.requires.i_bound, held-period c.args.work.now c.requires.i_bound)

pub returns : goal.returns
unfolding moment
returns c =
    let work = c.args.work.now in
    let table = c.requires.row_of_table in let owner = c.requires.i_bound in let short = c.requires.t_bound in
    let t = c.args.t.0 in
    let is = held-period work owner in
    record {
      is_split =
          record {
            owner = owner;
            first = sym (head-there table owner first_cell) ∙ read_first table owner;
            count = sym (held-tasks work owner);
            period = sym is;
            below = rw (← is) (mod-lt t (kept-period table.kept owner));
            within = rw (c.from.ensures, ← is, div-add-mod' t (period (table_of work) c.args.i)) short;
          };
      at = rw (c.from.ensures, ← is) (div-add-mod' t (period (table_of work) c.args.i));
    }
