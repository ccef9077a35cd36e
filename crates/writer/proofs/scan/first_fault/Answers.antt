-- `scan::first_fault` meets its contract: the transactions are looked at where the header is sound.
use Rattle.std.proofs.Common.{rules}
use mathlib.Core.Path.{sym, ◌∙◌}
use Rattle.refusals.proofs.Findings.{joining}
use Rattle.writer.proofs.Scanned.{table-parts, few-transactions}
use Rattle.writer.proofs.scan.first_fault.Goals as goal

pub returns-in_err-header : goal.returns-in_err-header
unfolding joining
returns-in_err-header c =
    let parts = table-parts c.args.row.now in
    search rules

pub transactions-requires : goal.transactions-requires
transactions-requires c = few-transactions _ (sym c.header.ensures ∙ c.in_ok-header.was)

pub returns : goal.returns
unfolding joining
returns c =
    let parts = table-parts c.args.row.now in
    search rules
