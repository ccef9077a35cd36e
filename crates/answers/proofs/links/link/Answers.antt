-- Links lie behind the weights, and those of transactions behind those of rows, so that each leaves what was there. Assumes
-- nothing.
use mathlib.Core.Path.{subst, sym, ◌∙◌}
use native.Mathlib.Omega.{arith}
use Rattle.row.specs.Row.{table_of}
use Rattle.table.specs.Table.{Table}
use Rattle.answers.specs.Work.{Chosen}
use Rattle.answers.specs.Parts.{OthersFrom}
use Rattle.answers.proofs.Filling.{same-less}
use Rattle.answers.proofs.Linking.{weighs-same, linked-same, linked-subject}
use Rattle.answers.proofs.links.link.Goals as goal

pub link_settings-requires : goal.link_settings-requires
link_settings-requires c = record { lent = c.requires.lent; weighs = c.requires.weighs }

pub link_others-requires : goal.link_others-requires
link_others-requires c =
    let y = c in
    let x = y in
    let (lent, (weighs, e)) = weighs-same x.requires.lent x.requires.weighs y.link_settings.new.work y.link_settings.ensures.same_to in record { lent = lent; chosen = subst (λ (t : Table). Chosen t x.args.s) (sym e) x.requires.chosen; weighs = weighs }

pub returns : goal.returns
returns c =
    let y = c in
    let x = y in
    let s = x.args.s in
    let work = c.link_others.new.work in
    let linked = y.link_settings.ensures.linked_from in let front = y.link_settings.ensures.same_to in
    let others = c.link_others.ensures.others_from in let same = c.link_others.ensures.same_to in
    let (lent, (weighs, e)) = weighs-same x.requires.lent x.requires.weighs y.link_settings.new.work front in
    let (now, (still, table)) = weighs-same lent weighs work (same-less (omega arith) same) in record {
      lent_2 = now;
      work_unchanged = table ∙ e;
      subject = linked-subject work (table_of x.args.work.now) s (table ∙ e) x.requires.chosen still
          (linked-same x.requires.lent.table.kept s.u s.a same linked)
          (subst (λ (t : Table). OthersFrom t s.u s.a 0 work) e others);
    }
