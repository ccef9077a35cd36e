-- The parts add up: what is told of a bound, and of each transaction's part in it, makes up the completion.
use mathlib.Core.Path.{◌≡◌, refl, sym, ap, ◌∙◌, subst₂}
use mathlib.Core.List.{List}
use Prim.Native.Nat.{ℕ, ◌+◌, ◌<◌}
use native.Mathlib.Decide.{ℕ_discrete}
use native.Mathlib.Omega.{arith}
use Rattle.table.specs.Sum.{sum}
use Rattle.table.specs.Table.{Table, IsTask, transactions}
use Rattle.table.specs.Kept.{Kept}
use Rattle.table.proofs.Number.{number-unique, number_lt}
use Rattle.table.proofs.Sum.{sum-ext}
use Rattle.format.specs.Said.{table_in}
use Rattle.format.proofs.Kept.{kept}
use Rattle.periods.specs.Charge.{imposed}
use Rattle.analysis.specs.Choice.{unless}
use Rattle.analysis.specs.Charge.{Later, greatest, others}
use Rattle.analysis.specs.Who.{Most, nobody, charged, amount}
use Rattle.analysis.specs.Order.{Source}
use Rattle.analysis.specs.Answer.{bound, named, Answers}
use Rattle.analysis.specs.Parts as analysis
use Rattle.analysis.specs.Parts.{MadeOf}
use Rattle.analysis.proofs.Answer.{answers-unique}
use Rattle.analysis.proofs.Who.{amount-greatest}
use Rattle.std.specs.Prelude.{Result, Ok, Some}
use Rattle.refusals.specs.declared.Fault.{Fault}
use Rattle.parts.specs.declared.Parts.{Parts}
use Rattle.parts.specs.declared.Part.{Part}
use Rattle.parts.specs.Parts.{OfImage, OfTask, MadeFor, Makes, ChargedBy, part_said, ticks_of, ticks_told, PartFor, HasPart}
use Rattle.parts.proofs.Unique.{clash, one-made}

-- what is told of the greatest charge has its ticks
said-ticks : (tab : Table) (i : ℕ) (x : Most) → ticks_of (part_said tab i x) ≡ amount x
unfolding ticks_of part_said amount
said-ticks tab i nobody = refl
said-ticks tab i (charged r x) = refl

-- the ticks of one transaction: none for the task's own, else its greatest charge
pub charged-ticks : {later : Later} {i t : ℕ} {tab : Table} {u a : ℕ} {r : Part} → i < transactions tab → ChargedBy later i t tab u a r → ticks_of r ≡ unless (ℕ_discrete i u) (greatest later tab u a i t)
unfolding unless ticks_of
charged-ticks {later} {i} {t} {tab} {u} {a} l (ChargedBy.own e) = go (ℕ_discrete i u)
  where
    go : (d : Dec (i ≡ u)) → 0 ≡ unless d (greatest later tab u a i t)
    go (yes f) = refl
    go (no f) = absurd (f e)
charged-ticks l (ChargedBy.missing m) = absurd (omega arith)
charged-ticks {later} {i} {t} {tab} {u} {a} {r} l (ChargedBy.other {x = x} o h e) = go (ℕ_discrete i u)
  where
    is : ticks_of r ≡ greatest later tab u a i t
    is = ap ticks_of (sym e) ∙ said-ticks tab i x ∙ amount-greatest later tab u a i t h

    go : (d : Dec (i ≡ u)) → ticks_of r ≡ unless d (greatest later tab u a i t)
    go (yes f) = absurd (o.other f)
    go (no f) = is

-- the part of a transaction in the bound of a task, whose parts are p
part-ticks : {budget i : ℕ} {tab : Table} → Kept tab → {u a R n : ℕ} {x : Source} {p : analysis.Parts} {r : Part} → IsTask tab u a → i < transactions tab → Answers tab u a budget (bound R n (named tab u x)) → MadeOf tab u a R x p → PartFor budget i tab u a r → ticks_of r ≡ unless (ℕ_discrete i u) (greatest imposed tab u a i p.completion)
part-ticks keeps is_task l h m (PartFor.unbounded k none) = absurd (none _ _ _ (answers-unique keeps is_task k h))
part-ticks {i} {tab} keeps {u} {a} is_task l h m (PartFor.bounded k w c) =
    charged-ticks l c
    ∙ ap (λ (z : analysis.Parts). unless (ℕ_discrete i u) (greatest imposed tab u a i z.completion)) (one-made keeps is_task k w h m)

-- Blocking, own jobs, own rivals and the parts of all transactions make up the completion
pub parts_add :
    {image : List ℕ} {task budget : ℕ} {p : Parts}
    → Makes image task budget (Ok (Some p))
    → (told : ℕ → Result Part Fault)
    → ((i : ℕ) → i < transactions (table_in image) → HasPart image task budget i (told i))
    → p.blocking + p.jobs + p.rivals + sum (transactions (table_in image)) (λ i. ticks_told (told i)) ≡ p.completion
unfolding others ticks_told
parts_add {image} {task} {budget} {p} (OfImage.accepted ok (OfTask.known {u = u} {a = a} is_task numbered (MadeFor.bounded h m))) told each =
    let same : sum (transactions tab) (λ i. ticks_told (told i)) ≡ others imposed tab u a p.completion = sum-ext (transactions tab) (λ i l. ticks i l (each i l)) in
    omega (arith, same, m.adds)
  where
    tab : Table
    tab = table_in image

    ticks : (i : ℕ) {r : Result Part Fault} → i < transactions (table_in image) → HasPart image task budget i r → ticks_told r ≡ unless (ℕ_discrete i u) (greatest imposed (table_in image) u a i p.completion)
    ticks i l (OfImage.refused e) = absurd (clash image e ok)
    ticks i l (OfImage.accepted yet (OfTask.unknown k)) = absurd (omega (arith, number_lt (table_in image) is_task, numbered))
    ticks i l (OfImage.accepted yet (OfTask.known {r = r} other alike c)) =
        let (e, f) = number-unique (table_in image) other is_task (alike ∙ sym numbered) in
        part-ticks (kept image ok) is_task l h m (subst₂ (λ (v b : ℕ). PartFor budget i (table_in image) v b r) e f c)
