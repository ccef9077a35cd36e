-- Every bound, with the first that gives it, has its parts, and only those: the completion is bound + arrival − offset, so no second
-- chain is needed to find it.
use mathlib.Core.Path.{◌≡◌, refl, sym, ap, ◌∙◌, subst}
use lib.IntN.{ℤ, pos, ◌+ℤ◌, ◌-ℤ◌, +ℤ-neg_ℤ_cancel, -ℤ-+ℤ_cancel}
use Prim.Native.Nat.{ℕ, ◌+◌, ◌≤◌}
use native.Mathlib.Nat.{le_trans}
use native.Mathlib.Omega.{arith}
use Rattle.table.specs.Table.{Table, IsTask, offset, blocking}
use Rattle.table.specs.Limits.{horizon}
use Rattle.table.specs.Kept.{Kept}
use Rattle.periods.specs.Charge.{imposed}
use Rattle.analysis.specs.Choice.{count}
use Rattle.analysis.specs.Charge.{charge}
use Rattle.analysis.specs.Bound.{arrival, demand, response, Completion}
use Rattle.analysis.specs.Needed.{job}
use Rattle.analysis.specs.Order.{Source}
use Rattle.analysis.specs.Who.{BoundBy}
use Rattle.analysis.specs.Parts.{Parts, parts_of, MadeOf}
use Rattle.analysis.proofs.Choice.{least-unique}
use Rattle.analysis.proofs.Join.{own-job}
use Rattle.analysis.proofs.Charges.{imposed-fair}
use Rattle.analysis.proofs.Turn.{completion-within}
use Rattle.analysis.proofs.Response.{response-job}

-- R = w − z + O gives back w
pub completion-back : (R w O : ℕ) (z : ℤ) → pos R ≡ pos w -ℤ z +ℤ pos O → pos R -ℤ pos O +ℤ z ≡ pos w
completion-back R w O z e =
    rw (e, +ℤ-neg_ℤ_cancel (pos w -ℤ z) (pos O), -ℤ-+ℤ_cancel (pos w) z) refl

module _ {tab : Table} {u a R : ℕ} {x : Source} where
  pub made_of : BoundBy imposed tab u a R x → MadeOf tab u a R x (parts_of tab u a R x)
  unfolding count parts_of response demand
  made_of by =
      let z = by.first.gives.response in
      let e : (parts_of tab u a R x).completion ≡ z.w = ap count (completion-back R z.w (offset tab u a) _ z.is) in
      let done : Completion imposed tab u a x.turn.mode x.turn.candidate (job tab u a x.turn.candidate x.job) (parts_of tab u a R x).completion = subst (Completion imposed tab u a x.turn.mode x.turn.candidate (job tab u a x.turn.candidate x.job)) (sym e) z.completion in
      let own = own-job imposed tab u a x.turn.mode x.turn.candidate x.job (parts_of tab u a R x).completion in
      record {
        by = by;
        completion = done;
        arrival = refl;
        offset = refl;
        blocking = refl;
        own_jobs = refl;
        own_rivals = refl;
        adds = omega (arith, own, done.has);
        bound = subst (λ (w : ℕ). pos R ≡ pos w -ℤ arrival tab u a x.turn.candidate (job tab u a x.turn.candidate x.job) +ℤ pos (offset tab u a)) (sym e) z.is;
      }

  -- the completion never passes L, and so is within the horizon
  pub made-within : {p : Parts} → Kept tab → IsTask tab u a → MadeOf tab u a R x p → p.completion ≤ horizon
  made-within kept is_task made =
      let given = made.by.first.gives in
      let length = made.by.bound.within x.turn.mode x.turn.candidate given.setting in
      let queued = (response-job kept is_task length.busy_length given.response).1 in
      le_trans
      (completion-within kept is_task imposed-fair x.turn.mode x.turn.candidate length.busy_length x.job queued.by made.completion)
      length.within

  pub parts-unique : {p q : Parts} → MadeOf tab u a R x p → MadeOf tab u a R x q → p ≡ q
  parts-unique {p} {q} h k =
      let completion : p.completion ≡ q.completion = least-unique h.completion k.completion in
      let arrival : p.arrival ≡ q.arrival = h.arrival ∙ sym k.arrival in
      let offset : p.offset ≡ q.offset = h.offset ∙ sym k.offset in
      let blocking : p.blocking ≡ q.blocking = h.blocking ∙ sym k.blocking in
      let own_jobs : p.own_jobs ≡ q.own_jobs = h.own_jobs ∙ sym k.own_jobs in
      let own_rivals : p.own_rivals ≡ q.own_rivals = h.own_rivals ∙ ap (charge imposed tab u a u x.turn.mode x.turn.candidate) completion ∙ sym k.own_rivals in
      λ i. record { completion = completion i; arrival = arrival i; offset = offset i; blocking = blocking i; own_jobs = own_jobs i; own_rivals = own_rivals i }
