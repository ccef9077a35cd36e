-- The whole-job bound: where the bound exists it exists too, and is not below it, since a job that is charged what is
-- released completes no earlier than one that is charged what is imposed.
use Prim.Native.Nat.{ℕ, ◌≤◌}
use native.Mathlib.Nat.{le_of_eq, le_trans}
use native.Mathlib.Omega.{arith}
use mathlib.Core.Path.{refl}
use Rattle.table.specs.Table.{Table, IsTask}
use Rattle.table.specs.Kept.{Kept}
use Rattle.periods.specs.Charge.{imposed, released}
use Rattle.analysis.specs.Bound.{response, Bound, Tight}
use Rattle.analysis.specs.Needed.{job}
use Rattle.analysis.proofs.Signed.{minus_pos, le-minus}
use Rattle.analysis.proofs.Charges.{imposed-fair, released-fair, demand-grows}
use Rattle.analysis.proofs.Turn.{job-completion, queued-completes, completion-below}
use Rattle.analysis.proofs.Response.{Queued, queued-response, response-queued, queued-minus}
use Rattle.analysis.proofs.Greatest.{bound-exists}

module _ {tab : Table} (kept : Kept tab) {u a : ℕ} (is_task : IsTask tab u a) where
  -- no response exceeds a whole-job bound: the same job's response with released charges does not, and is no less
  below-whole : {R Q : ℕ} → Bound imposed tab u a R → Bound released tab u a Q → R ≤ Q
  below-whole {R} {Q} bound whole =
      let x = bound.attained in
      let length = (bound.within x.m x.c x.setting).busy_length in
      let (N, w, q) = response-queued kept is_task length x.response in
      let p = job tab u a x.c N in
      let z = queued-completes kept is_task released-fair x.m x.c length N q.by in
      let done = job-completion kept is_task released-fair x.m x.c p z.chain in
      let less = le_trans (demand-grows kept (imposed-fair.within z.w) is_task x.m x.c p) (le_of_eq done.has) in
      let sooner : w ≤ z.w = completion-below kept is_task imposed-fair x.m x.c p q.completion z.w less in
      let r : Queued released tab u a x.m x.c _ N z.w (response tab u a x.c p z.w) = record { by = q.by; completion = done; is = refl } in
      let most = whole.greatest x.m x.c p _ x.setting (queued-response kept is_task length r) in
      omega (arith, (queued-minus kept is_task q).by, le-minus (queued-minus kept is_task r) (minus_pos Q) most)

  pub tight : {R : ℕ} → Bound imposed tab u a R → Tight tab u a R
  tight bound =
      let (whole, is_bound) = bound-exists released-fair kept is_task bound.within in
      record { whole = whole; is_bound = is_bound; tight = below-whole bound is_bound }
