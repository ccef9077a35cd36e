-- The chains of one turn, a mode and a candidate: the L chain comes to the busy length or passes H, and a job's chain comes
-- to its completion, which never passes L.
use lib.IntN.{ℤ}
use Prim.Native.Nat.{ℕ, ◌≤◌, ◌<◌}
use native.Mathlib.Nat.{le_of_eq, le_trans, le_refl}
use native.Mathlib.Omega.{arith}
use Rattle.table.specs.Table.{Table, IsTask}
use Rattle.table.specs.Limits.{horizon}
use Rattle.table.specs.Kept.{Kept}
use Rattle.analysis.specs.Charge.{Later}
use Rattle.analysis.specs.Bound.{last_job, jobs_to, demand, busy, BusyLength, Completion, Setting, Within}
use Rattle.analysis.specs.Chain.{End, came, over, Chain, past, on}
use Rattle.analysis.specs.Needed.{Beyond, Never, job, start}
use Rattle.analysis.specs.Walk.{beyond?, never?}
use Rattle.analysis.proofs.Chain.{Ends, chain-ends, came-fixed, came-least, came-within, came-keeps, over_none, comes}
use Rattle.analysis.proofs.Charges.{Fair, demand-grows, start-below, busy-rises, job-below-busy, busy-some}

-- the chain for L, and that of job p where it comes back at w
abbrev pub LengthChain : Table → (u a m c n : ℕ) → End → Type 0
LengthChain tab u a m c n e = Chain (busy tab u a m c) Beyond 1 n e

abbrev pub JobChain : Later → Table → (u a m c : ℕ) (p : ℤ) (n w : ℕ) → Type 0
JobChain later tab u a m c p n w = Chain (demand later tab u a m c p) Never (start tab u a m c p) n (came w)

pub record Completes (later : Later) (tab : Table) (u a m c : ℕ) (p : ℤ) : Type 0 where
  pub w : ℕ
  pub length : ℕ
  pub chain : JobChain later tab u a m c p length w

module _ {tab : Table} (kept : Kept tab) {u a : ℕ} (is_task : IsTask tab u a) where
  -- ---- the L chain

  module _ {m c : ℕ} (setting : Setting tab u a m c) where
    rises : (s t : ℕ) → 1 ≤ s → s ≤ t → busy tab u a m c s ≤ busy tab u a m c t
    rises s t h l = busy-rises kept is_task m c l

    some : 1 ≤ busy tab u a m c 1
    some = busy-some kept is_task setting (le_refl 1)

    -- it comes back or passes H
    pub busy-ends : Ends (busy tab u a m c) Beyond 1
    busy-ends = chain-ends rises some beyond? horizon (omega arith) (λ t h k o. omega arith)

    -- where it comes back is the busy length
    pub busy-length : {n L : ℕ} → LengthChain tab u a m c n (came L) → BusyLength tab u a m c L
    busy-length chain = came-least rises some chain

    pub busy-within : {n L : ℕ} → LengthChain tab u a m c n (came L) → Within tab u a m c
    busy-within {L} chain =
        record { L = L; busy_length = busy-length chain; within = came-within chain horizon (λ v o. omega arith) (omega arith) }

    -- where it passes H, no t in 1..H meets the inequality for L
    pub busy-past : {n : ℕ} → LengthChain tab u a m c n over → (t : ℕ) → 1 ≤ t → t ≤ horizon → ¬ (busy tab u a m c t ≤ t)
    busy-past chain t h l = over_none rises some chain t (λ v o. omega arith) h

    -- Whenever some t in 1..H meets the inequality for L, the L chain ends at the least such t
    pub busy-comes : (t : ℕ) → 1 ≤ t → t ≤ horizon → busy tab u a m c t ≤ t → (n : ℕ) × (L : ℕ) × LengthChain tab u a m c n (came L) × BusyLength tab u a m c L
    busy-comes = comes rises some (omega arith)

  -- ---- a job's chain

  module _ {later : Later} (fair : Fair later) (m c : ℕ) (p : ℤ) where
    grows : (s t : ℕ) → start tab u a m c p ≤ s → s ≤ t → demand later tab u a m c p s ≤ demand later tab u a m c p t
    grows s t h l = demand-grows kept (fair.rises l) is_task m c p

    from : (t : ℕ) → start tab u a m c p ≤ demand later tab u a m c p t
    from t = start-below kept is_task later m c p t

    -- A job's chain ends at its least t
    pub job-completion : {n w : ℕ} → JobChain later tab u a m c p n w → Completion later tab u a m c p w
    job-completion {n} {w} chain =
        let l = came-least grows (from (start tab u a m c p)) chain in
        record { has = came-fixed chain; least = λ t e. l.least t (le_trans (from t) (le_of_eq e), le_of_eq e) }

    -- and it does end where some b meets the inequality for it, at b or before
    pub job-completes : (b : ℕ) → demand later tab u a m c p b ≤ b → Completes later tab u a m c p
    job-completes b h = go ends.end ends.chain
      where
        ends : Ends (demand later tab u a m c p) Never (start tab u a m c p)
        ends =
            chain-ends grows (from (start tab u a m c p)) never? b (le_trans (from b) h)
            (λ t k l o. le_trans (grows t b k l) h)

        go : (e : End) → Chain (demand later tab u a m c p) Never (start tab u a m c p) ends.length e → Completes later tab u a m c p
        go (came w) chain = record { w = w; length = ends.length; chain = chain }
        go over chain = absurd (never chain)
          where
            never : {f : ℕ → ℕ} {t n : ℕ} → Chain f Never t n over → ⊥
            never (past h o) = o
            never (on h o r) = never r

    -- a completion never passes such a b
    pub completion-below : {w : ℕ} → Completion later tab u a m c p w → (b : ℕ) → demand later tab u a m c p b ≤ b → w ≤ b
    completion-below done b h =
        let z = job-completes b h in
        let l = came-least grows (from (start tab u a m c p)) z.chain in
        le_trans (done.least z.w (came-fixed z.chain)) (l.least b (le_trans (from b) h, h))

  module _ {later : Later} (fair : Fair later) (m c : ℕ) {L : ℕ} (busy_length : BusyLength tab u a m c L) (N : ℕ) (by : N < jobs_to tab u a c (last_job tab u a c L)) where
    meets : demand later tab u a m c (job tab u a c N) L ≤ L
    meets = le_trans (job-below-busy kept is_task fair m c N L by) busy_length.has.1

    -- The chain of each job by L ends
    pub queued-completes : Completes later tab u a m c (job tab u a c N)
    queued-completes = job-completes fair m c (job tab u a c N) L meets

    -- a completion never passes L
    pub completion-within : {w : ℕ} → Completion later tab u a m c (job tab u a c N) w → w ≤ L
    completion-within done = completion-below fair m c (job tab u a c N) done L meets

    -- so a job's chain never passes H: it would be the same with the end that an L chain has
    pub job-never-past : {n w : ℕ} → L ≤ horizon → JobChain later tab u a m c (job tab u a c N) n w → Chain (demand later tab u a m c (job tab u a c N)) Beyond (start tab u a m c (job tab u a c N)) n (came w)
    job-never-past {n} {w} h chain =
        let l : w ≤ L = completion-within (job-completion fair m c (job tab u a c N) chain) in
        came-keeps (grows fair m c (job tab u a c N)) (from fair m c (job tab u a c N) _) chain (λ v k o. omega arith)
