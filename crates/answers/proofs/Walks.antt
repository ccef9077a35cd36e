-- The walk in steps: a walk is its first step and, where that comes through, the rest; so each loop of the code keeps 'what
-- is left gives what the whole gives'.
use mathlib.Core.Path.{◌≡◌, refl, sym, ap, ap₂, ◌∙◌, subst₂}
use mathlib.Core.Bool.{true, false, not}
use mathlib.Core.Logic.{ite, inl}
use lib.Dec.{eqb}
use borrow.Author.Tests.{eq-eqb, ne_eqb}
use mathlib.Core.List.{List, [], ◌∷◌, ◌++◌, map, filter}
use lib.IntN.{ℤ}
use Prim.Native.Nat.{ℕ, zero, suc, ◌+◌, ◌-◌, ◌≤◌, ◌<◌}
use native.Mathlib.Decide.{dec_lt, ℕ_discrete}
use native.Mathlib.Omega.{arith}
use Rattle.table.specs.Table.{Table, tasks}
use Rattle.analysis.specs.Choice.{count}
use Rattle.analysis.specs.Charge.{Later}
use Rattle.analysis.specs.Rival.{Candidate, candidate?, candidate_by, Rival, rival?, Runs, runs?}
use Rattle.analysis.specs.Bound.{last_job, jobs_to, demand, busy, response}
use Rattle.analysis.specs.Chain.{came, over}
use Rattle.analysis.specs.Needed.{job, start}
use Rattle.analysis.specs.Order as order
use Rattle.analysis.specs.Order.{from, candidates, turns}
use Rattle.analysis.specs.Walk as walk
use Rattle.analysis.specs.Walk.{ended, through, past, better_by, better, answered, chain, beyond?, never?, walk_jobs, walk_turn, walk_turns}
use Rattle.std.specs.Prelude.{Result, Ok, Err}
use Rattle.answers.specs.declared.chains.Came.{Came}
use Rattle.answers.specs.declared.chains.Stopped.{Stopped}
use Rattle.answers.specs.declared.walk.Best.{Best}
use Rattle.answers.specs.declared.walk.Walk.{Walk}
use Rattle.charge.specs.Weight.{weight}
use Rattle.charge.proofs.Weights.{weightless, weighty}
use Rattle.answers.specs.Lent.{tested}
use Rattle.answers.specs.Turn.{stopped, source_meant, best_meant, best_said, walked, turns_from, turns_by, mode_turns}
use Rattle.answers.proofs.Flags.{tested-yes, chosen-flag, spared-flag}
use Rattle.answers.proofs.Chain as C
use Rattle.answers.proofs.Chain.{chain-keeps}

-- ---- the best so far

-- the job and its response, as it is answered
pub met-answered : (tab : Table) (u a N w : ℕ) (b : Best) → b.response.0 ≡ count (response tab u a b.source.candidate (job tab u a b.source.candidate N) w) → b.source.job.0 ≡ N → best_meant b ≡ answered tab u a b.source.mode b.source.candidate N w
unfolding best_meant source_meant answered
met-answered tab u a N w b e n = λ i. record { response = e i; source = record { turn = record { mode = b.source.mode; candidate = b.source.candidate }; job = n i } }

pub meant-said : (b : walk.Best) → best_meant (best_said b) ≡ b
unfolding source_meant best_meant best_said
meant-said b = refl

pub said-meant : (b : Best) → best_said (best_meant b) ≡ b
unfolding source_meant best_meant best_said
said-meant b = refl

module _ (x y : walk.Best) where
  pub better-later : x.response < y.response → better x y ≡ y
  unfolding better better_by
  better-later h = go (dec_lt x.response y.response)
    where
      go : (d : Dec (x.response < y.response)) → better_by d x y ≡ y
      go (yes l) = refl
      go (no l) = absurd (l h)

  pub better-first : y.response ≤ x.response → better x y ≡ x
  unfolding better better_by
  better-first h = go (dec_lt x.response y.response)
    where
      go : (d : Dec (x.response < y.response)) → better_by d x y ≡ x
      go (yes l) = absurd (omega arith)
      go (no l) = refl

-- ---- a step, and the rest

abbrev pub onward : walk.Walked → (ℕ → walk.Best → walk.Walked) → walk.Walked
onward (through left best) rest = rest left best
onward (past left) rest = past left
onward walk.Walked.short rest = walk.Walked.short

-- what is left where it comes through is at most that
abbrev pub Keeps : ℕ → walk.Walked → Type 0
Keeps most (through left best) = left ≤ most
Keeps most (past left) = Unit {0}
Keeps most walk.Walked.short = Unit {0}

onward-keeps : (most : ℕ) (w : walk.Walked) (rest : ℕ → walk.Best → walk.Walked) → Keeps most w → ((left : ℕ) (best : walk.Best) → left ≤ most → Keeps most (rest left best)) → Keeps most (onward w rest)
onward-keeps most (through left best) rest h k = k left best h
onward-keeps most (past left) rest h k = tt
onward-keeps most walk.Walked.short rest h k = tt

-- the code came through with x, and there is this more to walk
pub record Going (budget : ℕ) (whole : walk.Walked) (rest : ℕ → walk.Best → walk.Walked) (x : Walk) : Type 0 where
  pub within : x.used ≤ budget
  pub same : rest (budget - x.used) (best_meant x.best) ≡ whole

-- rest is that first step and then the others
pub record Steps (rest first others : ℕ → walk.Best → walk.Walked) : Type 0 where
  pub is : (left : ℕ) (best : walk.Best) → rest left best ≡ onward (first left best) others
  pub keeps : (most left : ℕ) (best : walk.Best) → left ≤ most → Keeps most (first left best)

module _ {budget : ℕ} {whole : walk.Walked} {rest first others : ℕ → walk.Best → walk.Walked} {x : Walk} (going : Going budget whole rest x) (split : Steps rest first others) {step : Result Walk Stopped} (is : step ≡ walked budget (first (budget - x.used) (best_meant x.best))) where
  pub going_on : {next : Walk} → step ≡ Ok next → Going budget whole others next
  unfolding walked
  going_on {next} e =
      go (first (budget - x.used) (best_meant x.best)) (split.keeps budget (budget - x.used) (best_meant x.best) (omega arith)) (sym (split.is (budget - x.used) (best_meant x.best)) ∙ going.same) (sym is ∙ e)
    where
      go : (w : walk.Walked) → Keeps budget w → onward w others ≡ whole → walked budget w ≡ Ok next → Going budget whole others next
      go (through left best) k s d =
          let e : record { used = budget - left; best = best_said best } ≡ next = cc in
          let u : budget - left ≡ next.used = ap (λ (y : Walk). y.used) e in
          let b : best ≡ best_meant next.best = sym (meant-said best) ∙ ap (λ (y : Walk). best_meant y.best) e in
          record { within = omega arith; same = ap₂ others (omega arith) (sym b) ∙ s }
      go (past left) k s d = absurd cc
      go walk.Walked.short k s d = absurd cc

  pub going-stops : {e : Stopped} → step ≡ Err e → Err e ≡ walked budget whole
  unfolding walked
  going-stops {e} h =
      go (first (budget - x.used) (best_meant x.best)) (sym (split.is (budget - x.used) (best_meant x.best)) ∙ going.same) (sym h ∙ is)
    where
      go : (w : walk.Walked) → onward w others ≡ whole → Err e ≡ walked budget w → Err e ≡ walked budget whole
      go (through left best) s d = absurd cc
      go (past left) s d = d ∙ ap (walked budget) s
      go walk.Walked.short s d = d ∙ ap (walked budget) s

pub going-ends : {budget : ℕ} {whole : walk.Walked} {rest : ℕ → walk.Best → walk.Walked} {x : Walk} → Going budget whole rest x → ((left : ℕ) (best : walk.Best) → rest left best ≡ through left best) → Ok x ≡ walked budget whole
unfolding walked
going-ends {budget} {whole} {rest} {x} going none =
    let back : x.used ≡ budget - (budget - x.used) = omega (arith, going.within) in
    let e : whole ≡ through (budget - x.used) (best_meant x.best) = sym going.same ∙ none (budget - x.used) (best_meant x.best) in
    rw e (λ i. Ok (record { used = back i; best = sym (said-meant x.best) i }))

-- a loop that counts to n: at i there are n − i steps to do
counted : (rest : (todo i : ℕ) → ℕ → walk.Best → walk.Walked) (first : ℕ → ℕ → walk.Best → walk.Walked) → ((todo i : ℕ) → Steps (rest (suc todo) i) (first i) (rest todo (suc i))) → (n i : ℕ) → i < n → Steps (rest (n - i) i) (first i) (rest (n - (i + 1)) (i + 1))
counted rest first split n i l =
    let more : suc (n - (i + 1)) ≡ n - i = omega arith in
    let next : suc i ≡ i + 1 = omega arith in
    subst₂ (λ (k j : ℕ). Steps (rest k i) (first i) (rest (n - (i + 1)) j)) more next (split (n - (i + 1)) i)

-- ---- what follows a chain

-- by how it stopped
abbrev pub after : (ℕ → ℕ → walk.Walked) → walk.Stop → walk.Walked
after rest (ended (came w) left) = rest w left
after rest (ended over left) = past left
after rest walk.Stop.short = walk.Walked.short

after-onward : (first : ℕ → ℕ → walk.Best) (rest : ℕ → walk.Best → walk.Walked) (s : walk.Stop) → after (λ w left. rest left (first w left)) s ≡ onward (after (λ w left. through left (first w left)) s) rest
after-onward first rest (ended (came w) left) = refl
after-onward first rest (ended over left) = refl
after-onward first rest walk.Stop.short = refl

after-keeps : (most : ℕ) (rest : ℕ → ℕ → walk.Walked) (s : walk.Stop) → C.Keeps most s → ((w left : ℕ) → left ≤ most → Keeps most (rest w left)) → Keeps most (after rest s)
after-keeps most rest (ended (came w) left) k each = each w left k
after-keeps most rest (ended over left) k each = tt
after-keeps most rest walk.Stop.short k each = tt

-- and as the code says it
abbrev pub after_stop : (Came → Result Walk Stopped) → Result Came Stopped → Result Walk Stopped
after_stop rest (Ok x) = rest x
after_stop rest (Err e) = Err e

after-stopped : (budget : ℕ) (rest : ℕ → ℕ → walk.Walked) (s : walk.Stop) → C.Keeps budget s → walked budget (after rest s) ≡ after_stop (λ x. walked budget (rest x.t.0 (budget - x.used))) (stopped budget s)
unfolding walked stopped
after-stopped budget rest (ended (came w) left) k = ap (λ (l : ℕ). walked budget (rest w l)) (omega arith)
after-stopped budget rest (ended over left) k = refl
after-stopped budget rest walk.Stop.short k = refl

after-through : (budget : ℕ) (best : ℕ → walk.Best) (s : walk.Stop) → walked budget (after (λ w left. through left (best w)) s) ≡ after_stop (λ x. Ok (record { used = x.used; best = best_said (best x.t.0) })) (stopped budget s)
unfolding walked stopped
after-through budget best (ended (came w) left) = refl
after-through budget best (ended over left) = refl
after-through budget best walk.Stop.short = refl

-- ---- jobs

module _ (later : Later) (tab : Table) (u a m c : ℕ) where
  jobs-after : (todo N left : ℕ) (best : walk.Best) → walk_jobs later tab u a m c (suc todo) N left best ≡ after (λ w l. walk_jobs later tab u a m c todo (suc N) l (better best (answered tab u a m c N w))) (chain (demand later tab u a m c (job tab u a c N)) never? left (start tab u a m c (job tab u a c N)))
  unfolding walk_jobs
  jobs-after todo N left best = go (chain (demand later tab u a m c (job tab u a c N)) never? left (start tab u a m c (job tab u a c N)))
    where
      go : (s : walk.Stop) → elim s [ ended (came w) l ↦ walk_jobs later tab u a m c todo (suc N) l (better best (answered tab u a m c N w)) | ended over l ↦ past l | walk.Stop.short ↦ walk.Walked.short ] ≡ after (λ w l. walk_jobs later tab u a m c todo (suc N) l (better best (answered tab u a m c N w))) s
      go (ended (came w) l) = refl
      go (ended over l) = refl
      go walk.Stop.short = refl

  jobs-keeps : (most todo N left : ℕ) (best : walk.Best) → left ≤ most → Keeps most (walk_jobs later tab u a m c todo N left best)
  unfolding walk_jobs
  jobs-keeps most zero N left best h = h
  jobs-keeps most (suc todo) N left best h =
      let f : ℕ → ℕ = demand later tab u a m c (job tab u a c N) in
      let x : ℕ = start tab u a m c (job tab u a c N) in
      rw (jobs-after todo N left best)
      (after-keeps most (λ w l. walk_jobs later tab u a m c todo (suc N) l (better best (answered tab u a m c N w))) (chain f never? left x) (chain-keeps f never? most left x h) (λ w l k. jobs-keeps most todo (suc N) l (better best (answered tab u a m c N w)) k))

  jobs-split : (todo N : ℕ) → Steps (walk_jobs later tab u a m c (suc todo) N) (walk_jobs later tab u a m c 1 N) (walk_jobs later tab u a m c todo (suc N))
  unfolding walk_jobs
  jobs-split todo N =
      record {
        is = λ left best. jobs-after todo N left best ∙ after-onward (λ w l. better best (answered tab u a m c N w)) (walk_jobs later tab u a m c todo (suc N)) (chain (demand later tab u a m c (job tab u a c N)) never? left (start tab u a m c (job tab u a c N))) ∙ ap (λ (w : walk.Walked). onward w (walk_jobs later tab u a m c todo (suc N))) (sym (jobs-after zero N left best));
        keeps = λ most left best h. jobs-keeps most 1 N left best h;
      }

  pub jobs-next : (n N : ℕ) → N < n → Steps (walk_jobs later tab u a m c (n - N) N) (walk_jobs later tab u a m c 1 N) (walk_jobs later tab u a m c (n - (N + 1)) (N + 1))
  jobs-next n N l = counted (walk_jobs later tab u a m c) (walk_jobs later tab u a m c 1) jobs-split n N l

  pub jobs-none : (n N : ℕ) → n ≤ N → (left : ℕ) (best : walk.Best) → walk_jobs later tab u a m c (n - N) N left best ≡ through left best
  unfolding walk_jobs
  jobs-none n N l left best =
      let none : n - N ≡ 0 = omega arith in
      ap (λ (k : ℕ). walk_jobs later tab u a m c k N left best) none

  -- one job, by how its chain stopped
  module _ (budget N left : ℕ) (best : walk.Best) {p : ℤ} (number : p ≡ job tab u a c N) {r : Result Came Stopped} (is : r ≡ stopped budget (chain (demand later tab u a m c p) never? left (start tab u a m c p))) where
    job-walked : walked budget (walk_jobs later tab u a m c 1 N left best) ≡ after_stop (λ x. Ok (record { used = x.used; best = best_said (better best (answered tab u a m c N x.t.0)) })) r
    unfolding walk_jobs
    job-walked =
        rw (is, number)
        (
        ap (walked budget) (jobs-after zero N left best)
        ∙ after-through budget (λ w. better best (answered tab u a m c N w)) (chain (demand later tab u a m c (job tab u a c N)) never? left (start tab u a m c (job tab u a c N)))
        )

    pub job-stops : {e : Stopped} → r ≡ Err e → Err e ≡ walked budget (walk_jobs later tab u a m c 1 N left best)
    job-stops h = rw (job-walked, h) refl

    pub job-comes : {x : Came} {b : Best} → r ≡ Ok x → best_meant b ≡ better best (answered tab u a m c N x.t.0) → Ok (record { used = x.used; best = b }) ≡ walked budget (walk_jobs later tab u a m c 1 N left best)
    job-comes {x} {b} h e = rw (job-walked, h, ← e, said-meant b) refl

-- ---- turns

-- the turns of the modes from m on, n of them
abbrev pub modes_from : Table → ℕ → ℕ → ℕ → ℕ → List order.Turn
modes_from tab u a m n = turns tab u a (filter (λ x. runs? tab u x a) (from m n))

module _ (later : Later) (tab : Table) (u a : ℕ) where
  turn-after : (s : order.Turn) (left : ℕ) (best : walk.Best) → walk_turn later tab u a s left best ≡ after (λ L l. walk_jobs later tab u a s.mode s.candidate (jobs_to tab u a s.candidate (last_job tab u a s.candidate L)) 0 l best) (chain (busy tab u a s.mode s.candidate) beyond? left 1)
  unfolding walk_turn
  turn-after s left best = go (chain (busy tab u a s.mode s.candidate) beyond? left 1)
    where
      go : (x : walk.Stop) → elim x [ ended (came L) l ↦ walk_jobs later tab u a s.mode s.candidate (jobs_to tab u a s.candidate (last_job tab u a s.candidate L)) 0 l best | ended over l ↦ past l | walk.Stop.short ↦ walk.Walked.short ] ≡ after (λ L l. walk_jobs later tab u a s.mode s.candidate (jobs_to tab u a s.candidate (last_job tab u a s.candidate L)) 0 l best) x
      go (ended (came L) l) = refl
      go (ended over l) = refl
      go walk.Stop.short = refl

  turn-keeps : (most : ℕ) (s : order.Turn) (left : ℕ) (best : walk.Best) → left ≤ most → Keeps most (walk_turn later tab u a s left best)
  turn-keeps most s left best h =
      rw (turn-after s left best)
      (after-keeps most (λ L l. walk_jobs later tab u a s.mode s.candidate (jobs_to tab u a s.candidate (last_job tab u a s.candidate L)) 0 l best) (chain (busy tab u a s.mode s.candidate) beyond? left 1) (chain-keeps (busy tab u a s.mode s.candidate) beyond? most left 1 h) (λ L l k. jobs-keeps later tab u a s.mode s.candidate most (jobs_to tab u a s.candidate (last_job tab u a s.candidate L)) 0 l best k))

  -- one turn, by how its L chain stopped
  module _ (budget used m c : ℕ) (best : walk.Best) {r : Result Came Stopped} (is : r ≡ stopped budget (chain (busy tab u a m c) beyond? (budget - used) 1)) where
    turn-walked : walked budget (walk_turn later tab u a (record { mode = m; candidate = c }) (budget - used) best) ≡ after_stop (λ x. walked budget (walk_jobs later tab u a m c (jobs_to tab u a c (last_job tab u a c x.t.0)) 0 (budget - x.used) best)) r
    turn-walked =
        rw is
        (
        ap (walked budget) (turn-after (record { mode = m; candidate = c }) (budget - used) best)
        ∙ after-stopped budget _ _ (chain-keeps (busy tab u a m c) beyond? budget (budget - used) 1 (omega arith))
        )

    pub turn-stops : {e : Stopped} → r ≡ Err e → Err e ≡ walked budget (walk_turn later tab u a (record { mode = m; candidate = c }) (budget - used) best)
    turn-stops h = rw (turn-walked, h) refl

    pub turn-comes : {x : Came} {n : ℕ} {w : Result Walk Stopped} → r ≡ Ok x → n ≡ jobs_to tab u a c (last_job tab u a c x.t.0) → w ≡ walked budget (walk_jobs later tab u a m c n 0 (budget - x.used) best) → w ≡ walked budget (walk_turn later tab u a (record { mode = m; candidate = c }) (budget - used) best)
    turn-comes h few e = rw (turn-walked, h, ← few) e

  turns-cons : (s : order.Turn) (rest : List order.Turn) (left : ℕ) (best : walk.Best) → walk_turns later tab u a (s ∷ rest) left best ≡ onward (walk_turn later tab u a s left best) (walk_turns later tab u a rest)
  unfolding walk_turns
  turns-cons s rest left best = go (walk_turn later tab u a s left best)
    where
      go : (w : walk.Walked) → elim w [ through l b ↦ walk_turns later tab u a rest l b | past l ↦ past l | walk.Walked.short ↦ walk.Walked.short ] ≡ onward w (walk_turns later tab u a rest)
      go (through l b) = refl
      go (past l) = refl
      go walk.Walked.short = refl

  turns_keeps : (most : ℕ) (xs : List order.Turn) (left : ℕ) (best : walk.Best) → left ≤ most → Keeps most (walk_turns later tab u a xs left best)
  unfolding walk_turns
  turns_keeps most [] left best h = h
  turns_keeps most (s ∷ xs) left best h =
      rw (turns-cons s xs left best)
      (onward-keeps most (walk_turn later tab u a s left best) (walk_turns later tab u a xs) (turn-keeps most s left best h) (λ l b k. turns_keeps most xs l b k))

  turns-append : (xs ys : List order.Turn) (left : ℕ) (best : walk.Best) → walk_turns later tab u a (xs ++ ys) left best ≡ onward (walk_turns later tab u a xs left best) (walk_turns later tab u a ys)
  unfolding walk_turns
  turns-append [] ys left best = refl
  turns-append (s ∷ xs) ys left best =
      turns-cons s (xs ++ ys) left best
      ∙ go (walk_turn later tab u a s left best) (λ l b. turns-append xs ys l b)
      ∙ ap (λ (w : walk.Walked). onward w (walk_turns later tab u a ys)) (sym (turns-cons s xs left best))
    where
      go : (w : walk.Walked) → ((l : ℕ) (b : walk.Best) → walk_turns later tab u a (xs ++ ys) l b ≡ onward (walk_turns later tab u a xs l b) (walk_turns later tab u a ys)) → onward w (walk_turns later tab u a (xs ++ ys)) ≡ onward (onward w (walk_turns later tab u a xs)) (walk_turns later tab u a ys)
      go (through l b) more = more l b
      go (past l) more = refl
      go walk.Walked.short more = refl

  append-split : {all : List order.Turn} (xs ys : List order.Turn) → all ≡ xs ++ ys → Steps (walk_turns later tab u a all) (walk_turns later tab u a xs) (walk_turns later tab u a ys)
  append-split {all} xs ys e =
      record {
        is = λ left best. rw e (turns-append xs ys left best);
        keeps = λ most left best h. turns_keeps most xs left best h;
      }

  -- the candidates of a mode, one by one
  candidates-split : (m todo c : ℕ) → Steps (walk_turns later tab u a (turns_from tab u a m c (suc todo))) (walk_turns later tab u a (turns_from tab u a m c 1)) (walk_turns later tab u a (turns_from tab u a m (suc c) todo))
  unfolding turns_from from
  candidates-split m todo c = append-split _ _ (go (candidate? tab u a m c) (filter (candidate? tab u a m) (from (suc c) todo)))
    where
      of : ℕ → order.Turn
      of k = record { mode = m; candidate = k }

      go : (d : Dec (Candidate tab u a m c)) (l : List ℕ) → map of (ite {C = List ℕ} d (c ∷ l) l) ≡ map of (ite {C = List ℕ} d (c ∷ []) []) ++ map of l
      go (yes h) l = refl
      go (no h) l = refl

  pub candidates-next : (m n c : ℕ) → c < n → Steps (walk_turns later tab u a (turns_from tab u a m c (n - c))) (walk_turns later tab u a (turns_from tab u a m c 1)) (walk_turns later tab u a (turns_from tab u a m (c + 1) (n - (c + 1))))
  candidates-next m n c l =
      counted (λ todo k. walk_turns later tab u a (turns_from tab u a m k todo)) (λ k. walk_turns later tab u a (turns_from tab u a m k 1)) (candidates-split m) n c l

  pub candidates-none : (m n c : ℕ) → n ≤ c → (left : ℕ) (best : walk.Best) → walk_turns later tab u a (turns_from tab u a m c (n - c)) left best ≡ through left best
  unfolding turns_from from walk_turns
  candidates-none m n c l left best =
      let none : n - c ≡ 0 = omega arith in
      ap (λ (k : ℕ). walk_turns later tab u a (turns_from tab u a m c k) left best) none

  modes-split : (todo m : ℕ) → Steps (walk_turns later tab u a (modes_from tab u a m (suc todo))) (walk_turns later tab u a (mode_turns tab u a m)) (walk_turns later tab u a (modes_from tab u a (suc m) todo))
  unfolding mode_turns turns_by turns_from turns candidates from
  modes-split todo m = append-split _ _ (go (runs? tab u m a) (filter (λ x. runs? tab u x a) (from (suc m) todo)))
    where
      go : (d : Dec (Runs tab u m a)) (l : List ℕ) → turns tab u a (ite {C = List ℕ} d (m ∷ l) l) ≡ turns_by d (turns_from tab u a m 0 (tasks tab u)) ++ turns tab u a l
      go (yes h) l = refl
      go (no h) l = refl

  pub modes-next : (n m : ℕ) → m < n → Steps (walk_turns later tab u a (modes_from tab u a m (n - m))) (walk_turns later tab u a (mode_turns tab u a m)) (walk_turns later tab u a (modes_from tab u a (m + 1) (n - (m + 1))))
  modes-next n m l =
      counted (λ todo k. walk_turns later tab u a (modes_from tab u a k todo)) (λ k. walk_turns later tab u a (mode_turns tab u a k)) modes-split n m l

  pub modes-none : (n m : ℕ) → n ≤ m → (left : ℕ) (best : walk.Best) → walk_turns later tab u a (modes_from tab u a m (n - m)) left best ≡ through left best
  unfolding turns from walk_turns
  modes-none n m l left best =
      let none : n - m ≡ 0 = omega arith in
      ap (λ (k : ℕ). walk_turns later tab u a (modes_from tab u a m k) left best) none

  -- the turn of c where it is a candidate, and none where it is not
  pub candidate-yes : (m c left : ℕ) (best : walk.Best) → Candidate tab u a m c → walk_turns later tab u a (turns_from tab u a m c 1) left best ≡ walk_turn later tab u a (record { mode = m; candidate = c }) left best
  unfolding turns_from from walk_turns
  candidate-yes m c left best h = go (candidate? tab u a m c)
    where
      of : ℕ → order.Turn
      of k = record { mode = m; candidate = k }

      only : (w : walk.Walked) → onward w (walk_turns later tab u a []) ≡ w
      only (through l b) = refl
      only (past l) = refl
      only walk.Walked.short = refl

      go : (d : Dec (Candidate tab u a m c)) → walk_turns later tab u a (map of (ite {C = List ℕ} d (c ∷ []) [])) left best ≡ walk_turn later tab u a (of c) left best
      go (yes h) = turns-cons (of c) [] left best ∙ only (walk_turn later tab u a (of c) left best)
      go (no n) = absurd (n h)

  pub candidate-no : (m c left : ℕ) (best : walk.Best) → ¬ (Candidate tab u a m c) → walk_turns later tab u a (turns_from tab u a m c 1) left best ≡ through left best
  unfolding turns_from from walk_turns
  candidate-no m c left best n = go (candidate? tab u a m c)
    where
      of : ℕ → order.Turn
      of k = record { mode = m; candidate = k }

      go : (d : Dec (Candidate tab u a m c)) → walk_turns later tab u a (map of (ite {C = List ℕ} d (c ∷ []) [])) left best ≡ through left best
      go (yes h) = absurd (n h)
      go (no h) = refl

-- the turns of a mode, where a runs in it and where not
pub mode-runs : (tab : Table) (u a m : ℕ) → Runs tab u m a → mode_turns tab u a m ≡ turns_from tab u a m 0 (tasks tab u)
unfolding mode_turns turns_by
mode-runs tab u a m h = go (runs? tab u m a)
  where
    go : (d : Dec (Runs tab u m a)) → turns_by d (turns_from tab u a m 0 (tasks tab u)) ≡ turns_from tab u a m 0 (tasks tab u)
    go (yes r) = refl
    go (no n) = absurd (n h)

pub mode-idle : (tab : Table) (u a m : ℕ) → ¬ (Runs tab u m a) → mode_turns tab u a m ≡ []
unfolding mode_turns turns_by
mode-idle tab u a m n = go (runs? tab u m a)
  where
    go : (d : Dec (Runs tab u m a)) → turns_by d (turns_from tab u a m 0 (tasks tab u)) ≡ []
    go (yes r) = absurd (n r)
    go (no h) = refl

-- ---- candidates

pub candidate-other : (tab : Table) (u a m c : ℕ) → ¬ (c ≡ a) → tested (candidate? tab u a m c) ≡ tested (rival? tab u a u m c)
unfolding candidate? tested
candidate-other tab u a m c n = go (ℕ_discrete c a) (rival? tab u a u m c)
  where
    go : (d : Dec (c ≡ a)) (r : Dec (Rival tab u a u m c)) → tested (candidate_by {tab = tab} {u = u} {a = a} {m = m} {c = c} d r) ≡ tested r
    go (yes h) r = absurd (n h)
    go (no h) (yes r) = refl
    go (no h) (no r) = refl

-- the task itself is a candidate
pub candidate-own : (tab : Table) (u a m c : ℕ) → c ≡ a → eqb c a ≡ tested (candidate? tab u a m c)
candidate-own tab u a m c e = eq-eqb c a e ∙ sym (tested-yes (candidate? tab u a m c) (inl e))

-- and another is one where it weighs something
pub candidate-weighs : (tab : Table) (u a m c : ℕ) {w : ℕ} → ¬ (c ≡ a) → w ≡ weight tab u a u m c → not (eqb w 0) ≡ tested (candidate? tab u a m c)
candidate-weighs tab u a m c {w} n e = go (ℕ_discrete w 0)
  where
    go : Dec (w ≡ 0) → not (eqb w 0) ≡ tested (candidate? tab u a m c)
    go (yes z) =
        ap not (eq-eqb w 0 z)
        ∙ sym (candidate-other tab u a m c n ∙ spared-flag (rival? tab u a u m c) (weightless tab u a u m c (sym e ∙ z) 1))
    go (no h) =
        ap not (ne_eqb w 0 h)
        ∙ sym (candidate-other tab u a m c n ∙ chosen-flag (rival? tab u a u m c) (weighty tab u a u m c (λ z. h (e ∙ z)) 1))

-- what a flag says of its decision
pub tested-true : {A : Type 0} (d : Dec A) → tested d ≡ true → A
unfolding tested
tested-true (yes h) e = h
tested-true (no n) e = absurd cc

pub tested-false : {A : Type 0} (d : Dec A) → tested d ≡ false → ¬ A
unfolding tested
tested-false (yes h) e = absurd cc
tested-false (no n) e = n
