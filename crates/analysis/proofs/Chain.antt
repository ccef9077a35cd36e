-- Chains over any function: a chain has one length and one end, the budgeted chain computes them, and a chain that never
-- falls ends at the least t that its function does not raise, or over.
use mathlib.Core.Path.{◌≡◌, refl, ap}
use Prim.Native.Nat.{ℕ, zero, suc, ◌+◌, ◌-◌, ◌≤◌, ◌<◌}
use native.Mathlib.Nat.{le_refl, le_trans, le_of_eq, suc-sub-suc}
use native.Mathlib.Decide.{dec_lt, ℕ_discrete}
use native.Mathlib.Omega.{arith}
use Rattle.analysis.specs.Choice.{Least}
use Rattle.analysis.specs.Chain.{End, came, over, Chain, back, past, on}
use Rattle.analysis.specs.Walk.{Stop, ended, short, chain}

-- how the chain from t ends
pub record Ends (f : ℕ → ℕ) (Over : ℕ → Type 0) (t : ℕ) : Type 0 where
  pub length : ℕ
  pub end : End
  pub chain : Chain f Over t length end

module _ {f : ℕ → ℕ} {Over : ℕ → Type 0} where
  pub chain_same : {t n k : ℕ} {e x : End} → Chain f Over t n e → Chain f Over t k x → (n ≡ k) × (e ≡ x)
  chain_same (back h) (back g) = (refl, refl)
  chain_same (back h) (past g o) = absurd (g h)
  chain_same (back h) (on g o r) = absurd (g h)
  chain_same (past h o) (back g) = absurd (h g)
  chain_same (past h o) (past g p) = (refl, refl)
  chain_same (past h o) (on g p r) = absurd (p o)
  chain_same (on h o r) (back g) = absurd (h g)
  chain_same (on h o r) (past g p) = absurd (o p)
  chain_same (on h o r) (on g p q) = let (i, j) = chain_same r q in (ap suc i, j)

module _ (f : ℕ → ℕ) {Over : ℕ → Type 0} (over? : (v : ℕ) → Dec (Over v)) where
  -- one evaluation of the budgeted chain, by the three ways a chain goes
  step_back : (t left : ℕ) → f t ≡ t → chain f over? (suc left) t ≡ ended (came t) left
  unfolding chain
  step_back t left h = go (ℕ_discrete (f t) t)
    where
      go : (d : Dec (f t ≡ t)) → elim d [ yes e ↦ ended (came t) left | no g ↦ elim (over? (f t)) [ yes o ↦ ended over left | no o ↦ chain f over? left (f t) ] ] ≡ ended (came t) left
      go (yes e) = refl
      go (no g) = absurd (g h)

  step_past : (t left : ℕ) → ¬ (f t ≡ t) → Over (f t) → chain f over? (suc left) t ≡ ended over left
  unfolding chain
  step_past t left h o = go (ℕ_discrete (f t) t) (over? (f t))
    where
      go : (d : Dec (f t ≡ t)) (p : Dec (Over (f t))) → elim d [ yes e ↦ ended (came t) left | no g ↦ elim p [ yes q ↦ ended over left | no q ↦ chain f over? left (f t) ] ] ≡ ended over left
      go (yes e) p = absurd (h e)
      go (no g) (yes q) = refl
      go (no g) (no q) = absurd (q o)

  pub step-on : (t left : ℕ) → ¬ (f t ≡ t) → ¬ (Over (f t)) → chain f over? (suc left) t ≡ chain f over? left (f t)
  unfolding chain
  step-on t left h o = go (ℕ_discrete (f t) t) (over? (f t))
    where
      go : (d : Dec (f t ≡ t)) (p : Dec (Over (f t))) → elim d [ yes e ↦ ended (came t) left | no g ↦ elim p [ yes q ↦ ended over left | no q ↦ chain f over? left (f t) ] ] ≡ chain f over? left (f t)
      go (yes e) p = absurd (h e)
      go (no g) (yes q) = absurd (o q)
      go (no g) (no q) = refl

  -- with as many evaluations left as the chain makes, the budgeted chain ends as the chain does
  pub chain-enough : {t n : ℕ} {e : End} → Chain f Over t n e → (left : ℕ) → n ≤ left → chain f over? left t ≡ ended e (left - n)
  chain-enough (back h) zero l = absurd (omega arith)
  chain-enough {t} (back h) (suc left) l = rw (step_back t left h) (ap (ended (came t)) (omega arith))
  chain-enough (past h o) zero l = absurd (omega arith)
  chain-enough {t} (past h o) (suc left) l = rw (step_past t left h o) (ap (ended over) (omega arith))
  chain-enough (on h o r) zero l = absurd (omega arith)
  chain-enough {t} (on {n = n} h o r) (suc left) l =
      rw (step-on t left h o, suc-sub-suc left n) (chain-enough r left (omega arith))

  -- with fewer, one more is due when none is left
  pub chain-short : {t n : ℕ} {e : End} → Chain f Over t n e → (left : ℕ) → left < n → chain f over? left t ≡ short
  unfolding chain
  chain-short (back h) zero l = refl
  chain-short (back h) (suc left) l = absurd (omega arith)
  chain-short (past h o) zero l = refl
  chain-short (past h o) (suc left) l = absurd (omega arith)
  chain-short (on h o r) zero l = refl
  chain-short {t} (on h o r) (suc left) l = rw (step-on t left h o) (chain-short r left (omega arith))

-- The other way round: a budgeted chain that ended is a chain of as many evaluations as it made
abbrev pub Ended : (f : ℕ → ℕ) (Over : ℕ → Type 0) (left t : ℕ) → Stop → Type 0
Ended f Over left t (ended e l) = (n : ℕ) × (n + l ≡ left) × Chain f Over t n e
Ended f Over left t short = Unit {0}

pub chain-ended : (f : ℕ → ℕ) {Over : ℕ → Type 0} (over? : (v : ℕ) → Dec (Over v)) (left t : ℕ) → Ended f Over left t (chain f over? left t)
unfolding chain
chain-ended f over? zero t = tt
chain-ended f {Over} over? (suc left) t = go (ℕ_discrete (f t) t) (over? (f t)) (chain f over? left (f t)) (chain-ended f over? left (f t))
  where
    go : (d : Dec (f t ≡ t)) (o : Dec (Over (f t))) (rest : Stop) → Ended f Over left (f t) rest → Ended f Over (suc left) t (elim d [ yes e ↦ ended (came t) left | no g ↦ elim o [ yes q ↦ ended over left | no q ↦ rest ] ])
    go (yes e) o rest r = (1, omega arith, back e)
    go (no g) (yes q) rest r = (1, omega arith, past g q)
    go (no g) (no q) (ended e l) (n, is, c) = (suc n, omega arith, on g q c)
    go (no g) (no q) short r = tt

-- where t comes back, the function does not change it
pub came-fixed : {f : ℕ → ℕ} {Over : ℕ → Type 0} {t n w : ℕ} → Chain f Over t n (came w) → f w ≡ w
came-fixed (back h) = h
came-fixed (on h o r) = came-fixed r

-- The chain from x of a function that is monotone from there on, and does not fall at x
module _ {f : ℕ → ℕ} {Over : ℕ → Type 0} {x : ℕ} (mono : (s t : ℕ) → x ≤ s → s ≤ t → f s ≤ f t) (rises : x ≤ f x) where
  -- It ends, since it rises with each evaluation, and keeps below b until a value is over
  ends-from : (over? : (v : ℕ) → Dec (Over v)) (b : ℕ) → ((t : ℕ) → x ≤ t → t ≤ b → ¬ (Over (f t)) → f t ≤ b) → (left t : ℕ) → b < t + left → x ≤ t → t ≤ f t → t ≤ b → Ends f Over t
  ends-from over? b keeps zero t l h r k = absurd (omega arith)
  ends-from over? b keeps (suc left) t l h r k = go (ℕ_discrete (f t) t) (over? (f t))
      (λ n o. ends-from over? b keeps left (f t) (omega arith) (omega arith) (mono t (f t) h r) (keeps t h k o))
    where
      go : Dec (f t ≡ t) → Dec (Over (f t)) → (¬ (f t ≡ t) → ¬ (Over (f t)) → Ends f Over (f t)) → Ends f Over t
      go (yes e) d rest = record { length = 1; end = came t; chain = back e }
      go (no n) (yes o) rest = record { length = 1; end = over; chain = past n o }
      go (no n) (no o) rest =
          let z : Ends f Over (f t) = rest n o in
          record { length = suc z.length; end = z.end; chain = on n o z.chain }

  pub chain-ends : (over? : (v : ℕ) → Dec (Over v)) (b : ℕ) → x ≤ b → ((t : ℕ) → x ≤ t → t ≤ b → ¬ (Over (f t)) → f t ≤ b) → Ends f Over x
  chain-ends over? b h keeps = ends-from over? b keeps (suc b) x (omega arith) (le_refl x) rises h

  -- it never passes a b that the function does not raise, since each of its values is at most f b
  came-below : {t n w : ℕ} → Chain f Over t n (came w) → x ≤ t → t ≤ f t → (b : ℕ) → t ≤ b → f b ≤ b → w ≤ b
  came-below (back h) k r b l q = l
  came-below {t} (on h o c) k r b l q =
      came-below c (omega arith) (mono t (f t) k r) b (le_trans (mono t b k l) q) q

  came-above : {t n w : ℕ} → Chain f Over t n (came w) → x ≤ t → t ≤ f t → t ≤ w
  came-above (back h) k r = le_refl _
  came-above {t} (on h o c) k r = le_trans r (came-above c (le_trans k r) (mono t (f t) k r))

  -- So where it comes back is the least t that the function does not raise
  pub came-least : {n w : ℕ} → Chain f Over x n (came w) → Least (λ t. (x ≤ t) × (f t ≤ t)) w
  came-least chain =
      record {
        has = (came-above chain (le_refl x) rises, le_of_eq (came-fixed chain));
        least = λ b h. came-below chain (le_refl x) rises b h.0 h.1;
      }

  keeps-from : {Beyond : ℕ → Type 0} {t n w : ℕ} → Chain f Over t n (came w) → x ≤ t → t ≤ f t → ((v : ℕ) → v ≤ w → ¬ (Beyond v)) → Chain f Beyond t n (came w)
  keeps-from (back h) k r z = back h
  keeps-from {t} (on h o c) k r z =
      let l : x ≤ f t = le_trans k r in
      let q : f t ≤ f (f t) = mono t (f t) k r in
      on h (z (f t) (came-above c l q)) (keeps-from c l q z)

  -- No value of it passes where it comes back: another end for values beyond that changes nothing
  pub came-keeps : {Beyond : ℕ → Type 0} {n w : ℕ} → Chain f Over x n (came w) → ((v : ℕ) → v ≤ w → ¬ (Beyond v)) → Chain f Beyond x n (came w)
  came-keeps chain z = keeps-from chain (le_refl x) rises z

  over-from : {t n : ℕ} → Chain f Over t n over → x ≤ t → t ≤ f t → (b : ℕ) → ((v : ℕ) → Over v → b < v) → t ≤ b → ¬ (f b ≤ b)
  over-from {t} (past h o) k r b z l q =
      let a : b < f t = z (f t) o in
      let m : f t ≤ f b = mono t b k l in
      omega arith
  over-from {t} (on h o c) k r b z l q =
      over-from c (omega arith) (mono t (f t) k r) b z (le_trans (mono t b k l) q) q

  -- where it ends over, the function raises every b below what is over
  pub over_none : {n : ℕ} → Chain f Over x n over → (b : ℕ) → ((v : ℕ) → Over v → b < v) → x ≤ b → ¬ (f b ≤ b)
  over_none chain b z l = over-from chain (le_refl x) rises b z l

-- what comes back is not over
pub came-within : {f : ℕ → ℕ} {Over : ℕ → Type 0} {t n w : ℕ} → Chain f Over t n (came w) → (b : ℕ) → ((v : ℕ) → ¬ (Over v) → v ≤ b) → t ≤ b → w ≤ b
came-within (back h) b z l = l
came-within {f} {t} (on h o c) b z l = came-within c b z (z (f t) o)

-- The chain from x that ends over where a value passes H
module _ {f : ℕ → ℕ} {x H : ℕ} (mono : (s t : ℕ) → x ≤ s → s ≤ t → f s ≤ f t) (rises : x ≤ f x) (low : x ≤ H) where
  H-ends : Ends f (λ v. H < v) x
  H-ends = chain-ends mono rises (λ v. dec_lt H v) H low (λ t h k o. omega arith)

  -- where some t in x..H is not raised, it comes back at the least such t
  pub comes : (t : ℕ) → x ≤ t → t ≤ H → f t ≤ t → (n : ℕ) × (w : ℕ) × Chain f (λ v. H < v) x n (came w) × Least (λ s. (x ≤ s) × (f s ≤ s)) w
  comes t h l q = go H-ends.end H-ends.chain
    where
      go : (e : End) → Chain f (λ v. H < v) x H-ends.length e → (n : ℕ) × (w : ℕ) × Chain f (λ v. H < v) x n (came w) × Least (λ s. (x ≤ s) × (f s ≤ s)) w
      go (came w) c = (H-ends.length, w, c, came-least mono rises c)
      go over c = absurd (over_none mono rises c t (λ v o. omega arith) h q)

  -- and where none is, it ends over
  pub passes : ((t : ℕ) → x ≤ t → t ≤ H → ¬ (f t ≤ t)) → (n : ℕ) × Chain f (λ v. H < v) x n over
  passes none = go H-ends.end H-ends.chain
    where
      go : (e : End) → Chain f (λ v. H < v) x H-ends.length e → (n : ℕ) × Chain f (λ v. H < v) x n over
      go (came w) c =
          let l : Least (λ s. (x ≤ s) × (f s ≤ s)) w = came-least mono rises c in
          absurd (none w l.has.0 (came-within c H (λ v o. omega arith) low) l.has.1)
      go over c = (H-ends.length, c)
