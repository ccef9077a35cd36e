-- Job numbers and responses are signed: each is the difference of two natural numbers, and orders, counts and equations
-- between them are reckoned with those.
use mathlib.Core.Path.{◌≡◌, ap}
use lib.IntN.{ℤ, pos, negsuc, neg_ℤ, ◌+ℤ◌, ◌*ℤ◌}
use lib.Signed.{◌≤ℤ◌}
use lib.Dec.{le→leb, leb→le}
use Prim.Native.Nat.{ℕ, zero, suc, ◌+◌, ◌-◌, ◌*◌, ◌≤◌, ◌<◌}
use native.Mathlib.Omega.{arith}
use Rattle.table.specs.Table.{Table, period, offset}
use Rattle.periods.specs.Phase.{ceil}
use Rattle.periods.proofs.Difference.{Diff, subℕ-diff, sub-diff}
use Rattle.periods.proofs.Phase.{phase-lt}
use Rattle.periods.proofs.Charge.{ceiling-is}
use Rattle.analysis.specs.Choice.{count}
use Rattle.analysis.specs.Charge.{phase_of, held_of}
use Rattle.analysis.specs.Bound.{first_job, last_job, jobs_to, response}
use Rattle.analysis.specs.Needed.{job}
use Rattle.analysis.proofs.Join.{jobs-by}

-- z = x − y, as a record so that all three are read off a fact
pub record Minus (z : ℤ) (x y : ℕ) : Type 0 where
  pub by : Diff z x y

-- ---- sums, negatives and multiples

shift : {z : ℤ} {a b c d : ℕ} → Minus z a b → a + d ≡ c + b → Minus z c d
shift {z} {a} {b} {c} {d} x e = record { by = go z x.by }
  where
    go : (z : ℤ) → Diff z a b → Diff z c d
    go (pos n) i = omega arith
    go (negsuc n) i = omega arith

pub minus_pos : (n : ℕ) → Minus (pos n) n 0
minus_pos n = record { by = omega arith }

minus-add : {y z : ℤ} {a b c d : ℕ} → Minus y a b → Minus z c d → Minus (y +ℤ z) (a + c) (b + d)
minus-add {y = pos n} {z = pos k} v w = record { by = omega arith }
minus-add {y = pos n} {z = negsuc k} v w = shift (record { by = subℕ-diff n (suc k) }) (omega arith)
minus-add {y = negsuc n} {z = pos k} v w = shift (record { by = subℕ-diff k (suc n) }) (omega arith)
minus-add {y = negsuc n} {z = negsuc k} v w = record { by = omega arith }

minus-neg : {z : ℤ} {a b : ℕ} → Minus z a b → Minus (neg_ℤ z) b a
minus-neg {z = pos zero} v = record { by = omega arith }
minus-neg {z = pos (suc n)} v = record { by = omega arith }
minus-neg {z = negsuc n} v = record { by = omega arith }

minus-mul : {z : ℤ} {a b : ℕ} → Minus z a b → (t : ℕ) → Minus (z *ℤ pos t) (a * t) (b * t)
minus-mul {z = pos n} v t = record { by = omega (arith, ap (λ (y : ℕ). y * t) v.by) }
minus-mul {z = negsuc n} v t = minus-neg {z = pos (suc n * t)} (record { by = omega (arith, ap (λ (y : ℕ). y * t) v.by) })

-- every signed number is a difference
minus : (z : ℤ) → (x : ℕ) × (y : ℕ) × Minus z x y
minus (pos n) = (n, 0, record { by = omega arith })
minus (negsuc n) = (0, suc n, record { by = omega arith })

-- ---- equations, orders and counts

same : {y z : ℤ} {a b c d : ℕ} → Minus y a b → Minus z c d → a + d ≡ c + b → y ≡ z
same {y = pos n} {z = pos k} v w e = ap pos (omega arith)
same {y = pos n} {z = negsuc k} v w e = absurd (omega arith)
same {y = negsuc n} {z = pos k} v w e = absurd (omega arith)
same {y = negsuc n} {z = negsuc k} v w e = ap negsuc (omega arith)

minus-le : {y z : ℤ} {a b c d : ℕ} → Minus y a b → Minus z c d → a + d ≤ c + b → y ≤ℤ z
minus-le {y = pos n} {z = pos k} v w l = record { le = le→leb n k (omega arith) }
minus-le {y = pos n} {z = negsuc k} v w l = absurd (omega arith)
minus-le {y = negsuc n} {z = pos k} v w l = record { le = tt }
minus-le {y = negsuc n} {z = negsuc k} v w l = record { le = le→leb k n (omega arith) }

pub le-minus : {y z : ℤ} {a b c d : ℕ} → Minus y a b → Minus z c d → y ≤ℤ z → a + d ≤ c + b
le-minus {y = pos n} {z = pos k} v w l = omega (arith, leb→le n k l.le)
le-minus {y = pos n} {z = negsuc k} v w l = absurd l.le
le-minus {y = negsuc n} {z = pos k} v w l = omega arith
le-minus {y = negsuc n} {z = negsuc k} v w l = omega (arith, leb→le k n l.le)

-- a positive count is the number itself
pub count-some : (z : ℤ) {n : ℕ} → count z ≡ n → 1 ≤ n → z ≡ pos n
unfolding count
count-some (pos k) e l = ap pos e
count-some (negsuc k) e l = absurd (omega arith)

pub count-le : (z : ℤ) {n : ℕ} → count z ≤ n → z ≤ℤ pos n
unfolding count
count-le (pos k) {n} l = record { le = le→leb k n l }
count-le (negsuc k) l = record { le = tt }

-- ---- job numbers and responses

module _ (tab : Table) (u a c : ℕ) where
  first-minus : Minus (first_job tab u a c) 1 (held_of tab u c a)
  unfolding first_job
  first-minus = record { by = sub-diff 1 (held_of tab u c a) }

  job-minus : (N : ℕ) → Minus (job tab u a c N) (1 + N) (held_of tab u c a)
  unfolding job
  job-minus N = shift (minus-add first-minus (minus_pos N)) (omega arith)

  -- w − (F + (p − 1)·T) + O for p = p0 + N, where p0 = 1 − held, is w + held·T + O less F + N-as-T
  pub response-minus : (N w : ℕ) → Minus (response tab u a c (job tab u a c N) w) (w + held_of tab u c a * period tab u + offset tab u a) (phase_of tab u c a + N * period tab u)
  unfolding response
  response-minus N w =
      let before = minus-add (job-minus N) (minus-neg (minus_pos 1)) in
      let arrives = minus-add (minus_pos (phase_of tab u c a)) (minus-mul before (period tab u)) in
      let since = minus-add (minus_pos w) (minus-neg arrives) in
      shift (minus-add since (minus_pos (offset tab u a))) (omega arith)

  module _ (T : 0 < period tab u) (t : ℕ) where
    last-minus : Minus (last_job tab u a c t) (jobs_to tab u a c (last_job tab u a c t)) (held_of tab u c a)
    unfolding last_job phase_of
    last-minus =
        let small : phase_of tab u c a < period tab u = phase-lt T _ _ in
        let last = ceiling-is (period tab u) t (phase_of tab u c a) (omega arith) in
        rw (jobs-by tab u a c t T, last) (shift (minus_pos (ceil (t - phase_of tab u c a) (period tab u))) (omega arith))

    -- the jobs from the first to the last by t are those counted from the first
    pub job-range : (N : ℕ) → N < jobs_to tab u a c (last_job tab u a c t) → (first_job tab u a c ≤ℤ job tab u a c N) × (job tab u a c N ≤ℤ last_job tab u a c t)
    job-range N l = (minus-le first-minus (job-minus N) (omega arith), minus-le (job-minus N) last-minus (omega arith))

    pub range-job : (p : ℤ) → first_job tab u a c ≤ℤ p → p ≤ℤ last_job tab u a c t → (N : ℕ) × (N < jobs_to tab u a c (last_job tab u a c t)) × (p ≡ job tab u a c N)
    range-job p f l =
        let (x, y, d) = minus p in
        let low : 1 + y ≤ x + held_of tab u c a = le-minus first-minus d f in
        let high : x + held_of tab u c a ≤ jobs_to tab u a c (last_job tab u a c t) + y = le-minus d last-minus l in
        let N : ℕ = x + held_of tab u c a - (1 + y) in
        (N, omega arith, same d (job-minus N) (omega arith))
