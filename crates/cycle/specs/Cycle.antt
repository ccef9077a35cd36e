-- Whole cycles of a chain of evaluations: what is seen of one, and how many more there are to count.
use Rattle.std.specs.Prelude.{◌≡◌, refl, ◌⊎◌, ℕ, zero, suc, ◌+◌, ◌*◌, ◌/◌, ◌≤◌, ◌<◌}
use Rattle.std.proofs.Common.{inl, inr, ⊎_elim, arith}

-- Way f D x n y: from x the chain of f comes to y in n evaluations. Each of them rises, and made D later it comes to D more
pub data Way (f : ℕ → ℕ) (D x : ℕ) : (n y : ℕ) → Type 0 where
  none : Way f D x 0 x
  next : {n y : ℕ} → Way f D x n y → y < f y → f (y + D) ≡ f y + D → Way f D x (suc n) (f y)

-- a cycle: the way from x to x + D
abbrev pub Cycle : (f : ℕ → ℕ) (D x n : ℕ) → Type 0
Cycle f D x n = Way f D x n (x + D)

-- 1 + ceil(t/10)·10: from 1 to 11 in one evaluation
tens : ℕ → ℕ
tens t = 1 + (t + 9) / 10 * 10

ten-further : Cycle tens 10 1 1
unfolding tens
ten-further = next none (omega arith) refl

-- how many times y has room in x; nothing has none
unfoldable pub times : (x y : ℕ) → ℕ
times x zero = 0
times x (suc y) = x / suc y

-- Of cycles of D ticks and n evaluations, k are the most that have room in so many ticks and in the evaluations left; where
-- either is 0 there is no cycle to count
pub record Rounds (D n room left k : ℕ) : Type 0 where
  pub ticks : k * D ≤ room
  pub evaluations : k * n ≤ left
  pub most : 0 < D → 0 < n → (room < (k + 1) * D) ⊎ (left < (k + 1) * n)
  pub none : (D ≡ 0) ⊎ (n ≡ 0) → k ≡ 0

-- 10 ticks and 2 evaluations each: 3 in 35 ticks, but 2 where 5 evaluations are left
three : Rounds 10 2 35 100 3
three =
    record { ticks = omega arith; evaluations = omega arith; most = λ d e. inl (omega arith); none = λ x. absurd (⊎_elim (λ e. omega arith) (λ e. omega arith) x) }

two : Rounds 10 2 35 5 2
two =
    record { ticks = omega arith; evaluations = omega arith; most = λ d e. inr (omega arith); none = λ x. absurd (⊎_elim (λ e. omega arith) (λ e. omega arith) x) }

not-four : ¬ (Rounds 10 2 35 100 4)
not-four x = omega (arith, x.ticks)
