-- Phases and counts of jobs over a period T, signed where document 01 is signed.
use Rattle.std.specs.Prelude.{◌≡◌, refl, [], ◌∷◌, map, ℤ, pos, negsuc, neg_ℤ, ◌-ℤ◌, ℕ, suc, ◌+◌, ◌-◌, ◌/◌, ◌%◌}

-- z mod T, in 0..T−1: −12 by 10 is 8
unfoldable pub remainder : (z : ℤ) (T : ℕ) → ℕ
remainder (pos n) T = n % T
remainder (negsuc n) T = T - suc (n % T)

minus-twelve : remainder (negsuc 11) 10 ≡ 8
unfolding remainder
minus-twelve = refl

-- s / T, rounded up
unfoldable pub ceil : (s T : ℕ) → ℕ
ceil s T = (s + (T - 1)) / T

-- the same for a signed number: −12 by 10 is −1
unfoldable pub ceiling : (z : ℤ) (T : ℕ) → ℤ
ceiling (pos n) T = pos (ceil n T)
ceiling (negsuc n) T = neg_ℤ (pos (suc n / T))

ceilings : map (λ z. ceiling z 10) (negsuc 11 ∷ pos 0 ∷ pos 1 ∷ pos 10 ∷ pos 11 ∷ []) ≡ negsuc 0 ∷ pos 0 ∷ pos 1 ∷ pos 1 ∷ pos 2 ∷ []
unfolding ceiling ceil
ceilings = refl

-- Phase of a task with offset O, when the critical instant is set by a candidate with offset plus jitter y: (O − y) mod T
unfoldable pub phase : (T O y : ℕ) → ℕ
phase T O y = remainder (pos O -ℤ pos y) T

-- T 20, J 0, offsets 0 and 9: each seen from the other
phases : phase 20 9 0 ∷ phase 20 0 9 ∷ [] ≡ 9 ∷ 11 ∷ []
unfolding phase remainder
phases = refl

-- Jobs held back to the instant: floor((J + phase) / T)
unfoldable pub held : (T J phase : ℕ) → ℕ
held T J phase = (J + phase) / T

-- T 10: held-back count of the candidate itself for J = 0, 3, 10, 11
own_held : map (λ J. held 10 J (phase 10 0 J)) (0 ∷ 3 ∷ 10 ∷ 11 ∷ []) ≡ 0 ∷ 1 ∷ 1 ∷ 2 ∷ []
unfolding held phase remainder
own_held = refl
