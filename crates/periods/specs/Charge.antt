-- What the jobs of one task charge that arrive after the instant, s = t − phase after the first of them. Signed, so that
-- nothing is charged where s is 0 or below.
use Rattle.std.specs.Prelude.{◌≡◌, refl, [], ◌∷◌, map, ℤ, pos, negsuc, ◌-ℤ◌, ℕ, ◌+◌, ◌*◌, ◌/◌, ◌%◌, min}
use Rattle.periods.specs.Phase.{ceil}

-- floor(s/T)·C + min(s mod T, C)
unfoldable pub imposed : (T C : ℕ) (s : ℤ) → ℕ
imposed T C (pos s) = s / T * C + min (s % T) C
imposed T C (negsuc n) = 0

-- T 10, C 4, phase 2, at t = 1, 2, 3, 6, 12, 13
imposed-at : map (λ t. imposed 10 4 (pos t -ℤ pos 2)) (1 ∷ 2 ∷ 3 ∷ 6 ∷ 12 ∷ 13 ∷ []) ≡ 0 ∷ 0 ∷ 1 ∷ 4 ∷ 4 ∷ 5 ∷ []
unfolding imposed
imposed-at = refl

-- ceil(s/T)·C
unfoldable pub released : (T C : ℕ) (s : ℤ) → ℕ
released T C (pos s) = ceil s T * C
released T C (negsuc n) = 0

released-at : map (λ t. released 10 4 (pos t -ℤ pos 2)) (1 ∷ 2 ∷ 3 ∷ 6 ∷ 12 ∷ 13 ∷ []) ≡ 0 ∷ 0 ∷ 4 ∷ 4 ∷ 4 ∷ 8 ∷ []
unfolding released ceil
released-at = refl
