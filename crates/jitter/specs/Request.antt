-- What one task requests by t, exactly and by a line: source document 003, with the ceiling where it prints a floor. T is the task's
-- period, J its jitter and C its time.
use Rattle.std.specs.Prelude.{◌≡◌, refl, [], ◌∷◌, map, ℕ, ◌+◌, ◌*◌, ◌-◌, ◌≤◌}
use Rattle.std.proofs.Math.Decide.{dec_le}
use Rattle.periods.specs.Phase.{ceil}

-- ceil((t + J)/T)·C
unfoldable pub request : (T J C t : ℕ) → ℕ
request T J C t = ceil (t + J) T * C

-- T 10, J 3, C 4, at t = 0, 7, 8, 17, 18: at t = 7 the jitter and t are one period
requests : map (request 10 3 4) (0 ∷ 7 ∷ 8 ∷ 17 ∷ 18 ∷ []) ≡ 4 ∷ 4 ∷ 8 ∷ 8 ∷ 12 ∷ []
unfolding request ceil
requests = refl

-- t is at most (k − 1)·T − J
abbrev pub IsExact : (k T J t : ℕ) → Type 0
IsExact k T J t = t + J ≤ (k - 1) * T

-- The approximation in T-ths of a tick: the request up to there, and C + (t + J)·C/T beyond
unfoldable pub approximate_by : {A : Type 0} → Dec A → (T J C t : ℕ) → ℕ
approximate_by (yes h) T J C t = request T J C t * T
approximate_by (no h) T J C t = C * T + (t + J) * C

unfoldable pub approximate : (k T J C t : ℕ) → ℕ
approximate k T J C t = approximate_by (dec_le (t + J) ((k - 1) * T)) T J C t

-- T 10, J 3, C 4, k 3: exact up to t = 17; at t = 27 it is exactly C above the request of 12 ticks
approximations : map (approximate 3 10 3 4) (0 ∷ 17 ∷ 18 ∷ 27 ∷ 28 ∷ []) ≡ 40 ∷ 80 ∷ 124 ∷ 160 ∷ 164 ∷ []
unfolding approximate approximate_by request ceil dec_le
approximations = refl

excess : request 10 3 4 27 * 10 + 4 * 10 ≡ approximate 3 10 3 4 27
unfolding approximate approximate_by request ceil dec_le
excess = refl

-- with k 1 no t is exact where there is jitter: (k − 1)·T − J is below 0
jitter-first : approximate 1 10 1 3 0 ∷ approximate 1 10 0 3 0 ∷ [] ≡ 33 ∷ 0 ∷ []
unfolding approximate approximate_by request ceil dec_le
jitter-first = refl
