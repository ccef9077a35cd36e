-- The order of turns and of their jobs: of two one comes before the other or they are one, and none comes before itself.
use mathlib.Core.Path.{◌≡◌, refl, sym, ap}
use mathlib.Core.Logic.{◌⊎◌, inl, inr}
use Prim.Native.Nat.{ℕ, ◌<◌}
use native.Mathlib.Decide.{dec_lt}
use native.Mathlib.Omega.{arith}
use Rattle.analysis.specs.Order.{Turn, TurnBefore, Source, SourceBefore}

numbers : (m n : ℕ) → (m ≡ n) ⊎ ((m < n) ⊎ (n < m))
numbers m n = go (dec_lt m n) (dec_lt n m)
  where
    go : Dec (m < n) → Dec (n < m) → (m ≡ n) ⊎ ((m < n) ⊎ (n < m))
    go (yes l) d = inr (inl l)
    go (no h) (yes l) = inr (inr l)
    go (no h) (no l) = inl (omega arith)

pub turn-orders : (x y : Turn) → (x ≡ y) ⊎ (TurnBefore x y ⊎ TurnBefore y x)
turn-orders x y = go (numbers x.mode y.mode) (numbers x.candidate y.candidate)
  where
    go : (x.mode ≡ y.mode) ⊎ ((x.mode < y.mode) ⊎ (y.mode < x.mode)) → (x.candidate ≡ y.candidate) ⊎ ((x.candidate < y.candidate) ⊎ (y.candidate < x.candidate)) → (x ≡ y) ⊎ (TurnBefore x y ⊎ TurnBefore y x)
    go (inr (inl l)) d = inr (inl (TurnBefore.mode l))
    go (inr (inr l)) d = inr (inr (TurnBefore.mode l))
    go (inl e) (inl f) = inl (λ i. record { mode = e i; candidate = f i })
    go (inl e) (inr (inl l)) = inr (inl (TurnBefore.candidate e l))
    go (inl e) (inr (inr l)) = inr (inr (TurnBefore.candidate (sym e) l))

pub source-orders : (x y : Source) → (x ≡ y) ⊎ (SourceBefore x y ⊎ SourceBefore y x)
source-orders x y = go (turn-orders x.turn y.turn) (numbers x.job y.job)
  where
    go : (x.turn ≡ y.turn) ⊎ (TurnBefore x.turn y.turn ⊎ TurnBefore y.turn x.turn) → (x.job ≡ y.job) ⊎ ((x.job < y.job) ⊎ (y.job < x.job)) → (x ≡ y) ⊎ (SourceBefore x y ⊎ SourceBefore y x)
    go (inr (inl l)) d = inr (inl (SourceBefore.turn l))
    go (inr (inr l)) d = inr (inr (SourceBefore.turn l))
    go (inl e) (inl f) = inl (λ i. record { turn = e i; job = f i })
    go (inl e) (inr (inl l)) = inr (inl (SourceBefore.job e l))
    go (inl e) (inr (inr l)) = inr (inr (SourceBefore.job (sym e) l))

pub turn-asymmetric : {x y : Turn} → TurnBefore x y → TurnBefore y x → ⊥
turn-asymmetric (TurnBefore.mode l) (TurnBefore.mode m) = omega arith
turn-asymmetric (TurnBefore.mode l) (TurnBefore.candidate e m) = omega (arith, e)
turn-asymmetric (TurnBefore.candidate e l) (TurnBefore.mode m) = omega (arith, e)
turn-asymmetric (TurnBefore.candidate e l) (TurnBefore.candidate f m) = omega arith

-- none comes before itself
pub turn-other : {x y : Turn} → x ≡ y → TurnBefore x y → ⊥
turn-other e (TurnBefore.mode l) = omega (arith, ap (λ (t : Turn). t.mode) e)
turn-other e (TurnBefore.candidate f l) = omega (arith, ap (λ (t : Turn). t.candidate) e)

pub source-asymmetric : {x y : Source} → SourceBefore x y → SourceBefore y x → ⊥
source-asymmetric (SourceBefore.turn l) (SourceBefore.turn m) = turn-asymmetric l m
source-asymmetric (SourceBefore.turn l) (SourceBefore.job e m) = turn-other (sym e) l
source-asymmetric (SourceBefore.job e l) (SourceBefore.turn m) = turn-other (sym e) m
source-asymmetric (SourceBefore.job e l) (SourceBefore.job f m) = omega arith

pub source-irreflexive : {x : Source} → SourceBefore x x → ⊥
source-irreflexive b = source-asymmetric b b
