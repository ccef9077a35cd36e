-- Chains of evaluations, apart from any budget. Each evaluation puts the present t in.
use Rattle.std.specs.Prelude.{◌≡◌, ℕ, suc}

-- how a chain ends: t came back, or a value was over
pub data End : Type 0 where
  came : ℕ → End
  over : End

-- Chain f Over t n e: from t the chain of f makes n evaluations and ends as e says. A value that is `Over` ends it
pub data Chain (f : ℕ → ℕ) (Over : ℕ → Type 0) : (t n : ℕ) (e : End) → Type 0 where
  back : {t : ℕ} → f t ≡ t → Chain f Over t 1 (came t)
  past : {t : ℕ} → ¬ (f t ≡ t) → Over (f t) → Chain f Over t 1 over
  on : {t n : ℕ} {e : End} → ¬ (f t ≡ t) → ¬ (Over (f t)) → Chain f Over (f t) n e → Chain f Over t (suc n) e
