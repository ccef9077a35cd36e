-- Whether every task keeps its deadline, by the codes.
use mathlib.Core.Bool.{Bool, true, false, cond, true≢false}
use mathlib.Core.Path.{◌≡◌, refl, sym, ap, ◌∙◌}
use mathlib.Core.List.{List}
use Prim.Native.Nat.{ℕ, zero, suc, ◌*◌, ◌≤◌, ◌<◌}
use native.Mathlib.Decide.{dec_lt}
use native.Mathlib.Omega.{arith}
use borrow.Author.Tests.{le-leb, lt-leb, eqb-true, eq-eqb, ne_eqb}
use lib.Dec.{eqb}
use lib.ListN.{length}
use Rattle.told.specs.Cells.{cells_of_task, code_in, has_room, is_kept, are_kept}

module _ (cells : List ℕ) where
  pub kept_here : (k : ℕ) → cells_of_task * suc k ≤ length cells → code_in cells k ≡ 0 → is_kept cells k ≡ true
  unfolding is_kept
  kept_here k room zeroed = rw (le-leb (cells_of_task * suc k) (length cells) room) (eq-eqb (code_in cells k) 0 zeroed)

  pub no_cells : (k : ℕ) → length cells < cells_of_task * suc k → is_kept cells k ≡ false
  unfolding is_kept
  no_cells k short = rw (lt-leb (cells_of_task * suc k) (length cells) short)

  pub other-code : (k : ℕ) → cells_of_task * suc k ≤ length cells → ¬ (code_in cells k ≡ 0) → is_kept cells k ≡ false
  unfolding is_kept
  other-code k room other = rw (le-leb (cells_of_task * suc k) (length cells) room) (ne_eqb (code_in cells k) 0 other)

  -- one task more
  pub kept_next : (k : ℕ) → are_kept cells k ≡ true → is_kept cells k ≡ true → are_kept cells (suc k) ≡ true
  unfolding are_kept
  kept_next k all this = rw (all, this)

  -- one that is not kept is enough
  pub not-kept : (k n : ℕ) → k < n → is_kept cells k ≡ false → are_kept cells n ≡ false
  unfolding are_kept
  not-kept k zero l this = absurd (omega arith)
  not-kept k (suc n) l this = go (dec_lt k n) (λ h. not-kept k n h this)
    where
      either : (b : Bool) → cond b false false ≡ false
      either true = refl
      either false = refl

      go : Dec (k < n) → (k < n → are_kept cells n ≡ false) → cond (are_kept cells n) (is_kept cells n) false ≡ false
      go (yes h) before = rw (before h)
      go (no h) before =
          let same : k ≡ n = omega arith in
          let there : is_kept cells n ≡ false = ap (is_kept cells) (sym same) ∙ this in
          rw there (either (are_kept cells n))

  -- and where all are kept each is, with code 0
  pub kept-each : (k n : ℕ) → k < n → are_kept cells n ≡ true → is_kept cells k ≡ true
  kept-each k n l all = go (is_kept cells k) refl
    where
      go : (b : Bool) → is_kept cells k ≡ b → is_kept cells k ≡ true
      go true e = e
      go false e = absurd (true≢false (sym all ∙ not-kept k n l e))

  pub kept-code : (k : ℕ) → is_kept cells k ≡ true → code_in cells k ≡ 0
  unfolding is_kept
  kept-code k = go (has_room (length cells) (suc k))
    where
      go : (room : Bool) → cond room (eqb (code_in cells k) 0) false ≡ true → code_in cells k ≡ 0
      go true e = eqb-true _ _ e
      go false e = absurd (true≢false (sym e))
