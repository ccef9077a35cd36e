-- Groups of cells that are laid one behind the other, as a loop stores them.
use mathlib.Core.Path.{◌≡◌, refl, sym, ap₂, ◌∙◌}
use mathlib.Core.List.{List, [], ◌∷◌}
use native.Mathlib.Nat.{add-zero, add-suc, suc-add}
use native.Mathlib.Decide.{dec_lt}
use Prim.Native.Nat.{ℕ, zero, suc, ◌+◌, ◌*◌, ◌≤◌, ◌<◌}
use native.Mathlib.Numerals.{add-one}
use native.Mathlib.Omega.{arith}
use lib.ListN.{length, get_or, set, length-set}
use lib.Seq.{sets, length-sets, get_or-set_same, get_or-set_other}
use borrow.Author.Tests.{lt-ltb, le-ltb}
use borrow.Rule.Slice.PartMut.{put_mid}
use Rattle.told.proofs.Cells.{mid-sets}
use Rattle.parts.specs.declared.Charge.{Charge}
use Rattle.parts.specs.declared.Part.{Part}
use Rattle.parts.specs.declared.Part.TheVariants as part
use Rattle.account.specs.Account.{group_cells, stored, laid, charge_cells}

module _ (at count i : ℕ) (group before : List ℕ) where
  pub stored_there : i < count → stored at count i group before ≡ sets before (at + group_cells * i) group
  unfolding stored
  stored_there l = rw (lt-ltb i count l)

  pub stored-nowhere : count ≤ i → stored at count i group before ≡ before
  unfolding stored
  stored-nowhere l = rw (le-ltb i count l)

  -- copied there as a slice
  pub stored-mid : (k : ℕ) → length group ≡ k → at + group_cells * i + k ≤ length before → i < count → put_mid (at + group_cells * i) k before group ≡ stored at count i group before
  stored-mid k size room l = mid-sets (at + group_cells * i) k before group size room ∙ sym (stored_there l)

-- ---- a run of stores, cell by cell

sets_below : (vs l : List ℕ) (i q : ℕ) → q < i → get_or (sets l i vs) q 0 ≡ get_or l q 0
sets_below [] l i q h = refl
sets_below (v ∷ vs) l i q h = sets_below vs (set l i v) (suc i) q (omega arith) ∙ get_or-set_other l i q v 0 (λ e. omega (arith, e))

sets-in : (vs l : List ℕ) (i k : ℕ) → k < length vs → i + length vs ≤ length l → get_or (sets l i vs) (i + k) 0 ≡ get_or vs k 0
sets-in [] l i k h room = omega arith
sets-in (v ∷ vs) l i zero h room =
    rw (add-zero i) (sets_below vs (set l i v) (suc i) i (omega arith) ∙ get_or-set_same l i v 0 (omega arith))
sets-in (v ∷ vs) l i (suc k) h room =
    rw (add-suc i k, ← suc-add i k) (sets-in vs (set l i v) (suc i) k (omega arith) (rw (length-set l i v) (omega arith)))

-- ---- groups

-- any case of a transaction's answer but the last charges nothing
pub no-charge : (x : Part) → ((c : Charge) → x ≡ part.Charged c → ⊥) → charge_cells x ≡ []
no-charge part.NoBound k = refl
no-charge part.Own k = refl
no-charge part.NoTransaction k = refl
no-charge part.NoRivals k = refl
no-charge (part.Charged c) k = absurd (k c refl)

pub charge-short : (x : Part) → length (charge_cells x) ≤ group_cells
charge-short part.NoBound = omega arith
charge-short part.Own = omega arith
charge-short part.NoTransaction = omega arith
charge-short part.NoRivals = omega arith
charge-short (part.Charged c) = omega arith

module _ (at : ℕ) (group : ℕ → List ℕ) (before : List ℕ) where
  pub laid_none : before ≡ laid at 0 group before
  unfolding laid
  laid_none = refl

  -- one group more
  pub laid_next : (count i : ℕ) → i < count → stored at count i (group i) (laid at i group before) ≡ laid at (i + 1) group before
  unfolding laid
  laid_next count i l = stored_there at count i (group i) (laid at i group before) l ∙ rw (add-one i)

  pub length-laid : (n : ℕ) → length (laid at n group before) ≡ length before
  unfolding laid
  length-laid zero = refl
  length-laid (suc n) = length-sets (laid at n group before) (at + group_cells * n) (group n) ∙ length-laid n

  -- what lies in front of them stays
  pub laid-before : (n q : ℕ) → q < at → get_or (laid at n group before) q 0 ≡ get_or before q 0
  unfolding laid
  laid-before zero q l = refl
  laid-before (suc n) q l = sets_below (group n) (laid at n group before) (at + group_cells * n) q (omega arith) ∙ laid-before n q l

  -- each stands in its cells
  pub laid-at :
      (n : ℕ)
      → ((i : ℕ) → i < n → length (group i) ≤ group_cells)
      → at + group_cells * n ≤ length before
      → (i k : ℕ)
      → i < n
      → k < length (group i)
      → get_or (laid at n group before) (at + group_cells * i + k) 0 ≡ get_or (group i) k 0
  unfolding laid
  laid-at zero short room i k l h = omega arith
  laid-at (suc n) short room i k l h =
      elim (dec_lt i n) [
        | yes m ↦
            sets_below (group n) (laid at n group before) (at + group_cells * n) (at + group_cells * i + k) (omega (arith, short i l))
            ∙ laid-at n (λ i m. short i (omega arith)) (omega arith) i k m h
        | no m ↦
            let e : i ≡ n = omega arith in
            rw e (sets-in (group n) (laid at n group before) (at + group_cells * n) k (rw e at h) (rw (length-laid n) (omega (arith, short n (omega arith)))))
      ]

-- the same groups into the same cells
pub laid_same :
    (at n : ℕ) {f g : ℕ → List ℕ} (before : List ℕ)
    → ((i : ℕ) → i < n → f i ≡ g i)
    → laid at n f before ≡ laid at n g before
unfolding laid
laid_same at zero before same = refl
laid_same at (suc n) before same =
    ap₂ (λ (l v : List ℕ). sets l (at + group_cells * n) v) (laid_same at n before (λ i l. same i (omega arith))) (same n (omega arith))
