-- What `all` and `any` say of a range, told of the numbers in it.
use mathlib.Core.Path.{◌≡◌, subst}
use mathlib.Core.Bool.{Bool, true}
use Prim.Native.Nat.{ℕ, ◌+◌, ◌≤◌, ◌<◌}
use native.Mathlib.Omega.{arith}
use lib.ListN.{length}
use Rattle.std.specs.Bool.{MatchBool}
use Rattle.std.specs.List.{range_with_len, AllWithin, HoldsAt}
use Rattle.std.proofs.lemmas.List.FromFn.{length-range_with_len, get_or-range_with_len}

module _ (Yes : ℕ → Type 0) (No : Type 0) {r : Bool} where
  -- each number below n
  pub each-below : (n : ℕ) → MatchBool r (AllWithin Yes (range_with_len 0 n) 0 (length (range_with_len 0 n))) No → r ≡ true → (k : ℕ) → k < n → Yes k
  each-below n all e k l =
      let seen = rw e at all in
      let at = get_or-range_with_len 0 n k 0 l in
      subst Yes (omega (arith, at)) (seen k 0 (omega arith) (omega (arith, length-range_with_len 0 n)))

  -- some number from a on, of n
  pub some-within :
      (a n : ℕ)
      → MatchBool r ((k : ℕ) × (k < length (range_with_len a n)) × HoldsAt Yes (range_with_len a n) k) No
      → r ≡ true
      → (k : ℕ) × (a ≤ k) × (k < a + n) × Yes k
  some-within a n any e =
      let (k, l, h) = rw e at any in
      let few : k < n = omega (arith, length-range_with_len a n) in
      (a + k, omega arith, omega arith, subst Yes (get_or-range_with_len a n k 0 few) (h 0))
