-- Laws of lists by their index, of runs of stores, and of a row that is filled from its front.
use mathlib.Core.Path.{◌≡◌, refl, sym, ap, ◌∙◌}
use mathlib.Core.List.{List, [], ◌∷◌, ◌++◌, append_assoc}
use Prim.Native.Nat.{ℕ, zero, suc, ◌+◌, ◌-◌, ◌*◌, ◌≤◌, ◌<◌}
use native.Mathlib.Nat.{le_of_suc-le-suc, not-suc-le-zero, add-zero, add-suc, suc-add, suc-mul, zero-mul, sub-zero, le_of_eq}
use native.Mathlib.Decide.{dec_lt}
use native.Mathlib.Numerals.{add-one}
use native.Mathlib.Omega.{arith}
use lib.ListN.{length, get_or, drop, set, replicate, length-append, length-set, length-replicate, replicate-append-replicate, get_or-append, get_or-eq_default}
use lib.Seq.{sets, sets-eq, set-set, set-append_left, take-append_seam, drop-append-add, get_or-append-add}
use Rattle.table.specs.Lists.{list_of, joined, padded}

-- ---- lists by their index

pub length-list_of {ℓ} : {A : Type ℓ} (n : ℕ) (f : ℕ → A) → length (list_of n f) ≡ n
unfolding list_of
length-list_of zero f = refl
length-list_of (suc n) f = ap suc (length-list_of n (λ k. f (suc k)))

pub get_or-list_of {ℓ} : {A : Type ℓ} (n : ℕ) (f : ℕ → A) (k : ℕ) (d : A) → k < n → get_or (list_of n f) k d ≡ f k
unfolding list_of
get_or-list_of zero f k d h = absurd (not-suc-le-zero h)
get_or-list_of (suc n) f zero d h = refl
get_or-list_of (suc n) f (suc k) d h = get_or-list_of n (λ i. f (suc i)) k d (le_of_suc-le-suc h)

pub list_of-next {ℓ} : {A : Type ℓ} (n : ℕ) (f : ℕ → A) → list_of (suc n) f ≡ list_of n f ++ (f n ∷ [])
unfolding list_of
list_of-next zero f = refl
list_of-next (suc n) f = ap (λ l. f 0 ∷ l) (list_of-next n (λ k. f (suc k)))

pub joined_same : (n : ℕ) (f g : ℕ → List ℕ) → ((k : ℕ) → k < n → f k ≡ g k) → joined n f ≡ joined n g
unfolding joined
joined_same zero f g same = refl
joined_same (suc n) f g same = rw (joined_same n f g (λ k h. same k (omega arith)), same n (omega arith))

pub length-joined : (n w : ℕ) (f : ℕ → List ℕ) → ((k : ℕ) → k < n → length (f k) ≡ w) → length (joined n f) ≡ n * w
unfolding joined
length-joined zero w f each = sym (zero-mul w)
length-joined (suc n) w f each =
    rw (length-append, length-joined n w f (λ k h. each k (omega arith)), each n (omega arith), suc-mul)

pub joined-grows : (u n : ℕ) (f : ℕ → List ℕ) → u ≤ n → length (joined u f) ≤ length (joined n f)
unfolding joined
joined-grows u zero f h = let e : u ≡ 0 = omega arith in le_of_eq (ap (λ (k : ℕ). length (joined k f)) e)
joined-grows u (suc n) f h =
    elim (dec_lt n u) [
      | yes l ↦
          let e : u ≡ suc n = omega arith in
          le_of_eq (ap (λ (k : ℕ). length (joined k f)) e)
      | no l ↦ omega (arith, joined-grows u n f (omega arith), length-append (joined n f) (f n))
    ]

-- element i of the list u of those that are joined
pub get_or-joined :
    (n u i : ℕ) (f : ℕ → List ℕ)
    → u < n
    → i < length (f u)
    → get_or (joined n f) (length (joined u f) + i) 0 ≡ get_or (f u) i 0
unfolding joined
get_or-joined zero u i f h k = absurd (omega arith)
get_or-joined (suc n) u i f h k =
    elim (dec_lt u n) [
      | yes l ↦
          let next : length (joined (suc u) f) ≡ length (joined u f) + length (f u) = length-append (joined u f) (f u) in
          let within : length (joined u f) + i < length (joined n f) = omega (arith, next, joined-grows (suc u) n f l) in
          get_or-append (joined n f) (f n) 0 (length (joined u f) + i) within ∙ get_or-joined n u i f l k
      | no l ↦
          let e : u ≡ n = omega arith in
          rw e (get_or-append-add (joined n f) (f n) i 0)
    ]

-- ---- runs of stores

pub sets-append : (xs ys l : List ℕ) (i : ℕ) → sets l i (xs ++ ys) ≡ sets (sets l i xs) (i + length xs) ys
sets-append [] ys l i = rw (add-zero i)
sets-append (x ∷ xs) ys l i = rw (sets-append xs ys (set l i x) (suc i), suc-add, add-suc)

-- one more element, and one more list, behind those that are stored

pub store-next :
    (f : ℕ → ℕ) (l : List ℕ) (i k : ℕ) → set (sets l i (list_of k f)) (i + k) (f k) ≡ sets l i (list_of (k + 1) f)
store-next f l i k = rw (add-one k, list_of-next k f, sets-append, length-list_of)

pub join-next :
    (f : ℕ → List ℕ) (l : List ℕ) (i k n : ℕ)
    → length (joined k f) ≡ n
    → sets (sets l i (joined k f)) (i + n) (f k) ≡ sets l i (joined (k + 1) f)
unfolding joined
join-next f l i k n long = rw (add-one k, joined, sets-append, long)

-- stores into a list that is itself stored are stores into that list

set_past : (l : List ℕ) (i j a b : ℕ) → i < j → set (set l j b) i a ≡ set (set l i a) j b
set_past [] i j a b h = refl
set_past (x ∷ xs) i zero a b h = absurd (omega arith)
set_past (x ∷ xs) zero (suc j) a b h = refl
set_past (x ∷ xs) (suc i) (suc j) a b h = ap (λ (l : List ℕ). x ∷ l) (set_past xs i j a b (omega arith))

set_before : (vs l : List ℕ) (i j a : ℕ) → i < j → set (sets l j vs) i a ≡ sets (set l i a) j vs
set_before [] l i j a h = refl
set_before (v ∷ vs) l i j a h =
    set_before vs (set l j v) i (suc j) a (omega arith) ∙ ap (λ (k : List ℕ). sets k (suc j) vs) (set_past l i j a v h)

-- stores that lie before others may be made first
pub sets-before : (ws vs l : List ℕ) (i j : ℕ) → i + length ws ≤ j → sets (sets l j vs) i ws ≡ sets (sets l i ws) j vs
sets-before [] vs l i j h = refl
sets-before (w ∷ ws) vs l i j h = rw (set_before vs l i j w (omega arith)) (sets-before ws vs (set l i w) (suc i) j (omega arith))

set-within : (row l : List ℕ) (j i a : ℕ) → i < length row → set (sets l j row) (j + i) a ≡ sets l j (set row i a)
set-within [] l j i a h = absurd (omega arith)
set-within (r ∷ rs) l j zero a h =
    rw (add-zero j) (set_before rs (set l j r) j (suc j) a (omega arith) ∙ ap (λ (k : List ℕ). sets k (suc j) rs) (set-set l j r a))
set-within (r ∷ rs) l j (suc i) a h = rw (add-suc j i, ← suc-add j i) (set-within rs (set l j r) (suc j) i a (omega arith))

pub sets-within : (vs row l : List ℕ) (j i : ℕ) → i + length vs ≤ length row → sets (sets l j row) (j + i) vs ≡ sets l j (sets row i vs)
sets-within [] row l j i h = refl
sets-within (v ∷ vs) row l j i h =
    rw (set-within row l j i v (omega arith), ← add-suc j i)
    (sets-within vs (set row i v) l j (suc i) (rw (length-set row i v) (omega arith)))

-- stores into the first of two lists leave the second
pub sets_first : (vs xs ys : List ℕ) (i : ℕ) → i + length vs ≤ length xs → sets (xs ++ ys) i vs ≡ sets xs i vs ++ ys
sets_first [] xs ys i h = refl
sets_first (v ∷ vs) xs ys i h =
    rw (set-append_left xs ys i v (omega arith))
    (sets_first vs (set xs i v) ys (suc i) (rw (length-set xs i v) (omega arith)))

pub list_of-zeros : (n : ℕ) → list_of {A = ℕ} n (λ k. 0) ≡ replicate n 0
unfolding list_of
list_of-zeros zero = refl
list_of-zeros (suc n) = ap (λ (l : List ℕ). 0 ∷ l) (list_of-zeros n)

-- ---- a row that is filled from its front

pub length-padded : (n : ℕ) (l : List ℕ) → length l ≤ n → length (padded n l) ≡ n
unfolding padded
length-padded n l h = rw (length-append, length-replicate) (omega arith)

zeros : (n i : ℕ) → get_or (replicate {A = ℕ} n 0) i 0 ≡ 0
zeros zero i = refl
zeros (suc n) zero = refl
zeros (suc n) (suc i) = zeros n i

-- what lies behind the list is 0, as it is past the end of any
pub get_or-padded : (n : ℕ) (l : List ℕ) (i : ℕ) → get_or (padded n l) i 0 ≡ get_or l i 0
unfolding padded
get_or-padded n l i =
    elim (dec_lt i (length l)) [
      | yes h ↦ get_or-append l (replicate (n - length l) 0) 0 i h
      | no h ↦
          let there : i ≡ length l + (i - length l) = omega arith in
          ap (λ (k : ℕ). get_or (l ++ replicate (n - length l) 0) k 0) there
          ∙ get_or-append-add l (replicate (n - length l) 0) (i - length l) 0
          ∙ zeros (n - length l) (i - length l)
          ∙ sym (get_or-eq_default l 0 (omega arith))
    ]

pub padded-again : (n m : ℕ) (l : List ℕ) → length l ≤ m → m ≤ n → padded n (padded m l) ≡ padded n l
unfolding padded
padded-again n m l h k =
    let rest : (m - length l) + (n - m) ≡ n - length l = omega arith in
    rw (length-padded m l h, padded, append_assoc, replicate-append-replicate, rest)

same : (k m : ℕ) → m - k ≡ suc m - suc k
same k m = omega arith

drop-replicate : (k m : ℕ) → drop k (replicate {A = ℕ} m 0) ≡ replicate (m - k) 0
drop-replicate zero m = rw (sub-zero m)
drop-replicate (suc k) zero = let none : 0 - suc k ≡ 0 = omega arith in rw none
drop-replicate (suc k) (suc m) = drop-replicate k m ∙ ap (λ (i : ℕ). replicate {A = ℕ} i 0) (same k m)

pub sets-padded :
    (n : ℕ) (p vs : List ℕ) → length p + length vs ≤ n → sets (padded n p) (length p) vs ≡ padded n (p ++ vs)
unfolding padded
sets-padded n p vs h =
    let room : length p + length vs ≤ length (padded n p) = rw (length-padded n p (omega arith)) h in
    let rest : n - length p - length vs ≡ n - (length p + length vs) = omega arith in
    sets-eq vs (padded n p) (length p) room
    ∙ rw (padded, take-append_seam, drop-append-add, drop-replicate, length-append, rest)
