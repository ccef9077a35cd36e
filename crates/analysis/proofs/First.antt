-- The first that gives the greatest is one, and the walk's way of keeping it finds it: along settings in ascending order a later one
-- counts only if it gives more.
use mathlib.Core.Path.{◌≡◌, refl, sym, subst, subst₂}
use mathlib.Core.Logic.{◌⊎◌, inl, inr}
use mathlib.Core.List.Memᴰ
use mathlib.Core.List.{
  List,
  [],
  ◌∷◌,
  ◌++◌,
  Memᴰ,
}
use Prim.Native.Nat.{ℕ, ◌≤◌, ◌<◌}
use native.Mathlib.Nat.{le_refl, le_trans, le_antisymm}
use native.Mathlib.Decide.{dec_lt}
use native.Mathlib.Omega.{arith}
use Rattle.analysis.specs.First.{First}
use Rattle.analysis.specs.Order.{SourceBefore}
use Rattle.analysis.specs.Walk.{Best, nothing, better_by, better}
use Rattle.analysis.specs.Cases
use Rattle.analysis.proofs.Before.{source-irreflexive, source-asymmetric}

-- There is no other first, where of two settings one comes before the other or they are one
pub first-unique : {A : Type 0} {Before : A → A → Type 0} {Gives : A → ℕ → Type 0} → ((x y : A) → (x ≡ y) ⊎ (Before x y ⊎ Before y x)) → {x y : A} {r s : ℕ} → First Before Gives x r → First Before Gives y s → (x ≡ y) × (r ≡ s)
first-unique {Before} orders {x} {y} {r} {s} h k =
    (go (orders x y), le_antisymm (k.greatest x r h.gives) (h.greatest y s k.gives))
  where
    go : (x ≡ y) ⊎ (Before x y ⊎ Before y x) → x ≡ y
    go (inl e) = e
    go (inr (inl b)) = absurd (omega (arith, k.first x r b h.gives, h.greatest y s k.gives))
    go (inr (inr b)) = absurd (omega (arith, h.first y s b k.gives, k.greatest x r h.gives))

-- ---- lists in ascending order

pub data Ascending {A : Type 0} (Before : A → A → Type 0) : List A → Type 0 where
  none : Ascending Before []
  one : {x : A} {xs : List A} → ((y : A) → Memᴰ y xs → Before x y) → Ascending Before xs → Ascending Before (x ∷ xs)

pub ascending-append : {A : Type 0} {Before : A → A → Type 0} {xs ys : List A} → Ascending Before xs → Ascending Before ys → ((x y : A) → Memᴰ x xs → Memᴰ y ys → Before x y) → Ascending Before (xs ++ ys)
ascending-append none ups across = ups
ascending-append {A} {Before} {ys = ys} (one {x = x} {xs = xs} least up) ups across =
    one (λ y h. go (Memᴰ.append_cases xs h)) (ascending-append up ups (λ v w h k. across v w (Memᴰ.tail h) k))
  where
    go : {y : A} → Memᴰ y xs ⊎ Memᴰ y ys → Before x y
    go {y} (inl h) = least y h
    go {y} (inr h) = across x y (Memᴰ.head refl) h

-- ---- the better of two, and the best of a list

better-cases : (x y : Best) → ((better x y ≡ x) × (y.response ≤ x.response)) ⊎ ((better x y ≡ y) × (x.response < y.response))
unfolding better better_by
better-cases x y = go (dec_lt x.response y.response)
  where
    go : (d : Dec (x.response < y.response)) → ((better_by d x y ≡ x) × (y.response ≤ x.response)) ⊎ ((better_by d x y ≡ y) × (x.response < y.response))
    go (yes l) = inr (refl, l)
    go (no l) = inl (refl, omega arith)

-- along a list, after x
unfoldable pub best_over : Best → List Best → Best
best_over x [] = x
best_over x (y ∷ ys) = best_over (better x y) ys

pub best-append : (x : Best) (ys zs : List Best) → best_over x (ys ++ zs) ≡ best_over (best_over x ys) zs
unfolding best_over
best-append x [] zs = refl
best-append x (y ∷ ys) zs = best-append (better x y) ys zs

-- it gives no less than x and each of the list
pub best-most : (x : Best) (ys : List Best) → (x.response ≤ (best_over x ys).response) × ((y : Best) → Memᴰ y ys → y.response ≤ (best_over x ys).response)
unfolding best_over
best-most x [] = (le_refl _, λ y h. absurd (Memᴰ.not-nil h))
best-most x (y ∷ ys) = go (better-cases x y) (best-most (better x y) ys)
  where
    all : (w : Best) {z : Best} → y.response ≤ w.response → ((v : Best) → Memᴰ v ys → v.response ≤ w.response) → (z ≡ y) ⊎ Memᴰ z ys → z.response ≤ w.response
    all w l more (inl e) = subst (λ (v : Best). v.response ≤ w.response) (sym e) l
    all w {z} l more (inr h) = more z h

    Most : Best → Type 0
    Most w = (x.response ≤ w.response) × ((z : Best) → Memᴰ z (y ∷ ys) → z.response ≤ w.response)

    go : ((better x y ≡ x) × (y.response ≤ x.response)) ⊎ ((better x y ≡ y) × (x.response < y.response)) → ((better x y).response ≤ (best_over (better x y) ys).response) × ((z : Best) → Memᴰ z ys → z.response ≤ (best_over (better x y) ys).response) → Most (best_over (better x y) ys)
    go (inl (e, l)) (m, more) =
        let b : x.response ≤ (best_over (better x y) ys).response = subst (λ (v : Best). v.response ≤ (best_over (better x y) ys).response) e m in
        (b, λ z h. all (best_over (better x y) ys) (le_trans l b) more (Memᴰ.cases_cons h))
    go (inr (e, l)) (m, more) =
        let b : y.response ≤ (best_over (better x y) ys).response = subst (λ (v : Best). v.response ≤ (best_over (better x y) ys).response) e m in
        (omega arith, λ z h. all (best_over (better x y) ys) b more (Memᴰ.cases_cons h))

-- it is x or one of the list
best_over-member : (x : Best) (ys : List Best) → Memᴰ (best_over x ys) (x ∷ ys)
unfolding best_over
best_over-member x [] = Memᴰ.head refl
best_over-member x (y ∷ ys) = go (better-cases x y) (Memᴰ.cases_cons (best_over-member (better x y) ys))
  where
    b : Best
    b = best_over (better x y) ys

    go : ((better x y ≡ x) × (y.response ≤ x.response)) ⊎ ((better x y ≡ y) × (x.response < y.response)) → (b ≡ better x y) ⊎ Memᴰ b ys → Memᴰ b (x ∷ y ∷ ys)
    go c (inr h) = Memᴰ.tail (Memᴰ.tail h)
    go (inl (e, l)) (inl f) = Memᴰ.head (subst (λ (v : Best). b ≡ v) e f)
    go (inr (e, l)) (inl f) = Memᴰ.tail (Memᴰ.head (subst (λ (v : Best). b ≡ v) e f))

-- ---- along a list in ascending order

abbrev pub BestBefore : (x y : Best) → Type 0
BestBefore x y = SourceBefore x.source y.source

-- after an x that stands before all of them, whatever comes before the best gives less
before-less : (x : Best) (ys : List Best) → ((y : Best) → Memᴰ y ys → BestBefore x y) → Ascending BestBefore ys → (z : Best) → Memᴰ z (x ∷ ys) → BestBefore z (best_over x ys) → z.response < (best_over x ys).response
unfolding best_over
before-less x [] least none z h b = go (Memᴰ.cases_cons h)
  where
    go : (z ≡ x) ⊎ Memᴰ z [] → z.response < x.response
    go (inl e) = absurd (source-irreflexive (subst (λ (v : Best). BestBefore v x) e b))
    go (inr k) = absurd (Memᴰ.not-nil k)
before-less x (y ∷ ys) least (one more up) z h b =
    go (better-cases x y) (before-less x ys (λ v k. least v (Memᴰ.tail k)) up) (before-less y ys more up) z h b
  where
    Less : List Best → Best → Type 0
    Less zs w = (z : Best) → Memᴰ z zs → BestBefore z w → z.response < w.response

    -- where y gives no more than x, and x is kept
    kept : {w : Best} → y.response ≤ x.response → Memᴰ w (x ∷ ys) → Less (x ∷ ys) w → Less (x ∷ y ∷ ys) w
    kept {w} l here rest z h b = cases (Memᴰ.cases_cons h)
      where
        of-y : z ≡ y → (w ≡ x) ⊎ Memᴰ w ys → z.response < w.response
        of-y e (inl f) =
            absurd (source-asymmetric (least y (Memᴰ.head refl)) (subst₂ (λ (v s : Best). BestBefore v s) e f b))
        of-y e (inr k) =
            let less : x.response < w.response = rest x (Memᴰ.head refl) (least w (Memᴰ.tail k)) in
            subst (λ (v : Best). v.response < w.response) (sym e) (omega arith)

        tail : (z ≡ y) ⊎ Memᴰ z ys → z.response < w.response
        tail (inl e) = of-y e (Memᴰ.cases_cons here)
        tail (inr k) = rest z (Memᴰ.tail k) b

        cases : (z ≡ x) ⊎ Memᴰ z (y ∷ ys) → z.response < w.response
        cases (inl e) = rest z (Memᴰ.head e) b
        cases (inr k) = tail (Memᴰ.cases_cons k)

    -- where y gives more
    taken : {w : Best} → x.response < y.response → y.response ≤ w.response → Less (y ∷ ys) w → Less (x ∷ y ∷ ys) w
    taken {w} l most rest z h b = cases (Memᴰ.cases_cons h)
      where
        cases : (z ≡ x) ⊎ Memᴰ z (y ∷ ys) → z.response < w.response
        cases (inl e) = subst (λ (v : Best). v.response < w.response) (sym e) (omega arith)
        cases (inr k) = rest z k b

    go : ((better x y ≡ x) × (y.response ≤ x.response)) ⊎ ((better x y ≡ y) × (x.response < y.response)) → Less (x ∷ ys) (best_over x ys) → Less (y ∷ ys) (best_over y ys) → Less (x ∷ y ∷ ys) (best_over (better x y) ys)
    go (inl (e, l)) of-x of-y =
        subst (λ (v : Best). Less (x ∷ y ∷ ys) (best_over v ys)) (sym e) (kept l (best_over-member x ys) of-x)
    go (inr (e, l)) of-x of-y =
        subst (λ (v : Best). Less (x ∷ y ∷ ys) (best_over v ys)) (sym e) (taken l (best-most y ys).0 of-y)

-- The best of the whole list is one of it, and whatever comes before it gives less, unless none gives anything
pub best-first : (ys : List Best) → Ascending BestBefore ys → 1 ≤ (best_over nothing ys).response → Memᴰ (best_over nothing ys) ys × ((z : Best) → Memᴰ z ys → BestBefore z (best_over nothing ys) → z.response < (best_over nothing ys).response)
unfolding best_over
best-first [] up some = absurd (omega arith)
best-first (y ∷ ys) (one more up) some =
    go (better-cases nothing y) (λ s. best-first ys up s) some
  where
    Is : List Best → Best → Type 0
    Is zs w = Memᴰ w zs × ((z : Best) → Memᴰ z zs → BestBefore z w → z.response < w.response)

    next : {w : Best} → y.response ≤ 0 → 1 ≤ w.response → Is ys w → Is (y ∷ ys) w
    next {w} l big (here, less) = (Memᴰ.tail here, λ z h b. cases z b (Memᴰ.cases_cons h))
      where
        cases : (z : Best) → BestBefore z w → (z ≡ y) ⊎ Memᴰ z ys → z.response < w.response
        cases z b (inl e) = subst (λ (v : Best). v.response < w.response) (sym e) (omega arith)
        cases z b (inr k) = less z k b

    go : ((better nothing y ≡ nothing) × (y.response ≤ 0)) ⊎ ((better nothing y ≡ y) × (0 < y.response)) → (1 ≤ (best_over nothing ys).response → Is ys (best_over nothing ys)) → 1 ≤ (best_over (better nothing y) ys).response → Is (y ∷ ys) (best_over (better nothing y) ys)
    go (inl (e, l)) rest s =
        let big : 1 ≤ (best_over nothing ys).response = subst (λ (v : Best). 1 ≤ (best_over v ys).response) e s in
        subst (λ (v : Best). Is (y ∷ ys) (best_over v ys)) (sym e) (next l big (rest big))
    go (inr (e, l)) rest s =
        subst (λ (v : Best). Is (y ∷ ys) (best_over v ys)) (sym e) (best_over-member y ys, before-less y ys more up)
