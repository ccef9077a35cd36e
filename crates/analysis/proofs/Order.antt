-- The turns of the walk are exactly the settings: each mode of u where a runs, with each candidate in it. They ascend.
use mathlib.Core.Path.{◌≡◌, refl, sym, ap, subst}
use mathlib.Core.Logic.{◌⊎◌, inl, inr, ite}
use mathlib.Core.List.Memᴰ
use mathlib.Core.List.{
  List,
  [],
  ◌∷◌,
  ◌++◌,
  map,
  filter,
  Memᴰ,
}
use Prim.Native.Nat.{ℕ, zero, suc, ◌+◌, ◌≤◌, ◌<◌}
use native.Mathlib.Nat.{eq-or-lt_of_le}
use native.Mathlib.Omega.{arith}
use Rattle.table.specs.Table.{Table, modes, tasks}
use Rattle.analysis.specs.Rival.{runs?, candidate?}
use Rattle.analysis.specs.Bound.{Setting}
use Rattle.analysis.specs.Order.{from, Turn, TurnBefore, running_modes, candidates, turns, walk_order}
use Rattle.analysis.proofs.First.{Ascending, ascending-append}

-- ---- lists of numbers, and a list cut down by a decision

from-has : (n k : ℕ) {i : ℕ} → k ≤ i → i < k + n → Memᴰ i (from k n)
unfolding from
from-has zero k l h = absurd (omega arith)
from-has (suc n) k {i} l h = go (eq-or-lt_of_le l) (λ q. from-has n (suc k) q (omega arith))
  where
    go : (k ≡ i) ⊎ (k < i) → (suc k ≤ i → Memᴰ i (from (suc k) n)) → Memᴰ i (k ∷ from (suc k) n)
    go (inl e) rest = Memᴰ.head (sym e)
    go (inr q) rest = Memᴰ.tail (rest q)

from-below : (n k : ℕ) {i : ℕ} → Memᴰ i (from k n) → i < k + n
unfolding from
from-below zero k h = absurd (Memᴰ.not-nil h)
from-below (suc n) k {i} h = go (Memᴰ.cases_cons h) (λ q. from-below n (suc k) q)
  where
    go : (i ≡ k) ⊎ Memᴰ i (from (suc k) n) → (Memᴰ i (from (suc k) n) → i < suc k + n) → i < k + suc n
    go (inl e) rest = omega arith
    go (inr q) rest = let z : i < suc k + n = rest q in omega arith

module _ {A : Type 0} {p : A → Type 0} (d : (x : A) → Dec (p x)) where
  filter-has : (l : List A) {x : A} → Memᴰ x l → p x → Memᴰ x (filter d l)
  filter-has [] h q = h
  filter-has (y ∷ l) {x} h q = go (d y) (Memᴰ.cases_cons h) (λ r. filter-has l r q)
    where
      go : (e : Dec (p y)) → (x ≡ y) ⊎ Memᴰ x l → (Memᴰ x l → Memᴰ x (filter d l)) → Memᴰ x (ite {C = List A} e (y ∷ filter d l) (filter d l))
      go (yes g) (inl e) rest = Memᴰ.head e
      go (yes g) (inr r) rest = Memᴰ.tail (rest r)
      go (no g) (inl e) rest = absurd (g (subst p e q))
      go (no g) (inr r) rest = rest r

  filter-of : (l : List A) {x : A} → Memᴰ x (filter d l) → Memᴰ x l × p x
  filter-of [] h = absurd (Memᴰ.not-nil h)
  filter-of (y ∷ l) {x} h = go (d y) h (λ r. filter-of l r)
    where
      kept : p y → (x ≡ y) ⊎ Memᴰ x (filter d l) → (Memᴰ x (filter d l) → Memᴰ x l × p x) → Memᴰ x (y ∷ l) × p x
      kept g (inl e) rest = (Memᴰ.head e, subst p (sym e) g)
      kept g (inr r) rest = let (s, q) = rest r in (Memᴰ.tail s, q)

      go : (e : Dec (p y)) → Memᴰ x (ite {C = List A} e (y ∷ filter d l) (filter d l)) → (Memᴰ x (filter d l) → Memᴰ x l × p x) → Memᴰ x (y ∷ l) × p x
      go (yes g) r rest = kept g (Memᴰ.cases_cons r) rest
      go (no g) r rest = let (s, q) = rest r in (Memᴰ.tail s, q)

-- ---- the turns

module _ (tab : Table) (u a : ℕ) where
  turns-has : (ms : List ℕ) {m c : ℕ} → Memᴰ m ms → Memᴰ c (candidates tab u a m) → Memᴰ (record { mode = m; candidate = c }) (turns tab u a ms)
  unfolding turns
  turns-has [] h k = absurd (Memᴰ.not-nil h)
  turns-has (x ∷ ms) {m} {c} h k = go (Memᴰ.cases_cons h) (λ r. turns-has ms r k)
    where
      of : ℕ → Turn
      of y = record { mode = x; candidate = y }

      go : (m ≡ x) ⊎ Memᴰ m ms → (Memᴰ m ms → Memᴰ (record { mode = m; candidate = c }) (turns tab u a ms)) → Memᴰ (record { mode = m; candidate = c }) (map of (candidates tab u a x) ++ turns tab u a ms)
      go (inl e) rest =
          Memᴰ.append_left (turns tab u a ms)
          (Memᴰ.cast (λ i. record { mode = e i; candidate = c }) (Memᴰ.map of (subst (λ (y : ℕ). Memᴰ c (candidates tab u a y)) e k)))
      go (inr r) rest = Memᴰ.append_right (map of (candidates tab u a x)) (rest r)

  turns-of : (ms : List ℕ) {s : Turn} → Memᴰ s (turns tab u a ms) → Memᴰ s.mode ms × Memᴰ s.candidate (candidates tab u a s.mode)
  unfolding turns
  turns-of [] h = absurd (Memᴰ.not-nil h)
  turns-of (x ∷ ms) {s} h = go (Memᴰ.append_cases (map of (candidates tab u a x)) h) (λ r. turns-of ms r)
    where
      of : ℕ → Turn
      of y = record { mode = x; candidate = y }

      In : List ℕ → Type 0
      In l = Memᴰ s.mode l × Memᴰ s.candidate (candidates tab u a s.mode)

      go : Memᴰ s (map of (candidates tab u a x)) ⊎ Memᴰ s (turns tab u a ms) → (Memᴰ s (turns tab u a ms) → In ms) → In (x ∷ ms)
      go (inl r) rest =
          let (c, k, e) = Memᴰ.of_map of (candidates tab u a x) r in
          (Memᴰ.head (sym (ap (λ (t : Turn). t.mode) e)), subst (λ (t : Turn). Memᴰ t.candidate (candidates tab u a t.mode)) e k)
      go (inr r) rest = let (p, q) = rest r in (Memᴰ.tail p, q)

  -- each setting has its turn
  pub setting-turn : {m c : ℕ} → Setting tab u a m c → Memᴰ (record { mode = m; candidate = c }) (walk_order tab u a)
  unfolding walk_order running_modes candidates
  setting-turn {m} {c} h =
      turns-has (running_modes tab u a)
      (filter-has (λ x. runs? tab u x a) (from 0 (modes tab u)) (from-has (modes tab u) 0 (omega arith) (omega (arith, h.mode))) h.runs)
      (filter-has (candidate? tab u a m) (from 0 (tasks tab u)) (from-has (tasks tab u) 0 (omega arith) (omega (arith, h.place))) h.candidate)

  -- and each turn is a setting
  pub turn-setting : {s : Turn} → Memᴰ s (walk_order tab u a) → Setting tab u a s.mode s.candidate
  unfolding walk_order running_modes candidates
  turn-setting {s} h =
      let (p, q) = turns-of (running_modes tab u a) h in
      let (i, r) = filter-of (λ x. runs? tab u x a) (from 0 (modes tab u)) p in
      let (j, k) = filter-of (candidate? tab u a s.mode) (from 0 (tasks tab u)) q in
      let l = from-below (modes tab u) 0 i in
      let n = from-below (tasks tab u) 0 j in
      record { mode = omega arith; runs = r; place = omega arith; candidate = k }

-- ---- in ascending order

from-above : (n k : ℕ) {i : ℕ} → Memᴰ i (from k n) → k ≤ i
unfolding from
from-above zero k h = absurd (Memᴰ.not-nil h)
from-above (suc n) k {i} h = go (Memᴰ.cases_cons h) (λ q. from-above n (suc k) q)
  where
    go : (i ≡ k) ⊎ Memᴰ i (from (suc k) n) → (Memᴰ i (from (suc k) n) → suc k ≤ i) → k ≤ i
    go (inl e) rest = omega arith
    go (inr q) rest = let z : suc k ≤ i = rest q in omega arith

from-ascends : (n k : ℕ) → Ascending (λ (x y : ℕ). x < y) (from k n)
unfolding from
from-ascends zero k = Ascending.none
from-ascends (suc n) k = Ascending.one (λ y h. from-above n (suc k) h) (from-ascends n (suc k))

filter-ascends : {A : Type 0} {p : A → Type 0} (d : (x : A) → Dec (p x)) {Before : A → A → Type 0} {l : List A} → Ascending Before l → Ascending Before (filter d l)
filter-ascends d Ascending.none = Ascending.none
filter-ascends {A} {p} d {Before} (Ascending.one {x = x} {xs = l} least up) = go (d x) (filter-ascends d up)
  where
    go : (e : Dec (p x)) → Ascending Before (filter d l) → Ascending Before (ite {C = List A} e (x ∷ filter d l) (filter d l))
    go (yes g) rest = Ascending.one (λ y h. least y (filter-of d l h).0) rest
    go (no g) rest = rest

module _ (tab : Table) (u a : ℕ) where
  mode-ascends : (m : ℕ) {cs : List ℕ} → Ascending (λ (x y : ℕ). x < y) cs → Ascending TurnBefore (map (λ c. record { mode = m; candidate = c }) cs)
  mode-ascends m Ascending.none = Ascending.none
  mode-ascends m (Ascending.one {x = x} {xs = cs} least up) = Ascending.one behind (mode-ascends m up)
    where
      of : ℕ → Turn
      of y = record { mode = m; candidate = y }

      behind : (y : Turn) → Memᴰ y (map of cs) → TurnBefore (of x) y
      behind y h =
          let (c, k, e) = Memᴰ.of_map of cs h in
          subst (TurnBefore (of x)) e (TurnBefore.candidate refl (least c k))

  turns-ascend : {ms : List ℕ} → Ascending (λ (x y : ℕ). x < y) ms → Ascending TurnBefore (turns tab u a ms)
  unfolding turns candidates
  turns-ascend Ascending.none = Ascending.none
  turns-ascend (Ascending.one {x = m} {xs = ms} least up) =
      ascending-append (mode-ascends m (filter-ascends (candidate? tab u a m) (from-ascends (tasks tab u) 0))) (turns-ascend up) across
    where
      of : ℕ → Turn
      of y = record { mode = m; candidate = y }

      across : (x y : Turn) → Memᴰ x (map of (candidates tab u a m)) → Memᴰ y (turns tab u a ms) → TurnBefore x y
      across x y h k =
          let (c, j, e) = Memᴰ.of_map of (candidates tab u a m) h in
          let (p, q) = turns-of tab u a ms k in
          subst (λ (t : Turn). TurnBefore t y) e (TurnBefore.mode (least y.mode p))

  pub walk-ascends : Ascending TurnBefore (walk_order tab u a)
  unfolding walk_order running_modes
  walk-ascends = turns-ascend (filter-ascends (λ x. runs? tab u x a) (from-ascends (modes tab u) 0))
