-- Laws of findings: the first one stays, and where there is none, however they are joined, each check held.
use mathlib.Core.Path.{◌≡◌, refl, ap, ◌∙◌}
use mathlib.Core.Bool.{Bool, true, false, ◌&&◌}
use Prim.Native.Nat.{ℕ, zero, suc, ◌+◌, ◌≤◌, ◌<◌}
use native.Mathlib.Decide.{ℕ_discrete}
use native.Mathlib.Numerals.{add-one}
use native.Mathlib.Omega.{arith}
use Rattle.refusals.specs.declared.Refusal.{Refusal}
use Rattle.refusals.specs.declared.Fault.{Fault}
use Rattle.std.specs.Prelude.{Ok, Err}
use Rattle.std.specs.Result.{result_and}
use Rattle.refusals.specs.Answer.{Answer, accepted, refused, ◌then◌, found_of, first_of, checked}

-- one name that opens how findings are joined, for functions that give them by `?`
unfoldable pub joining : Unit {0}
unfolding ◌then◌ found_of first_of
joining = tt

-- a finding at the first k of n places is that of all n
found-stays : (n k : ℕ) (f : ℕ → Answer) (e : Fault) → k ≤ n → first_of k f ≡ Err e → first_of n f ≡ Err e
unfolding joining
found-stays zero k f e h found =
    let none : k ≡ 0 = omega arith in
    rw none at found
found-stays (suc n) k f e h found = go (ℕ_discrete k (suc n)) (λ below. found-stays n k f e below found)
  where
    go : Dec (k ≡ suc n) → (k ≤ n → first_of n f ≡ Err e) → first_of (suc n) f ≡ Err e
    go (yes all) earlier = rw all at found
    go (no ne) earlier = rw (earlier (omega arith))

-- a loop over n places that goes on where there is no finding: with the next place's there is none still, or it is that of all
pub passes : (f : ℕ → Answer) (k : ℕ) → first_of k f ≡ accepted → f k ≡ accepted → first_of (k + 1) f ≡ accepted
unfolding first_of ◌then◌
passes f k none next = rw (add-one k, first_of, none, next)

pub fails : (f : ℕ → Answer) (n k : ℕ) (e : Fault) → k < n → first_of k f ≡ accepted → f k ≡ Err e → first_of n f ≡ Err e
unfolding first_of ◌then◌
fails f n k e below none found = found-stays n (k + 1) f e (omega arith) (rw (add-one k, first_of, none, found))

-- the order of findings is what counts, not how they are grouped
pub then-assoc : (a b c : Answer) → (a then b then c) ≡ (a then (b then c))
unfolding ◌then◌
then-assoc (Ok x) b c = refl
then-assoc (Err f) b c = refl

-- it is what std's `Result::and` gives, which is as well what `?` goes by
pub then-and : (a b : Answer) → (a then b) ≡ result_and a b
unfolding ◌then◌
then-and (Ok x) b = refl
then-and (Err f) b = refl

pub then-accepted : (a : Answer) → (a then accepted) ≡ a
unfolding ◌then◌
then-accepted (Ok x) = refl
then-accepted (Err f) = refl

-- ---- no finding: none of those that are joined

-- a way to join two findings that makes none and loses none
pub record Joins (join : Answer → Answer → Answer) : Type 0 where
  pub none : {a b : Answer} → a ≡ accepted → b ≡ accepted → join a b ≡ accepted
  pub first : (a b : Answer) → join a b ≡ accepted → a ≡ accepted
  pub second : (a b : Answer) → join a b ≡ accepted → b ≡ accepted

pub none_first : (a b : Answer) → (a then b) ≡ accepted → a ≡ accepted
unfolding ◌then◌
none_first (Ok x) b h = refl
none_first (Err f) b h = h

pub none-second : (a b : Answer) → (a then b) ≡ accepted → b ≡ accepted
unfolding ◌then◌
none-second (Ok x) b h = h
none-second (Err f) b h = cc

none_then : (a b : Answer) → a ≡ accepted → b ≡ accepted → (a then b) ≡ accepted
unfolding ◌then◌
none_then (Ok x) b e f = f
none_then (Err g) b e f = e

pub then-joins : Joins ◌then◌
then-joins = record { none = λ {a} {b} e f. none_then a b e f; first = none_first; second = none-second }

module _ {join : Answer → Answer → Answer} (joins : Joins join) where
  pub none_of : (n : ℕ) (f : ℕ → Answer) → found_of join n f ≡ accepted → (k : ℕ) → k < n → f k ≡ accepted
  unfolding found_of
  none_of zero f h k below = absurd (omega arith)
  none_of (suc n) f h k below = go (ℕ_discrete k n) (none_of n f (joins.first _ _ h) k)
    where
      go : Dec (k ≡ n) → (k < n → f k ≡ accepted) → f k ≡ accepted
      go (yes e) earlier = ap f e ∙ joins.second _ _ h
      go (no ne) earlier = earlier (omega arith)

  pub none-in-all : (n : ℕ) (f : ℕ → Answer) → ((k : ℕ) → k < n → f k ≡ accepted) → found_of join n f ≡ accepted
  unfolding found_of
  none-in-all zero f each = refl
  none-in-all (suc n) f each = joins.none (none-in-all n f (λ k h. each k (omega arith))) (each n (omega arith))

pub held : (t : Bool) (r : Refusal) (at : ℕ) → checked t r at ≡ accepted → t ≡ true
unfolding checked
held true r at h = refl
held false r at h = cc

pub holds : {t : Bool} (r : Refusal) (at : ℕ) → t ≡ true → checked t r at ≡ accepted
unfolding checked
holds r at h = rw h

pub both_first : (s t : Bool) → (s && t) ≡ true → s ≡ true
both_first true t h = refl
both_first false t h = h

pub both-second : (s t : Bool) → (s && t) ≡ true → t ≡ true
both-second true t h = h
both-second false t h = cc

pub both_hold : {s t : Bool} → s ≡ true → t ≡ true → (s && t) ≡ true
both_hold h k = rw (h, k)

-- ---- a later finding is given only where those before it held, so it has to be the same only there

pub then_same : (a : Answer) {b c : Answer} → (a ≡ accepted → b ≡ c) → (a then b) ≡ (a then c)
unfolding ◌then◌
then_same (Ok x) h = h refl
then_same (Err f) h = refl

pub first-same : (n : ℕ) (f g : ℕ → Answer) → ((k : ℕ) → k < n → first_of k f ≡ accepted → f k ≡ g k) → first_of n f ≡ first_of n g
unfolding first_of found_of
first-same zero f g h = refl
first-same (suc n) f g h =
    let earlier : first_of n f ≡ first_of n g = first-same n f g (λ k l so_far. h k (omega arith) so_far) in
    then_same (first_of n f) (λ so_far. h n (omega arith) so_far) ∙ ap (λ (a : Answer). a then g n) earlier

-- ---- what holds of each refusal that may be found holds of the one that is given: a later check is looked at only where the
-- earlier ones held

module _ (P : Refusal → ℕ → Type 0) where
  abbrev pub Only : Answer → Type 0
  Only (Ok x) = Unit
  Only (Err f) = P f.refusal f.place

  pub only-checked : (t : Bool) (refusal : Refusal) (at : ℕ) → P refusal at → Only (checked t refusal at)
  unfolding checked
  only-checked true refusal at h = tt
  only-checked false refusal at h = h

  -- a check that refuses is one whose test failed
  pub only-failed : (t : Bool) (refusal : Refusal) (at : ℕ) → (t ≡ false → P refusal at) → Only (checked t refusal at)
  unfolding checked
  only-failed true refusal at h = tt
  only-failed false refusal at h = h refl

  pub only_then : (a b : Answer) → Only a → (a ≡ accepted → Only b) → Only (a then b)
  unfolding ◌then◌
  only_then (Ok x) b h k = k refl
  only_then (Err f) b h k = h

  pub only-first : (n : ℕ) (f : ℕ → Answer) → ((k : ℕ) → k < n → first_of k f ≡ accepted → Only (f k)) → Only (first_of n f)
  unfolding first_of
  only-first zero f each = tt
  only-first (suc n) f each =
      only_then (first_of n f) (f n) (only-first n f (λ k h so_far. each k (omega arith) so_far))
      (each n (omega arith))

-- ---- the same findings, but that some checks let more pass: what was given is given again, unless it was a refusal of theirs

module _ (Of : Refusal → Type 0) where
  -- b is a, unless a is such a refusal
  abbrev pub Stays : (a b : Answer) → Type 0
  Stays a b = Only (λ refusal at. ¬ Of refusal) a → b ≡ a

  pub stays-accepted : {a b : Answer} → Stays a b → a ≡ accepted → b ≡ accepted
  stays-accepted stays ok = stays (rw ok tt) ∙ ok

  pub stays-refused : {a b : Answer} → Stays a b → {refusal : Refusal} {at : ℕ} → a ≡ refused refusal at → ¬ Of refusal → b ≡ refused refusal at
  stays-refused stays found other = stays (rw found other) ∙ found

  pub stays-checked : (s : Bool) {t : Bool} (refusal : Refusal) (at : ℕ) → Of refusal → (s ≡ true → t ≡ true) → Stays (checked s refusal at) (checked t refusal at)
  unfolding checked
  stays-checked true refusal at is more stays = rw (more refl)
  stays-checked false refusal at is more stays = absurd (stays is)

  pub stays_then : (a : Answer) {a' b b' : Answer} → Stays a a' → Stays b b' → Stays (a then b) (a' then b')
  unfolding ◌then◌
  stays_then (Ok x) first second stays = rw (first tt) (second stays)
  stays_then (Err f) first second stays = rw (first stays)

  pub stays-first : (n : ℕ) (f g : ℕ → Answer) → ((k : ℕ) → Stays (f k) (g k)) → Stays (first_of n f) (first_of n g)
  unfolding first_of found_of
  stays-first zero f g each stays = refl
  stays-first (suc n) f g each stays = stays_then (first_of n f) (stays-first n f g each) (each n) stays
