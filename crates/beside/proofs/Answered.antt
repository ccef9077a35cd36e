-- The answers of the plain analysis: their places fit 32 bits, and each is the only one.
use mathlib.Core.Path.{◌≡◌, refl, sym, ap, ap₂, ◌∙◌}
use mathlib.Core.Logic.{◌⊎◌, inl, inr}
use mathlib.Core.List.{List}
use Prim.Native.Nat.{ℕ, ◌^◌, ◌≤◌, ◌<◌}
use native.Mathlib.Omega.{arith}
use Rattle.table.specs.Table.{Table}
use Rattle.table.specs.Limits.{horizon}
use Rattle.analysis.proofs.Choice.{least-unique}
use Rattle.told.specs.Told.{paired}
use Rattle.told.proofs.Told.{place-small}
use Rattle.told.proofs.Agree.{clash, refused-unique}
use Rattle.jitter.specs.Plain.{response_of}
use Rattle.std.specs.Prelude.{Result, Ok, Err}
use Rattle.refusals.specs.declared.Refusal.{Refusal}
use Rattle.beside.specs.declared.Unanswered.{Unanswered}
use Rattle.beside.specs.Told.{Response, Approximation, turned_away, unanswered_place, RespondsFrom, Responds, ApproximatesFrom, Approximates, response_number, response_value, TellsResponse, approximation_number, approximation_place, approximation_cell, TellsApproximation}

-- ---- places

-- whatever why there is no answer
abbrev place : {A : Type 0} → Result A Unanswered → ℕ
place (Ok x) = 0
place (Err e) = unanswered_place e

pub response-place : {image : List ℕ} {task : ℕ} {x : Response} → Responds image task x → place x < 2 ^ 32
response-place {image} (Responds.refused e) = place-small image e
response-place (Responds.unknown ok l) = omega arith
response-place (Responds.several ok l n) = omega arith
response-place (Responds.single ok l s (RespondsFrom.never n)) = omega arith
response-place (Responds.single ok l s (RespondsFrom.completes c h)) = omega arith

pub approximation-place : {image : List ℕ} {task k t : ℕ} {x : Approximation} → Approximates image task k t x → place x < 2 ^ 32
approximation-place {image} (Approximates.refused e) = place-small image e
approximation-place (Approximates.unknown ok l) = omega arith
approximation-place (Approximates.several ok l n) = omega arith
approximation-place (Approximates.single ok l s (ApproximatesFrom.outside o)) = omega arith
approximation-place (Approximates.single ok l s (ApproximatesFrom.given k t)) = omega arith

-- ---- each is the only one

responds-from-unique : {tab : Table} {u : ℕ} {x y : Response} → RespondsFrom tab u x → RespondsFrom tab u y → x ≡ y
responds-from-unique (RespondsFrom.never n) (RespondsFrom.never m) = refl
responds-from-unique (RespondsFrom.never n) (RespondsFrom.completes c h) = absurd (n _ h c.has)
responds-from-unique (RespondsFrom.completes c h) (RespondsFrom.never n) = absurd (n _ h c.has)
responds-from-unique {tab} {u} (RespondsFrom.completes c h) (RespondsFrom.completes d g) =
    ap (λ (t : ℕ). Ok (response_of tab u t)) (least-unique c d)

pub responds-unique : {image : List ℕ} {task : ℕ} {x y : Response} → Responds image task x → Responds image task y → x ≡ y
responds-unique {image} (Responds.refused e) (Responds.refused f) =
    let (s, t) = refused-unique image e f in
    ap₂ (λ (r : Refusal) (n : ℕ). turned_away {A = ℕ} r n) s t
responds-unique {image} (Responds.refused e) (Responds.unknown ok l) = absurd (clash image e ok)
responds-unique {image} (Responds.refused e) (Responds.several ok l n) = absurd (clash image e ok)
responds-unique {image} (Responds.refused e) (Responds.single ok l s r) = absurd (clash image e ok)
responds-unique {image} (Responds.unknown ok l) (Responds.refused e) = absurd (clash image e ok)
responds-unique (Responds.unknown ok l) (Responds.unknown yet h) = refl
responds-unique (Responds.unknown ok l) (Responds.several yet h n) = absurd (omega (arith, l, h))
responds-unique (Responds.unknown ok l) (Responds.single yet h s r) = absurd (omega (arith, l, h))
responds-unique {image} (Responds.several ok l n) (Responds.refused e) = absurd (clash image e ok)
responds-unique (Responds.several ok l n) (Responds.unknown yet h) = absurd (omega (arith, l, h))
responds-unique (Responds.several ok l n) (Responds.several yet h m) = refl
responds-unique (Responds.several ok l n) (Responds.single yet h s r) = absurd (n s)
responds-unique {image} (Responds.single ok l s r) (Responds.refused e) = absurd (clash image e ok)
responds-unique (Responds.single ok l s r) (Responds.unknown yet h) = absurd (omega (arith, l, h))
responds-unique (Responds.single ok l s r) (Responds.several yet h n) = absurd (n s)
responds-unique (Responds.single ok l s r) (Responds.single yet h z q) = responds-from-unique r q

inside : {k t : ℕ} → (k ≡ 0) ⊎ (horizon < t) → 1 ≤ k → t ≤ horizon → ⊥
inside (inl e) some low = omega (arith, e, some)
inside (inr l) some low = omega (arith, l, low)

approximates-from-unique : {tab : Table} {u k t : ℕ} {x y : Approximation} → ApproximatesFrom tab u k t x → ApproximatesFrom tab u k t y → x ≡ y
approximates-from-unique (ApproximatesFrom.outside o) (ApproximatesFrom.outside p) = refl
approximates-from-unique (ApproximatesFrom.outside o) (ApproximatesFrom.given some low) = absurd (inside o some low)
approximates-from-unique (ApproximatesFrom.given some low) (ApproximatesFrom.outside o) = absurd (inside o some low)
approximates-from-unique (ApproximatesFrom.given some low) (ApproximatesFrom.given more short) = refl

pub approximates-unique : {image : List ℕ} {task k t : ℕ} {x y : Approximation} → Approximates image task k t x → Approximates image task k t y → x ≡ y
approximates-unique {image} (Approximates.refused e) (Approximates.refused f) =
    let (s, t) = refused-unique image e f in
    ap₂ (λ (r : Refusal) (n : ℕ). turned_away {A = ℕ} r n) s t
approximates-unique {image} (Approximates.refused e) (Approximates.unknown ok l) = absurd (clash image e ok)
approximates-unique {image} (Approximates.refused e) (Approximates.several ok l n) = absurd (clash image e ok)
approximates-unique {image} (Approximates.refused e) (Approximates.single ok l s r) = absurd (clash image e ok)
approximates-unique {image} (Approximates.unknown ok l) (Approximates.refused e) = absurd (clash image e ok)
approximates-unique (Approximates.unknown ok l) (Approximates.unknown yet h) = refl
approximates-unique (Approximates.unknown ok l) (Approximates.several yet h n) = absurd (omega (arith, l, h))
approximates-unique (Approximates.unknown ok l) (Approximates.single yet h s r) = absurd (omega (arith, l, h))
approximates-unique {image} (Approximates.several ok l n) (Approximates.refused e) = absurd (clash image e ok)
approximates-unique (Approximates.several ok l n) (Approximates.unknown yet h) = absurd (omega (arith, l, h))
approximates-unique (Approximates.several ok l n) (Approximates.several yet h m) = refl
approximates-unique (Approximates.several ok l n) (Approximates.single yet h s r) = absurd (n s)
approximates-unique {image} (Approximates.single ok l s r) (Approximates.refused e) = absurd (clash image e ok)
approximates-unique (Approximates.single ok l s r) (Approximates.unknown yet h) = absurd (omega (arith, l, h))
approximates-unique (Approximates.single ok l s r) (Approximates.several yet h n) = absurd (n s)
approximates-unique (Approximates.single ok l s r) (Approximates.single yet h z q) = approximates-from-unique r q

-- so a host in C gets one number, and its cell is left in one way
pub tells-response-unique : {image : List ℕ} {task r q : ℕ} → TellsResponse image task r → TellsResponse image task q → r ≡ q
tells-response-unique v w =
    v.number
    ∙ ap (λ (x : Response). paired (response_number x) (response_value x)) (responds-unique v.responds w.responds)
    ∙ sym w.number

pub tells-approximation-unique :
    {image : List ℕ} {task k t : ℕ} {before after other : List ℕ} {r q : ℕ}
    → TellsApproximation image task k t before after r
    → TellsApproximation image task k t before other q
    → (after ≡ other) × (r ≡ q)
tells-approximation-unique {before = before} v w =
    let e = approximates-unique v.approximates w.approximates in (
      v.cell ∙ ap (approximation_cell before) e ∙ sym w.cell,
      v.number ∙ ap (λ (x : Approximation). paired (approximation_number x) (approximation_place x)) e ∙ sym w.number,
    )
