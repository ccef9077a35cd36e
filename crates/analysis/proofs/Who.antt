-- The greatest charge of another transaction is found by going over its modes and tasks: the first that gives the greatest, or nobody
-- without rivals; and there is no other. Its amount is the greatest charge of document 01.
use mathlib.Core.Path.{◌≡◌, refl, sym, ap, ap₂, subst}
use mathlib.Core.Logic.{◌⊎◌, inl, inr}
use Prim.Native.Nat.{ℕ, zero, suc, ◌≤◌, ◌<◌}
use native.Mathlib.Nat.{le_refl, le_trans, le_antisymm}
use native.Mathlib.Decide.{dec_lt}
use native.Mathlib.Omega.{arith}
use Rattle.table.specs.Table.{Table, modes, tasks}
use Rattle.analysis.specs.Choice.{when, most}
use Rattle.analysis.specs.Rival.{Rival, rival?}
use Rattle.analysis.specs.Charge.{Later, charge, greatest}
use Rattle.analysis.specs.First.{First}
use Rattle.analysis.specs.Order.{Turn, TurnBefore}
use Rattle.analysis.specs.Who.{Charges, Most, nobody, charged, MostOf, none, some, MostCharged, amount, second_if, most_by, in_mode, in_modes, most_charged}
use Rattle.analysis.proofs.Choice.{when-yes, most-ge, most-le}
use Rattle.analysis.proofs.Before.{turn-orders, turn-asymmetric, turn-other}
use Rattle.analysis.proofs.First.{first-unique}

-- there is no other
pub most-unique : {Gives : Turn → ℕ → Type 0} {x y : Most} → MostOf Gives x → MostOf Gives y → x ≡ y
most-unique (none h) (none k) = refl
most-unique (none h) (some {x = y} {r = s} k) = absurd (h y s k.gives)
most-unique (some {x = x} {r = r} h) (none k) = absurd (k x r h.gives)
most-unique (some h) (some k) = let (e, f) = first-unique turn-orders h k in ap₂ charged f e

-- ---- one turn more

module _ {G H : Turn → ℕ → Type 0} (wider : (x : Turn) (r : ℕ) → G x r → H x r) where
  -- nothing more gives
  most-same : ((x : Turn) (r : ℕ) → H x r → G x r) → {y : Most} → MostOf G y → MostOf H y
  most-same back (none h) = none (λ x r k. h x r (back x r k))
  most-same back (some {x = x} {r = r} h) =
      some (record {
        gives = wider x r h.gives;
        greatest = λ y s k. h.greatest y s (back y s k);
        first = λ y s b k. h.first y s b (back y s k);
      })

  -- z gives v, behind all that give
  most-more : (z : Turn) (v : ℕ) → H z v → ((x : Turn) (r : ℕ) → H x r → G x r ⊎ ((x ≡ z) × (r ≡ v))) → ((x : Turn) (r : ℕ) → G x r → TurnBefore x z) → {A : Type 0} (d : Dec A) → A → {y : Most} → MostOf G y → MostOf H (most_by d y v z)
  unfolding most_by second_if
  most-more z v new either behind (no n) h x = absurd (n h)
  most-more z v new either behind (yes h) holds (none nowhere) =
      some (record { gives = new; greatest = λ y s k. most (either y s k); first = λ y s b k. less b (either y s k) })
    where
      most : {y : Turn} {s : ℕ} → G y s ⊎ ((y ≡ z) × (s ≡ v)) → s ≤ v
      most {y} {s} (inl g) = absurd (nowhere y s g)
      most (inr (e, f)) = omega (arith, f)

      less : {y : Turn} {s : ℕ} → TurnBefore y z → G y s ⊎ ((y ≡ z) × (s ≡ v)) → s < v
      less {y} {s} b (inl g) = absurd (nowhere y s g)
      less b (inr (e, f)) = absurd (turn-other e b)
  most-more z v new either behind (yes h) holds (some {x = x} {r = r} first) = go (dec_lt r v)
    where
      most : {y : Turn} {s w : ℕ} → r ≤ w → v ≤ w → G y s ⊎ ((y ≡ z) × (s ≡ v)) → s ≤ w
      most {y} {s} p q (inl g) = le_trans (first.greatest y s g) p
      most p q (inr (e, f)) = omega (arith, f)

      newer : r < v → {y : Turn} {s : ℕ} → TurnBefore y z → G y s ⊎ ((y ≡ z) × (s ≡ v)) → s < v
      newer l {y} {s} b (inl g) = omega (arith, first.greatest y s g)
      newer l b (inr (e, f)) = absurd (turn-other e b)

      older : {y : Turn} {s : ℕ} → TurnBefore y x → G y s ⊎ ((y ≡ z) × (s ≡ v)) → s < r
      older {y} {s} b (inl g) = first.first y s b g
      older b (inr (e, f)) = absurd (turn-asymmetric (behind x r first.gives) (subst (λ (t : Turn). TurnBefore t x) e b))

      go : (d : Dec (r < v)) → MostOf H (second_if d (charged r x) (charged v z))
      go (yes l) =
          some (record { gives = new; greatest = λ y s k. most (omega arith) (le_refl v) (either y s k); first = λ y s b k. newer l b (either y s k) })
      go (no l) =
          some (record {
            gives = wider x r first.gives;
            greatest = λ y s k. most (le_refl r) (omega arith) (either y s k);
            first = λ y s b k. older b (either y s k);
          })

-- ---- over the tasks of a mode, and over the modes

module _ (later : Later) (tab : Table) (u a i t : ℕ) where
  abbrev at : (m n : ℕ) → Turn
  at m n = record { mode = m; candidate = n }

  -- what the turns before (m, n) charge
  pub record ChargesTo (m n : ℕ) (x : Turn) (r : ℕ) : Type 0 where
    pub charges : Charges later tab u a i t x r
    pub before : TurnBefore x (at m n)

  -- the turn before (m, n + 1) is (m, n) or before it
  last : {m n : ℕ} {x : Turn} → TurnBefore x (at m (suc n)) → TurnBefore x (at m n) ⊎ (x ≡ at m n)
  last {m} {n} {x} (TurnBefore.mode l) = inl (TurnBefore.mode l)
  last {m} {n} {x} (TurnBefore.candidate e l) = go (dec_lt x.candidate n)
    where
      go : Dec (x.candidate < n) → TurnBefore x (at m n) ⊎ (x ≡ at m n)
      go (yes k) = inl (TurnBefore.candidate e k)
      go (no k) = let f : x.candidate ≡ n = omega arith in inr (λ j. record { mode = e j; candidate = f j })

  one_more : {m n : ℕ} {x : Turn} {r : ℕ} → ChargesTo m n x r → ChargesTo m (suc n) x r
  one_more z = record { charges = z.charges; before = wider z.before }
    where
      wider : {m n : ℕ} {x : Turn} → TurnBefore x (at m n) → TurnBefore x (at m (suc n))
      wider (TurnBefore.mode l) = TurnBefore.mode l
      wider (TurnBefore.candidate e l) = TurnBefore.candidate e (omega arith)

  mode-step : (m n : ℕ) → m < modes tab i → n < tasks tab i → {y : Most} → MostOf (ChargesTo m n) y → MostOf (ChargesTo m (suc n)) (most_by (rival? tab u a i m n) y (charge later tab u a i m n t) (at m n))
  unfolding most_by
  mode-step m n l k {y} x = go (rival? tab u a i m n)
    where
      v : ℕ
      v = charge later tab u a i m n t

      go : (d : Dec (Rival tab u a i m n)) → MostOf (ChargesTo m (suc n)) (most_by d y v (at m n))
      go (no h) = most-same (λ z r c. one_more c) (λ z r c. back c (last c.before)) x
        where
          back : {z : Turn} {r : ℕ} → ChargesTo m (suc n) z r → TurnBefore z (at m n) ⊎ (z ≡ at m n) → ChargesTo m n z r
          back c (inl b) = record { charges = c.charges; before = b }
          back c (inr e) = absurd (h (subst (λ (s : Turn). Rival tab u a i s.mode s.candidate) e c.charges.rival))
      go (yes h) =
          most-more (λ z r c. one_more c) (at m n) v new (λ z r c. either c (last c.before)) (λ z r c. c.before) (yes h) h x
        where
          new : ChargesTo m (suc n) (at m n) v
          new = record { charges = record { mode = l; place = k; rival = h; is = refl }; before = TurnBefore.candidate refl (omega arith) }

          either : {z : Turn} {r : ℕ} → ChargesTo m (suc n) z r → TurnBefore z (at m n) ⊎ (z ≡ at m n) → ChargesTo m n z r ⊎ ((z ≡ at m n) × (r ≡ v))
          either c (inl b) = inl (record { charges = c.charges; before = b })
          either {r} c (inr e) =
              inr (e, subst (λ (s : Turn). r ≡ charge later tab u a i s.mode s.candidate t) e c.charges.is)

  mode-most : (m n : ℕ) → m < modes tab i → n ≤ tasks tab i → {y : Most} → MostOf (ChargesTo m 0) y → MostOf (ChargesTo m n) (in_mode later tab u a i t m n y)
  unfolding in_mode
  mode-most m zero l k x = x
  mode-most m (suc n) l k x = mode-step m n l (omega arith) (mode-most m n l (omega arith) x)

  modes-most : (m : ℕ) → m ≤ modes tab i → MostOf (ChargesTo m 0) (in_modes later tab u a i t m)
  unfolding in_modes
  modes-most zero l = none (λ x r c. nowhere c.before)
    where
      nowhere : {x : Turn} → TurnBefore x (at 0 0) → ⊥
      nowhere (TurnBefore.mode l) = omega arith
      nowhere (TurnBefore.candidate e l) = omega arith
  modes-most (suc m) l =
      most-same (λ x r c. on c c.before) (λ x r c. back c c.before) (mode-most m (tasks tab i) l (le_refl _) (modes-most m (omega arith)))
    where
      on : {x : Turn} {r : ℕ} → ChargesTo m (tasks tab i) x r → TurnBefore x (at m (tasks tab i)) → ChargesTo (suc m) 0 x r
      on c (TurnBefore.mode k) = record { charges = c.charges; before = TurnBefore.mode (omega arith) }
      on c (TurnBefore.candidate e k) = record { charges = c.charges; before = TurnBefore.mode (omega (arith, e)) }

      back : {x : Turn} {r : ℕ} → ChargesTo (suc m) 0 x r → TurnBefore x (at (suc m) 0) → ChargesTo m (tasks tab i) x r
      back {x} c (TurnBefore.mode k) = record { charges = c.charges; before = cases (dec_lt x.mode m) }
        where
          cases : Dec (x.mode < m) → TurnBefore x (at m (tasks tab i))
          cases (yes p) = TurnBefore.mode p
          cases (no p) = TurnBefore.candidate (omega arith) c.charges.place
      back c (TurnBefore.candidate e k) = absurd (omega arith)

  -- The greatest charge, and who gives it first
  pub most-charged : MostCharged later tab u a i t (most_charged later tab u a i t)
  unfolding most_charged
  most-charged =
      most-same (λ x r c. c.charges) (λ x r c. record { charges = c; before = TurnBefore.mode c.mode }) (modes-most (modes tab i) (le_refl _))

  -- Its amount is the greatest charge
  pub amount-greatest : {y : Most} → MostCharged later tab u a i t y → amount y ≡ greatest later tab u a i t
  unfolding amount greatest when
  amount-greatest {y} x = le_antisymm (below x) (most-le (modes tab i) (λ m l. most-le (tasks tab i) (λ c k. each m c l k (rival? tab u a i m c) x)))
    where
      below : {y : Most} → MostCharged later tab u a i t y → amount y ≤ greatest later tab u a i t
      below (none h) = omega arith
      below (some {x = z} {r = r} h) =
          let g = h.gives in
          let in-tasks = most-ge (tasks tab i) (λ c. when (rival? tab u a i z.mode c) (charge later tab u a i z.mode c t)) z.candidate g.place in
          let in-modes = most-ge (modes tab i) (λ m. most (tasks tab i) (λ c. when (rival? tab u a i m c) (charge later tab u a i m c t))) z.mode g.mode in
          let is = when-yes (rival? tab u a i z.mode z.candidate) (charge later tab u a i z.mode z.candidate t) g.rival in
          omega (arith, g.is)

      each : (m c : ℕ) → m < modes tab i → c < tasks tab i → (d : Dec (Rival tab u a i m c)) → {y : Most} → MostCharged later tab u a i t y → when d (charge later tab u a i m c t) ≤ amount y
      each m c l k (no h) w = omega arith
      each m c l k (yes h) (none nowhere) =
          absurd (nowhere (at m c) _ (record { mode = l; place = k; rival = h; is = refl }))
      each m c l k (yes h) (some {r = r} z) = z.greatest (at m c) _ (record { mode = l; place = k; rival = h; is = refl })
