-- Laws of a task's cells: stored one task behind the other, and found again.
use mathlib.Core.Path.{◌≡◌, refl, sym, ap, ◌∙◌}
use mathlib.Core.List.{List, ◌++◌}
use Prim.Native.Nat.{ℕ, suc, ◌+◌, ◌*◌, ◌≤◌, ◌<◌}
use native.Mathlib.Omega.{arith}
use borrow.Author.Tests.{le-leb, lt-leb}
use lib.ListN.{length, get_or, take, drop, length-drop, length-append, get_or-append}
use borrow.Rule.Slice.PartMut.{put_mid}
use lib.Seq.{sets, sets-eq, take-length, ext_get_or, length-take-le, get_or-take, get_or-drop}
use Rattle.std.proofs.lemmas.Slice.{put_mid-paste}
use Rattle.table.specs.Lists.{joined}
use Rattle.table.proofs.Lists.{length-joined, get_or-joined, join-next}
use Rattle.analysis.specs.Answer.{Cells}
use Rattle.told.specs.Cells.{cells_of_task, listed, cells_in, stored}

pub length-listed : (c : Cells) → length (listed c) ≡ cells_of_task
unfolding listed
length-listed c = refl

-- the list says the cells
pub listed-unique : {c d : Cells} → listed c ≡ listed d → c ≡ d
unfolding listed
listed-unique {c} {d} e =
    let code : c.code ≡ d.code = cc in
    let bound : c.bound ≡ d.bound = cc in
    let evaluations : c.evaluations ≡ d.evaluations = cc in
    let mode : c.mode ≡ d.mode = cc in
    let candidate : c.candidate ≡ d.candidate = cc in
    let job : c.job ≡ d.job = cc in
    λ i. record {
      code = code i;
      bound = bound i;
      evaluations = evaluations i;
      mode = mode i;
      candidate = candidate i;
      job = job i;
    }

-- a write to a part of a list stores one behind the other
pub mid-sets : (a k : ℕ) (xs ys : List ℕ) → length ys ≡ k → a + k ≤ length xs → put_mid a k xs ys ≡ sets xs a ys
mid-sets a k xs ys e room =
    let room : a + length ys ≤ length xs = omega arith in
    put_mid-paste a k xs ys ys k refl refl (sym e)
    ∙ rw (← e) (ap (λ (l : List ℕ). take a xs ++ l ++ drop (a + length ys) xs) (take-length ys) ∙ sym (sets-eq ys xs a room))

-- ---- room

module _ (cells : List ℕ) (k : ℕ) (c : Cells) where
  pub stored_there : cells_of_task * suc k ≤ length cells → stored cells k c ≡ sets cells (cells_of_task * k) (listed c)
  unfolding stored
  stored_there room = rw (le-leb (cells_of_task * suc k) (length cells) room)

  pub stored-nowhere : length cells < cells_of_task * suc k → stored cells k c ≡ cells
  unfolding stored
  stored-nowhere short = rw (lt-leb (cells_of_task * suc k) (length cells) short)

-- ---- the cells of one task behind another's

module _ (told : ℕ → Cells) where
  pub length-told : (n : ℕ) → length (joined n (λ k. listed (told k))) ≡ cells_of_task * n
  length-told n = omega (arith, length-joined n cells_of_task (λ k. listed (told k)) (λ k l. length-listed (told k)))

  -- one task more
  pub told-next :
      (before : List ℕ) (k : ℕ)
      → sets (sets before 0 (joined k (λ i. listed (told i)))) (cells_of_task * k) (listed (told k))
      ≡ sets before 0 (joined (k + 1) (λ i. listed (told i)))
  told-next before k =
      let zero-on : cells_of_task * k ≡ 0 + cells_of_task * k = omega arith in
      ap (λ (i : ℕ). sets (sets before 0 (joined k (λ i. listed (told i)))) i (listed (told k))) zero-on
      ∙ join-next (λ i. listed (told i)) before 0 k (cells_of_task * k) (length-told k)

  -- the cells of task k among them
  pub told_in :
      (n : ℕ) (rest : List ℕ) (k : ℕ) → k < n → cells_in (joined n (λ i. listed (told i)) ++ rest) k ≡ listed (told k)
  unfolding cells_in
  told_in n rest k l =
      let all = joined n (λ i. listed (told i)) in
      let part = drop (cells_of_task * k) (all ++ rest) in
      let long : length (all ++ rest) ≡ length all + length rest = length-append all rest in
      let room : cells_of_task ≤ length part = rw length-drop (omega (arith, long, length-told n)) in
      let size : length (take cells_of_task part) ≡ cells_of_task = length-take-le cells_of_task part room in
      ext_get_or 0 (take cells_of_task part) (listed (told k)) (size ∙ sym (length-listed (told k)))
      (λ i h.
      let small : i < cells_of_task = omega (arith, size, h) in
      get_or-take cells_of_task part i 0 small
      ∙ get_or-drop (cells_of_task * k) (all ++ rest) i 0
      ∙ get_or-append all rest 0 (cells_of_task * k + i) (omega (arith, length-told n, small))
      ∙ ap (λ (m : ℕ). get_or all (m + i) 0) (sym (length-told k))
      ∙ get_or-joined n k i (λ i. listed (told i)) l (omega (arith, length-listed (told k), small)))
