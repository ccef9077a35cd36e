-- The message schedule, laid into an array word by word: what stands in the array behind the words so far changes nothing.
use Rattle.std.proofs.Common.{◌≡◌, ℕ, ◌+◌, ◌-◌, ◌<◌, ◌≤◌, Bool, true, false, ltb, List, length, take, set, sym, refl, add-one, arith, get_or-take, take-suc-set, ltb-false}
use Rattle.sha256.specs.Sum.{next_word, schedule}

by_cases : (p : List ℕ) (i : ℕ) (w : List ℕ) (t : ℕ) (first : Bool) → ltb t 16 ≡ first → next_word p i (take t w) t ≡ next_word p i w t
unfolding next_word
by_cases p i w t true e = rw e
by_cases p i w t false e =
    let h : 16 ≤ t = ltb-false t 16 e in
    rw (
      get_or-take t w (t - 2) 0 (omega arith),
      get_or-take t w (t - 7) 0 (omega arith),
      get_or-take t w (t - 15) 0 (omega arith),
      get_or-take t w (t - 16) 0 (omega arith),
    )

-- a word goes by those before it alone
words-before : (p : List ℕ) (i : ℕ) (w : List ℕ) (t : ℕ) → next_word p i (take t w) t ≡ next_word p i w t
words-before p i w t = by_cases p i w t (ltb t 16) refl

pub one_more : (p : List ℕ) (i : ℕ) (w : List ℕ) (t v : ℕ) → t < length w → take t w ≡ schedule p i t → v ≡ next_word p i w t
    → take (t + 1) (set w t v) ≡ schedule p i (t + 1)
unfolding schedule
one_more p i w t v within before word = rw (add-one, sym before, words-before p i w t, take-suc-set w t v within, word)
