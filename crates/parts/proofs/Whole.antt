-- Every cell of a list stored anew, from the first on.
use Rattle.std.proofs.Common.{◌≡◌, List, [], ◌++◌, ◌+◌, ◌∙◌, length, drop, ap, arith}
use Rattle.std.proofs.Math.Seq.{drop-length}
use Rattle.std.proofs.lemmas.List.{append-nil}
use Rattle.std.proofs.lemmas.List.Edits.{sets, sets-eq}

pub sets-whole : {A : Type 0} (l vs : List A) → length l ≡ length vs → sets l 0 vs ≡ vs
sets-whole {A} l vs e =
    let past : 0 + length vs ≡ length l = omega arith in
    let none : drop (0 + length vs) l ≡ [] = rw past (drop-length l) in
    sets-eq vs l 0 (omega arith) ∙ ap (λ (rest : List A). vs ++ rest) none ∙ append-nil vs
