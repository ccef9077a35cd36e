-- Which bytes stand as themselves in a page: printable ASCII that is never part of markup.
use Rattle.std.specs.Prelude.{◌≡◌, refl, Bool, true, false, ◌&&◌, not, [], ◌∷◌, map, ℕ, leb, eqb}

-- neither " nor & nor ' nor < nor >
unfoldable pub is_plain : ℕ → Bool
is_plain b =
    leb 32 b && leb b 126 && not (eqb b 34) && not (eqb b 38) && not (eqb b 39) && not (eqb b 60) && not (eqb b 62)

-- the five, and the bytes beside them
five : map is_plain (34 ∷ 38 ∷ 39 ∷ 60 ∷ 62 ∷ []) ≡ false ∷ false ∷ false ∷ false ∷ false ∷ []
unfolding is_plain
five = refl

neighbours : map is_plain (33 ∷ 35 ∷ 37 ∷ 40 ∷ 59 ∷ 61 ∷ 63 ∷ []) ≡ true ∷ true ∷ true ∷ true ∷ true ∷ true ∷ true ∷ []
unfolding is_plain
neighbours = refl

-- a blank and a tilde, and the bytes beyond them
edges : map is_plain (31 ∷ 32 ∷ 126 ∷ 127 ∷ 128 ∷ []) ≡ false ∷ true ∷ true ∷ false ∷ false ∷ []
unfolding is_plain
edges = refl
