-- When bytes are taken for a text: there are some, and each is a tab, a line feed, a carriage return or printable ASCII.
use Rattle.std.specs.Prelude.{◌≡◌, refl, Bool, true, false, ◌&&◌, ◌||◌, List, [], ◌∷◌, ℕ, ltb, leb, eqb, length}
use Rattle.std.specs.List.{list_all}

unfoldable pub in_text : ℕ → Bool
in_text b = eqb b 9 || eqb b 10 || eqb b 13 || (leb 32 b && leb b 126)

abbrev pub all_in_text : List ℕ → Bool
all_in_text bytes = list_all in_text bytes

unfoldable pub is_text : List ℕ → Bool
is_text bytes = all_in_text bytes && ltb 0 (length bytes)

-- a blank and a tilde, the bytes beside them, and the three that are no printable ones
edges : in_text 31 ∷ in_text 32 ∷ in_text 126 ∷ in_text 127 ∷ [] ≡ false ∷ true ∷ true ∷ false ∷ []
unfolding in_text
edges = refl

controls : in_text 8 ∷ in_text 9 ∷ in_text 10 ∷ in_text 13 ∷ in_text 0 ∷ [] ≡ false ∷ true ∷ true ∷ true ∷ false ∷ []
unfolding in_text
controls = refl

-- "10 00\n" and nothing at all; the first bytes of document 01's last image
texts : is_text (49 ∷ 48 ∷ 32 ∷ 48 ∷ 48 ∷ 10 ∷ []) ∷ is_text [] ∷ is_text (16 ∷ 0 ∷ 0 ∷ 160 ∷ []) ∷ [] ≡ true ∷ false ∷ false ∷ []
unfolding is_text in_text
texts = refl

-- one byte that is in no text is enough
last_byte : is_text (49 ∷ 48 ∷ 200 ∷ []) ≡ false
unfolding is_text in_text
last_byte = refl
