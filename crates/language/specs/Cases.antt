-- Texts that are recipes, with everything that they read as.
use Rattle.std.specs.Prelude.{ℕ, false, List, [], ◌∷◌, ◌≡◌, replicate}
use Rattle.rules.specs.declared.Operator.{Operator}
use Rattle.rules.specs.Trees.{constant, variable, binary}
use Rattle.rules.specs.Cases.{Quad}
use Rattle.rules.specs.Cases as tables
use Rattle.language.specs.Limits.{declared_again, table_too_short}
use Rattle.language.specs.Tokens.{Token, numeral, input, opening, unknown, token_of}
use Rattle.language.specs.Tokens as word
use Rattle.language.specs.Recipes.{skip, set, if, while, one, more, plain, Recipe}
use Rattle.language.specs.Recipes as recipe
use Rattle.language.specs.Readings.{words_of, Is, Fault, end_of, refused, untouched, Reading, reading_of}

-- in v1 provisional;
-- settled v0; provisional v1
abbrev whole_text : List ℕ
whole_text =
    105 ∷ 110 ∷ 32 ∷ 118 ∷ 49 ∷ 32 ∷ 112 ∷ 114 ∷ 111 ∷ 118 ∷ 105 ∷ 115 ∷ 105 ∷ 111 ∷ 110 ∷ 97 ∷ 108 ∷ 59 ∷ 10 ∷ 115 ∷ 101 ∷ 116 ∷ 116 ∷ 108 ∷ 101 ∷ 100 ∷ 32 ∷ 118 ∷ 48 ∷ 59 ∷ 32 ∷ 112 ∷ 114 ∷ 111 ∷ 118 ∷ 105 ∷ 115 ∷ 105 ∷ 111 ∷ 110 ∷ 97 ∷ 108 ∷ 32 ∷ 118 ∷ 49 ∷ []

abbrev whole_recipe : Recipe
whole_recipe = record {
  declarations = record { variable = 1; level = recipe.provisional } ∷ [];
  block = more (recipe.settled (variable 0)) (one (recipe.provisional (variable 1)));
}

abbrev whole_rows : List Quad
whole_rows = (9, 0, 0, 0) ∷ (5, 0, 0, 0) ∷ (9, 1, 0, 0) ∷ (5, 1, 2, 0) ∷ (2, 1, 3, 0) ∷ []

-- what a text of so many rows reads as, in a table of just their words
abbrev accepted : List ℕ → ℕ → ℕ → List Quad → Reading
accepted text rows marks quads = record {
  said = record { refusal = 0; at = 0; rows = rows; marks = marks; part = end_of text };
  table = tables.words_of quads;
}

-- in v0; in v1 settled; set v2 = (v0 + 10); if (v2 < 3) then
-- skip else while v2 do settled 5; skip end end
abbrev long_text : List ℕ
long_text =
    105 ∷ 110 ∷ 32 ∷ 118 ∷ 48 ∷ 59 ∷ 32 ∷ 105 ∷ 110 ∷ 32 ∷ 118 ∷ 49 ∷ 32 ∷ 115 ∷ 101 ∷ 116 ∷ 116 ∷ 108 ∷ 101 ∷ 100 ∷ 59 ∷ 32 ∷ 115 ∷ 101 ∷ 116 ∷ 32 ∷ 118 ∷ 50 ∷ 32 ∷ 61 ∷ 32 ∷ 40 ∷ 118 ∷ 48 ∷ 32 ∷ 43 ∷ 32 ∷ 49 ∷ 48 ∷ 41 ∷ 59 ∷ 32 ∷ 105 ∷ 102 ∷ 32 ∷ 40 ∷ 118 ∷ 50 ∷ 32 ∷ 60 ∷ 32 ∷ 51 ∷ 41 ∷ 32 ∷ 116 ∷ 104 ∷ 101 ∷ 110 ∷ 32 ∷ 115 ∷ 107 ∷ 105 ∷ 112 ∷ 32 ∷ 101 ∷ 108 ∷ 115 ∷ 101 ∷ 32 ∷ 119 ∷ 104 ∷ 105 ∷ 108 ∷ 101 ∷ 32 ∷ 118 ∷ 50 ∷ 32 ∷ 100 ∷ 111 ∷ 32 ∷ 115 ∷ 101 ∷ 116 ∷ 116 ∷ 108 ∷ 101 ∷ 100 ∷ 32 ∷ 53 ∷ 59 ∷ 32 ∷ 115 ∷ 107 ∷ 105 ∷ 112 ∷ 32 ∷ 101 ∷ 110 ∷ 100 ∷ 32 ∷ 101 ∷ 110 ∷ 100 ∷ []

abbrev long_recipe : Recipe
long_recipe = record {
  declarations = record { variable = 0; level = plain } ∷ record { variable = 1; level = recipe.settled } ∷ [];
  block =
      more (set 2 (binary Operator.Sum (variable 0) (constant 10)))
      (one
      (if
      (binary Operator.Less (variable 2) (constant 3))
      (one skip)
      (one (while (variable 2) (more (recipe.settled (constant 5)) (one skip))))));
}

abbrev long_rows : List Quad
long_rows =
    (9, 0, 0, 0) ∷ (8, 10, 0, 0) ∷ (10, 0, 0, 1) ∷ (1, 2, 2, 0)
    ∷ (9, 2, 0, 0) ∷ (8, 3, 0, 0) ∷ (10, 5, 4, 5) ∷ (0, 0, 0, 0)
    ∷ (9, 2, 0, 0) ∷ (8, 5, 0, 0) ∷ (5, 0, 9, 0) ∷ (0, 0, 0, 0) ∷ (2, 10, 11, 0) ∷ (4, 8, 12, 0)
    ∷ (3, 6, 7, 13) ∷ (2, 3, 14, 0)
    ∷ []

-- skip; settled 1; skip
abbrev three_text : List ℕ
three_text =
    115 ∷ 107 ∷ 105 ∷ 112 ∷ 59 ∷ 32 ∷ 115 ∷ 101 ∷ 116 ∷ 116 ∷ 108 ∷ 101 ∷ 100 ∷ 32 ∷ 49 ∷ 59 ∷ 32 ∷ 115 ∷ 107 ∷ 105 ∷ 112 ∷ []

abbrev three_recipe : Recipe
three_recipe = record { declarations = []; block = more skip (more (recipe.settled (constant 1)) (one skip)) }

abbrev three_rows : List Quad
three_rows = (0, 0, 0, 0) ∷ (8, 1, 0, 0) ∷ (5, 0, 1, 0) ∷ (0, 0, 0, 0) ∷ (2, 2, 3, 0) ∷ (2, 0, 4, 0) ∷ []

-- The claim: each text is its recipe, and reads as its rows and marks.
abbrev pub TextsRead : Type 0
TextsRead =
    Is whole_text whole_recipe × (reading_of false whole_text whole_recipe (replicate 20 7) ≡ accepted whole_text 5 2 whole_rows)
    × Is long_text long_recipe
    × (reading_of false long_text long_recipe (replicate 64 7) ≡ accepted long_text 16 0 long_rows)
    × Is three_text three_recipe
    × (reading_of false three_text three_recipe (replicate 24 7) ≡ accepted three_text 6 0 three_rows)

-- in v1; in v1 provisional; skip
abbrev twice_text : List ℕ
twice_text =
    105 ∷ 110 ∷ 32 ∷ 118 ∷ 49 ∷ 59 ∷ 32 ∷ 105 ∷ 110 ∷ 32 ∷ 118 ∷ 49 ∷ 32 ∷ 112 ∷ 114 ∷ 111 ∷ 118 ∷ 105 ∷ 115 ∷ 105 ∷ 111 ∷ 110 ∷ 97 ∷ 108 ∷ 59 ∷ 32 ∷ 115 ∷ 107 ∷ 105 ∷ 112 ∷ []

abbrev twice_recipe : Recipe
twice_recipe = record {
  declarations = record { variable = 1; level = plain } ∷ record { variable = 1; level = recipe.provisional } ∷ [];
  block = one skip;
}

-- while 0 do while 0 do while 0 do while 0 do skip end end end end
abbrev deep_text : List ℕ
deep_text =
    119 ∷ 104 ∷ 105 ∷ 108 ∷ 101 ∷ 32 ∷ 48 ∷ 32 ∷ 100 ∷ 111 ∷ 32 ∷ 119 ∷ 104 ∷ 105 ∷ 108 ∷ 101 ∷ 32 ∷ 48 ∷ 32 ∷ 100 ∷ 111 ∷ 32 ∷ 119 ∷ 104 ∷ 105 ∷ 108 ∷ 101 ∷ 32 ∷ 48 ∷ 32 ∷ 100 ∷ 111 ∷ 32 ∷ 119 ∷ 104 ∷ 105 ∷ 108 ∷ 101 ∷ 32 ∷ 48 ∷ 32 ∷ 100 ∷ 111 ∷ 32 ∷ 115 ∷ 107 ∷ 105 ∷ 112 ∷ 32 ∷ 101 ∷ 110 ∷ 100 ∷ 32 ∷ 101 ∷ 110 ∷ 100 ∷ 32 ∷ 101 ∷ 110 ∷ 100 ∷ 32 ∷ 101 ∷ 110 ∷ 100 ∷ []

abbrev deep_recipe : Recipe
deep_recipe = record {
  declarations = [];
  block = one (while (constant 0) (one (while (constant 0) (one (while (constant 0) (one (while (constant 0) (one skip))))))));
}

-- The claim: a variable that is declared again is handed back, and so is the end of a text that nests its loops too deep, or for whose
-- rows the table has a word too few; the table is left as it was.
abbrev pub TextsRefused : Type 0
TextsRefused =
    Is twice_text twice_recipe
    × (reading_of false twice_text twice_recipe (replicate 4 7)
    ≡ untouched (refused declared_again 0 (record { start = 10; size = 2 })) (replicate 4 7))
    × Is deep_text deep_recipe
    × (reading_of false deep_text deep_recipe (replicate 4 7) ≡ untouched (refused 5 8 (end_of deep_text)) (replicate 4 7))
    × (reading_of false whole_text whole_recipe (replicate 19 7) ≡ untouched (refused table_too_short 0 (end_of whole_text)) (replicate 19 7))

-- The claim: the text `)` is at fault at its only word, and the empty text at its end.
abbrev pub FaultsFound : Type 0
FaultsFound = Fault (words_of (41 ∷ [])) (words_of (41 ∷ [])) × Fault (words_of []) []

-- a word's bytes, and what it is
abbrev told : List ℕ → Token → Type 0
told bytes token = token_of bytes ≡ token

-- The claim: what some words are, at the ends of what is allowed and beyond. The words: 0 7 4294967295 4294967296 00 07 1x v v0 v31
-- v32 v03 V1 in In ( TAB.
-- 13.4: A word of digits is a number, where it is at most 4,294,967,295 and none but 0 itself begins with 0; `v` with such
-- a number up to 31 after it is a variable; every other word is unknown.
abbrev pub WordsTold : Type 0
WordsTold =
    told (48 ∷ []) (numeral 0)
    × told (55 ∷ []) (numeral 7)
    × told (52 ∷ 50 ∷ 57 ∷ 52 ∷ 57 ∷ 54 ∷ 55 ∷ 50 ∷ 57 ∷ 53 ∷ []) (numeral 4294967295)
    × told (52 ∷ 50 ∷ 57 ∷ 52 ∷ 57 ∷ 54 ∷ 55 ∷ 50 ∷ 57 ∷ 54 ∷ []) unknown
    × told (48 ∷ 48 ∷ []) unknown
    × told (48 ∷ 55 ∷ []) unknown
    × told (49 ∷ 120 ∷ []) unknown
    × told (118 ∷ []) unknown
    × told (118 ∷ 48 ∷ []) (word.variable 0)
    × told (118 ∷ 51 ∷ 49 ∷ []) (word.variable 31)
    × told (118 ∷ 51 ∷ 50 ∷ []) unknown
    × told (118 ∷ 48 ∷ 51 ∷ []) unknown
    × told (86 ∷ 49 ∷ []) unknown
    × told (105 ∷ 110 ∷ []) input
    × told (73 ∷ 110 ∷ []) unknown
    × told (40 ∷ []) opening
    × told (9 ∷ []) unknown
