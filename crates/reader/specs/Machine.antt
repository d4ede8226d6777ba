-- How far words can be gone on with: what is still to come, as a list of symbols, and what each word makes of it. Nothing of the
-- language is decided here; laws join this with the recipes' words.
use Rattle.std.specs.Prelude.{ℕ, ◌+◌, Bool, true, false, cond, ◌||◌, ◌&&◌, List, [], ◌∷◌, ◌++◌, eqb, leb}
use Rattle.rules.specs.declared.Operator.{Operator}
use Rattle.language.specs.Tokens as word
use Rattle.language.specs.Tokens.{Token}
use Rattle.rules.specs.Trees.{operator_number}

-- a number for each word, but one for all numbers and one for all variables
unfoldable pub tag : Token → ℕ
tag word.skip = 0
tag word.set = 1
tag word.if = 2
tag word.then = 3
tag word.else = 4
tag word.end = 5
tag word.while = 6
tag word.doing = 7
tag word.settled = 8
tag word.provisional = 9
tag word.input = 10
tag word.opening = 11
tag word.closing = 12
tag word.semicolon = 13
tag (word.sign o) = 20 + operator_number o
tag (word.variable v) = 30
tag (word.numeral n) = 31
tag word.unknown = 40

-- the second word is the first one
abbrev pub is_word : Token → Token → Bool
is_word t other = eqb (tag other) (tag t)

abbrev pub is_variable : Token → Bool
is_variable t = eqb (tag t) 30

abbrev pub is_numeral : Token → Bool
is_numeral t = eqb (tag t) 31

abbrev pub is_sign : Token → Bool
is_sign t = leb 20 (tag t) && leb (tag t) 25

-- what ends a block: else, end, or the text
pub data Closer : Type 0 where
  at_else : Closer
  at_end : Closer
  at_finish : Closer

-- what is still to come: an expression; a statement; this word; a variable; an operator; the rest of a block after a statement;
-- a recipe; the rest of a declaration after its variable, and all that follows it
pub data Symbol : Type 0 where
  expr : Symbol
  statement : Symbol
  exactly : Token → Symbol
  name : Symbol
  operator : Symbol
  rest : Closer → Symbol
  start : Symbol
  level : Symbol

-- no recipe goes on with the word; or these symbols come in place of the first one
pub data Advance : Type 0 where
  stop : Advance
  go : List Symbol → Advance

abbrev pub also : List Symbol → Advance → Advance
also more stop = stop
also more (go symbols) = go (symbols ++ more)

unfoldable pub on_expr : Token → Advance
on_expr t =
    cond (is_word word.opening t) (go (expr ∷ operator ∷ expr ∷ exactly word.closing ∷ []))
    (cond (is_numeral t || is_variable t) (go []) stop)

unfoldable pub on_statement : Token → Advance
on_statement t =
    cond (is_word word.skip t) (go [])
    (cond (is_word word.set t) (go (name ∷ exactly (word.sign Operator.Equal) ∷ expr ∷ []))
    (cond (is_word word.if t) (go (expr ∷ exactly word.then ∷ statement ∷ rest at_else ∷ []))
    (cond (is_word word.while t) (go (expr ∷ exactly word.doing ∷ statement ∷ rest at_end ∷ []))
    (cond (is_word word.settled t || is_word word.provisional t) (go (expr ∷ [])) stop))))

unfoldable pub closing : Closer → Token → Advance
closing at_else t = cond (is_word word.else t) (go (statement ∷ rest at_end ∷ [])) stop
closing at_end t = cond (is_word word.end t) (go []) stop
closing at_finish t = stop

unfoldable pub on_rest : Closer → Token → Advance
on_rest c t = cond (is_word word.semicolon t) (go (statement ∷ rest c ∷ [])) (closing c t)

unfoldable pub on_start : Token → Advance
on_start t = cond (is_word word.input t) (go (name ∷ level ∷ [])) (also (rest at_finish ∷ []) (on_statement t))

unfoldable pub on_level : Token → Advance
on_level t =
    cond (is_word word.settled t || is_word word.provisional t) (go (exactly word.semicolon ∷ start ∷ []))
    (cond (is_word word.semicolon t) (go (start ∷ [])) stop)

abbrev pub expected : Bool → Advance
expected true = go []
expected false = stop

abbrev pub advance : Symbol → Token → Advance
advance expr t = on_expr t
advance statement t = on_statement t
advance (exactly other) t = expected (is_word other t)
advance name t = expected (is_variable t)
advance operator t = expected (is_sign t)
advance (rest c) t = on_rest c t
advance start t = on_start t
advance level t = on_level t

-- all words were gone on with, and nothing is to come; or none can go on with the first of these, where the end is []
pub data Outcome : Type 0 where
  finished : Outcome
  stuck : List Token → Outcome

-- whether a text may end here
abbrev pub may_end : Symbol → Bool
may_end expr = false
may_end statement = false
may_end (exactly t) = false
may_end name = false
may_end operator = false
may_end (rest at_else) = false
may_end (rest at_end) = false
may_end (rest at_finish) = true
may_end start = false
may_end level = false

abbrev pub ends_at : Bool → Outcome → Outcome
ends_at true more = more
ends_at false more = stuck []

abbrev pub ended : List Symbol → Outcome
ended [] = finished
ended (s ∷ symbols) = ends_at (may_end s) (ended symbols)

abbrev pub onward : Advance → (List Symbol → Outcome) → List Symbol → List Token → Outcome
onward stop more symbols here = stuck here
onward (go first) more symbols here = more (first ++ symbols)

unfoldable pub run : List Token → List Symbol → Outcome
run [] symbols = ended symbols
run (t ∷ ts) [] = stuck (t ∷ ts)
run (t ∷ ts) (s ∷ symbols) = onward (advance s t) (run ts) symbols (t ∷ ts)
