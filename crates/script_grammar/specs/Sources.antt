-- The tokens of a source, the program that they are, and the place of their first fault.
use Rattle.std.specs.Prelude.{◌≡◌, ◌≤◌, ℕ, List, [], ◌∷◌, length, drop}
use Rattle.script_text.specs.declared.token.Token.{Token}
use Rattle.script_grammar.specs.Tokens.{Toks, seen_from}
use Rattle.script_grammar.specs.Trees.{Program}
use Rattle.script_grammar.specs.Programs.{IsProgram, IsUnexpected, IsTooNested}

-- a program nests at most so many levels
abbrev pub levels : ℕ
levels = 64

-- the tokens of a source from the one of this number on
abbrev pub toks : List ℕ → List Token → ℕ → Toks
toks source tokens k = seen_from source k (drop k tokens)

abbrev pub start_of : List ℕ → List Token → ℕ
start_of source [] = length source
start_of source (t ∷ ts) = t.start

-- where the token of this number begins; behind the last one, the length of the source
abbrev pub offset_of : List ℕ → List Token → ℕ → ℕ
offset_of source tokens k = start_of source (drop k tokens)

-- the tokens of the source spell this program
abbrev pub Spells : List ℕ → List Token → Program → Type 0
Spells source tokens p = IsProgram levels (toks source tokens 0) p

-- the first unexpected token begins here; or no token is, but the program does not end at the end of the source
pub record UnexpectedAt (source : List ℕ) (tokens : List Token) (at : ℕ) : Type 0 where
  pub token : ℕ
  pub within : token ≤ length tokens
  pub begins : at ≡ offset_of source tokens token
  pub first : IsUnexpected levels (toks source tokens 0) (toks source tokens token)

-- the first token that opens a level too many begins here, before the first unexpected one
pub record TooNestedAt (source : List ℕ) (tokens : List Token) (at : ℕ) : Type 0 where
  pub token : ℕ
  pub within : token ≤ length tokens
  pub begins : at ≡ offset_of source tokens token
  pub first : IsTooNested levels (toks source tokens 0) (toks source tokens token)
