-- What tokens are a program of the grammar, a subset of ECMA-262, and which token is the first with which they are none.
use Rattle.std.specs.Prelude.{◌≡◌, ℕ, suc, true, false, [], ◌∷◌, ◌++◌, length}
use Rattle.script_grammar.specs.Tokens.{Tok, Toks}
use Rattle.script_grammar.specs.Trees.{Program}
use Rattle.script_grammar.specs.Spelling.{spell_program}
use Rattle.script_grammar.specs.Rules.{Right, within_program}

-- these tokens spell this program, and none of them opens a level beyond d
pub record IsProgram (d : ℕ) (ts : Toks) (p : Program) : Type 0 where
  pub spelled : ts ≡ spell_program p
  pub right : Right p
  pub levels : (n : ℕ) → within_program p d n ≡ true

-- some program begins with these tokens
abbrev pub Begins : Toks → Type 0
Begins ts = (more : Toks) × (p : Program) × (ts ++ more ≡ spell_program p) × Right p

-- and none of them opens a level beyond d
abbrev pub BeginsWithin : ℕ → Toks → Type 0
BeginsWithin d ts = (more : Toks) × (p : Program) × (ts ++ more ≡ spell_program p) × Right p × (within_program p d (length ts) ≡ true)

-- no program begins with these tokens and the next one, or where none is next they are no program
abbrev pub Stops : Toks → Toks → Type 0
Stops front [] = (p : Program) → front ≡ spell_program p → Right p → ⊥
Stops front (t ∷ rest) = Begins (front ++ t ∷ []) → ⊥

-- the first of the rest is the first token with which the tokens begin no program
pub record IsUnexpected (d : ℕ) (ts rest : Toks) : Type 0 where
  pub front : Toks
  pub splits : ts ≡ front ++ rest
  pub begins : BeginsWithin d front
  pub stops : Stops front rest

-- the first of the rest opens a level beyond d, and stands before the first unexpected token
pub record IsTooNested (d : ℕ) (ts rest : Toks) : Type 0 where
  pub front : Toks
  pub next : Tok
  pub left : Toks
  pub splits : ts ≡ front ++ rest
  pub head : rest ≡ next ∷ left
  pub begins : BeginsWithin d front
  pub goes_on : Begins (front ++ next ∷ [])
  pub opens : (more : Toks) (p : Program) → front ++ next ∷ more ≡ spell_program p → Right p → within_program p d (suc (length front)) ≡ false
