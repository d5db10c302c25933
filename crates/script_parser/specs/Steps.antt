-- The steps that every rule of the parser is made of.
use Rattle.std.specs.Prelude.{ℕ, zero, suc, Bool, if◌then◌else◌, [], ◌∷◌, length, Option, Some, None, Result, Ok, Err}
use Rattle.script_grammar.specs.Tokens.{Tok, Toks}

-- why the tokens are no program of these levels
pub data Why : Type 0 where
  Unexpected TooNested : Why

-- what was read and the tokens after it, or the tokens from the one at fault on
abbrev pub Outcome : Type 0 → Type 0
Outcome A = Result (A × Toks) (Why × Toks)

-- a reader of a front of the tokens
abbrev pub Parser : Type 0 → Type 0
Parser A = Toks → Outcome A

-- the second reader goes on where the first one ended; a fault ends both
abbrev pub and_then : {A B : Type 0} → Outcome A → (A → Parser B) → Outcome B
and_then (Ok p) f = f p.0 p.1
and_then (Err e) f = Err e

infixl 10 ◌>>=◌
-- two readers, one behind the other
abbrev pub ◌>>=◌ : {A B : Type 0} → Parser A → (A → Parser B) → Parser B
p >>= f = λ ts. and_then (p ts) f

-- reads no token
abbrev pub pure : {A : Type 0} → A → Parser A
pure a = λ ts. Ok (a, ts)

-- the next token is unexpected
abbrev pub fail : {A : Type 0} → Parser A
fail = λ ts. Err (Unexpected, ts)

-- the token is taken where a test made something of it
abbrev pub taken : {A : Type 0} → Option A → Tok → Toks → Outcome A
taken None t ts = Err (Unexpected, t ∷ ts)
taken (Some a) t ts = Ok (a, ts)

-- one token, as what the test makes of it
unfoldable pub take : {A : Type 0} → (Tok → Option A) → Parser A
take f [] = Err (Unexpected, [])
take f (t ∷ ts) = taken (f t) t ts

-- a token that would open a level is one too many; another is unexpected
abbrev pub refused : {A : Type 0} → Option A → Why
refused None = Unexpected
refused (Some a) = TooNested

-- the levels are too many where this token comes next
unfoldable pub too_deep : {A B : Type 0} → (Tok → Option B) → Parser A
too_deep f [] = Err (Unexpected, [])
too_deep f (t ∷ ts) = Err (refused (f t), t ∷ ts)

-- the next token
abbrev pub first : Toks → Option Tok
first [] = None
first (t ∷ ts) = Some t

-- chooses by the next token and leaves it
abbrev pub look : {A : Type 0} → (Option Tok → Parser A) → Parser A
look f = λ ts. f (first ts) ts

-- A turn that may go on with the whole again, behind a token. The number bounds the turns.
unfoldable pub again_from : {A : Type 0} → (Parser A → Parser A) → ℕ → Parser A
again_from turn zero = fail
again_from turn (suc n) = turn (again_from turn n)

-- the turn, as often as it goes on
unfoldable pub again : {A : Type 0} → (Parser A → Parser A) → Parser A
again turn ts = again_from turn (suc (length ts)) ts

-- items as long as the next token says so
abbrev pub many_by : {A C : Type 0} → (Tok → Bool) → Parser A → C → (A → C → C) → Parser C → Option Tok → Parser C
many_by goes_on item nil cons more None = pure nil
many_by goes_on item nil cons more (Some t) = if goes_on t then (item >>= λ x. more >>= λ xs. pure (cons x xs)) else pure nil

-- the items, up to the first token with which none goes on
abbrev pub many : {A C : Type 0} → (Tok → Bool) → Parser A → C → (A → C → C) → Parser C
many goes_on item nil cons = again (λ more. look (many_by goes_on item nil cons more))

-- the end of the tokens
unfoldable pub finish : Parser (Unit {0})
finish [] = Ok (tt, [])
finish (t ∷ ts) = Err (Unexpected, t ∷ ts)
