-- How the code counts a text.
use Rattle.std.specs.Prelude.{ℕ, ◌+◌, ◌<◌, ◌≤◌, if◌then◌else◌, List, ◌++◌, length, Result, Ok, Err, Option, Some, None, nat_lt}
use Rattle.script_text.specs.Lexical.{longest_text}
use Rattle.script_text.specs.declared.token.Piece.{Piece}
use Rattle.script_text.specs.declared.token.Token.{Token}
use Rattle.script_text.specs.declared.token.LexFault.{LexFault}
use Rattle.script_text.specs.declared.token.Piece.TheVariants as piece
use Rattle.script_text.specs.Texts.{Found, Step, Closed, Refused, Adds, HexWithin}
use Rattle.js_lex.specs.declared.text.Step.{Step as Counted}
use Rattle.js_lex.specs.declared.text.Step.TheVariants as counted

-- a step, with the number of bytes that it adds
abbrev pub counted_step : Step → Counted
counted_step Closed = counted.Closed
counted_step Refused = counted.Refused
counted_step (Adds bytes next) = counted.Adds (length bytes) next

abbrev pub NextWithin : Counted → Type 0
NextWithin (counted.Adds n next) = HexWithin next × (n < 5)
NextWithin _ = Unit {0}

-- the text's size, where so many bytes of its value and of its spelling stand before; none where the value is too long
abbrev pub span : ℕ → ℕ → Option Found → Option ℕ
span value size None = None
span value size (Some f) = if nat_lt longest_text (value + length f.value) then None else Some (size + f.size)

-- a blank or a token has at least one byte and at most these
abbrev pub IsWithin : ℕ → Piece → Type 0
IsWithin size (piece.Blank n) = (0 < n) × (n ≤ size)
IsWithin size (piece.Token k n) = (0 < n) × (n ≤ size)
IsWithin size (piece.Wrong c) = Unit {0}

-- tokens that were found, before what the rest gives
abbrev pub onto : List Token → Result (List Token) LexFault → Result (List Token) LexFault
onto found (Ok ts) = Ok (found ++ ts)
onto found (Err f) = Err f
