-- Which tokens bytes spell, as section 12 of ECMA-262 cuts a source, for the signs and words of this language.
use Rattle.std.specs.Prelude.{ℕ, zero, suc, ◌+◌, ◌-◌, ◌*◌, Bool, false, if◌then◌else◌, not, ◌==◌, ◌||◌, List, [], ◌∷◌, length, drop, Option, Some, None, Result, Ok, Err, nat_lt, nat_eq, codes}
use Rattle.std.specs.List.{starts_with, take_while, prefix_len}
use Rattle.std.specs.Char.{is_ascii_alphabetic, is_ascii_alphanumeric, is_ascii_digit}
use Rattle.std.specs.Str.Lossy.{utf8_valid_len}
pub use Rattle.script_text.specs.declared.token.Kind.{Kind}
pub use Rattle.script_text.specs.declared.token.Token.{Token}
pub use Rattle.script_text.specs.declared.token.Piece.{Piece}
pub use Rattle.script_text.specs.declared.token.Cause.{Cause}
pub use Rattle.script_text.specs.declared.token.LexFault.{LexFault}
use Rattle.script_text.specs.declared.token.Kind.TheVariants as kind
use Rattle.script_text.specs.declared.token.Piece.TheVariants as piece
use Rattle.script_text.specs.declared.token.Cause.TheVariants as cause
use Rattle.script_text.specs.declared.token.LexFault.TheVariants as fault
use Rattle.script_text.specs.declared.token.Inside.TheVariants.{Plain}
use Rattle.script_text.specs.Signs.{Sign, sign_at}
use Rattle.script_text.specs.Words.{Reserved, reserved_of}
use Rattle.script_text.specs.Texts.{Found, text_in}

-- space, tab, LF and CR
abbrev pub is_blank : ℕ → Bool
is_blank b = (b == 32 || b == 9) || (b == 10 || b == 13)

-- an ASCII letter, `_` or `$`
abbrev pub begins_word : ℕ → Bool
begins_word b = is_ascii_alphabetic b || (b == 95 || b == 36)

-- one of these or a digit
abbrev pub in_word : ℕ → Bool
in_word b = is_ascii_alphanumeric b || (b == 95 || b == 36)

abbrev pub is_quote : ℕ → Bool
is_quote b = b == 39 || b == 34

abbrev pub in_line : ℕ → Bool
in_line b = not (b == 10)

abbrev pub begins_with : List ℕ → List ℕ → Bool
begins_with bytes front = starts_with nat_eq bytes front

-- the place behind the first `*/`, where the bytes begin at this place
unfoldable pub comment_end : ℕ → List ℕ → Option ℕ
comment_end at [] = None
comment_end at (b ∷ rest) = if begins_with (b ∷ rest) (codes "*/") then Some (at + 2) else comment_end (at + 1) rest

abbrev pub comment : Option ℕ → Piece
comment None = piece.Wrong cause.Comment
comment (Some end) = piece.Blank end

-- the number that digits write behind what has this value; none where a byte is no digit
unfoldable pub decimal : ℕ → List ℕ → Option ℕ
decimal value [] = Some value
decimal value (b ∷ rest) = if is_ascii_digit b then decimal (value * 10 + (b - 48)) rest else None

abbrev pub has_leading_zero : List ℕ → Bool
has_leading_zero (b ∷ c ∷ rest) = b == 48
has_leading_zero _ = false

-- 2^53 - 1, the largest integer
abbrev pub largest : ℕ
largest = 9007199254740991

abbrev pub up_to_largest : Option ℕ → Option ℕ
up_to_largest None = None
up_to_largest (Some n) = if nat_lt largest n then None else Some n

-- the integer that a whole run of word characters is
abbrev pub integer_of : List ℕ → Option ℕ
integer_of run = if has_leading_zero run then None else up_to_largest (decimal 0 run)

abbrev pub number : List ℕ → Piece
number run = elim (integer_of run) [ None ↦ piece.Wrong cause.Number | Some n ↦ piece.Token (kind.Integer n) (length run) ]

abbrev pub word_kind : Option Reserved → Kind
word_kind None = kind.Name
word_kind (Some r) = kind.Reserved r

abbrev pub word : List ℕ → Piece
word run = piece.Token (word_kind (reserved_of run)) (length run)

-- the longest value of a text
abbrev pub longest_text : ℕ
longest_text = 1048576

abbrev pub text : Option Found → Piece
text None = piece.Wrong cause.Text
text (Some f) = if nat_lt longest_text (length f.value) then piece.Wrong cause.Text else piece.Token kind.Text (f.size + 1)

-- how many bytes a sign has
abbrev pub sign_piece : List ℕ → Option Sign → Piece
sign_piece bytes None = piece.Wrong cause.Character
sign_piece bytes (Some s) = piece.Token (kind.Sign s) (length (Rattle.script_text.specs.Signs.spelling s))

-- what stands at the front of bytes whose first byte is this
abbrev pub piece_by : ℕ → List ℕ → Piece
piece_by b bytes =
    if is_blank b then piece.Blank 1
    else if begins_with bytes (codes "//") then piece.Blank (prefix_len in_line bytes)
    else if begins_with bytes (codes "/*") then comment (comment_end 2 (drop 2 bytes))
    else if begins_word b then word (take_while in_word bytes)
    else if is_ascii_digit b then number (take_while in_word bytes)
    else if is_quote b then text (text_in b Plain (drop 1 bytes))
    else sign_piece bytes (sign_at bytes)

unfoldable pub piece_at : List ℕ → Piece
piece_at [] = piece.Blank 0
piece_at (b ∷ rest) = piece_by b (b ∷ rest)

abbrev pub fault_at : Cause → ℕ → LexFault
fault_at cause.Character at = fault.Character at
fault_at cause.Text at = fault.Text at
fault_at cause.Number at = fault.Number at
fault_at cause.Comment at = fault.Comment at

abbrev pub with_token : Token → Result (List Token) LexFault → Result (List Token) LexFault
with_token t (Ok ts) = Ok (t ∷ ts)
with_token t (Err f) = Err f

-- The tokens from a place on, whose first bytes are still of a piece that began before: each piece begins where
-- the one before it ends. The first place where no piece begins is the fault.
unfoldable pub tokens_from : ℕ → ℕ → List ℕ → Result (List Token) LexFault
tokens_from within at [] = Ok []
tokens_from (suc within) at (b ∷ rest) = tokens_from within (at + 1) rest
tokens_from zero at (b ∷ rest) = elim (piece_at (b ∷ rest)) [
  | piece.Blank n ↦ tokens_from (n - 1) (at + 1) rest
  | piece.Token k n ↦ with_token (record { kind = k; start = at; end = at + n }) (tokens_from (n - 1) (at + 1) rest)
  | piece.Wrong c ↦ Err (fault_at c at)
]

abbrev pub place : LexFault → ℕ
place (fault.Character at) = at
place (fault.Text at) = at
place (fault.Number at) = at
place (fault.Comment at) = at
place fault.Memory = 0

-- The source has to be UTF-8 as well: valid is the offset of the first byte that begins no whole character, or the
-- source's length. The earlier of two faults is answered.
abbrev pub checked : ℕ → ℕ → Result (List Token) LexFault → Result (List Token) LexFault
checked valid size (Ok ts) = if valid == size then Ok ts else Err (fault.Character valid)
checked valid size (Err f) = Err (if nat_lt valid (place f) then fault.Character valid else f)

-- the tokens of a source, or its first fault
unfoldable pub tokens_of : List ℕ → Result (List Token) LexFault
tokens_of bytes = checked (utf8_valid_len bytes) (length bytes) (tokens_from 0 0 bytes)
