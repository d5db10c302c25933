-- The text between two quotes: what its characters stand for.
use Rattle.std.specs.Prelude.{◌≡◌, ℕ, ◌<◌, ◌⊎◌, ◌+◌, ◌-◌, ◌*◌, if◌then◌else◌, ◌==◌, ◌||◌, List, [], ◌∷◌, ◌++◌, Option, Some, None, nat_lt}
use Rattle.std.specs.Char.{digit_value, encode_utf8}
use Rattle.script_text.specs.declared.token.Inside.{Inside}
use Rattle.script_text.specs.declared.token.Inside.TheVariants.{Plain, Escape, Hex}

-- a text's value and how many bytes spell it, its closing quote included
pub record Found : Type 0 where
  pub value : List ℕ
  pub size : ℕ

-- what one byte does: it closes the text, it cannot stand there, or it adds bytes to the value
pub data Step : Type 0 where
  Closed : Step
  Refused : Step
  Adds : List ℕ → Inside → Step

-- what a letter behind a backslash stands for
abbrev pub escaped : ℕ → Step
escaped b =
    if b == 110 then Adds (10 ∷ []) Plain
    else if b == 114 then Adds (13 ∷ []) Plain
    else if b == 116 then Adds (9 ∷ []) Plain
    else if (b == 92 || b == 39) || b == 34 then Adds (b ∷ []) Plain
    else if b == 117 then Adds [] (Hex 4 0)
    else Refused

-- the character of this code, unless it is a surrogate
abbrev pub coded : ℕ → Step
coded c = if nat_lt c 55296 || nat_lt 57343 c then Adds (encode_utf8 c) Plain else Refused

-- one more of the left digits of `\u`
abbrev pub hex_digit : ℕ → ℕ → ℕ → Step
hex_digit left value b =
    if nat_lt (digit_value b) 16
    then (if nat_lt 1 left then Adds [] (Hex (left - 1) (value * 16 + digit_value b)) else coded (value * 16 + digit_value b))
    else Refused

-- the digits of `\u` so far have a value that one more keeps within 16 bits
abbrev pub HexWithin : Inside → Type 0
HexWithin Plain = Unit {0}
HexWithin Escape = Unit {0}
HexWithin (Hex left value) = (left ≡ 4 × value < 1) ⊎ (left ≡ 3 × value < 16) ⊎ (left ≡ 2 × value < 256) ⊎ (left ≡ 1 × value < 4096)

abbrev pub text_step : ℕ → Inside → ℕ → Step
text_step quote Plain b =
    if b == quote then Closed
    else if b == 92 then Adds [] Escape
    else if b == 10 || b == 13 then Refused
    else Adds (b ∷ []) Plain
text_step quote Escape b = escaped b
text_step quote (Hex left value) b = hex_digit left value b

-- these bytes of the value, spelled by one more byte, before what was found behind it
abbrev pub before : List ℕ → Option Found → Option Found
before bytes None = None
before bytes (Some f) = Some (record { value = bytes ++ f.value; size = f.size + 1 })

-- the text up to its closing quote; none where a byte cannot stand where it stands, or the quote is missing
unfoldable pub text_in : ℕ → Inside → List ℕ → Option Found
text_in quote state [] = None
text_in quote state (b ∷ rest) = elim (text_step quote state b) [ Closed ↦ Some (record { value = []; size = 1 }) | Refused ↦ None | Adds bytes next ↦ before bytes (text_in quote next rest) ]
