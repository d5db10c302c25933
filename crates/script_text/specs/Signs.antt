-- How signs are written, and the longest at the front of bytes.
use Rattle.std.specs.Prelude.{ℕ, if◌then◌else◌, List, [], ◌∷◌, Option, Some, None, codes, nat_eq}
use Rattle.std.specs.List.{starts_with}
pub use Rattle.script_text.specs.declared.sign.Sign.{Sign}
pub use Rattle.script_text.specs.declared.sign.Sign.TheVariants.{Same, NotSame, AtMost, AtLeast, And, Or, PlusAssign, MinusAssign, StarAssign, PercentAssign, Ellipsis, OpenRound, CloseRound, OpenBrace, CloseBrace, OpenSquare, CloseSquare, Comma, Semicolon, Colon, Dot, Question, Assign, Less, Greater, Plus, Minus, Star, Percent, Not}

abbrev pub spelling : Sign → List ℕ
spelling Same = codes "==="
spelling NotSame = codes "!=="
spelling AtMost = codes "<="
spelling AtLeast = codes ">="
spelling And = codes "&&"
spelling Or = codes "||"
spelling PlusAssign = codes "+="
spelling MinusAssign = codes "-="
spelling StarAssign = codes "*="
spelling PercentAssign = codes "%="
spelling Ellipsis = codes "..."
spelling OpenRound = codes "("
spelling CloseRound = codes ")"
spelling OpenBrace = codes "{"
spelling CloseBrace = codes "}"
spelling OpenSquare = codes "["
spelling CloseSquare = codes "]"
spelling Comma = codes ","
spelling Semicolon = codes ";"
spelling Colon = codes ":"
spelling Dot = codes "."
spelling Question = codes "?"
spelling Assign = codes "="
spelling Less = codes "<"
spelling Greater = codes ">"
spelling Plus = codes "+"
spelling Minus = codes "-"
spelling Star = codes "*"
spelling Percent = codes "%"
spelling Not = codes "!"

-- every sign, a longer one before each that it begins with
abbrev pub signs : List Sign
signs = Same ∷ NotSame ∷ AtMost ∷ AtLeast ∷ And ∷ Or ∷ PlusAssign ∷ MinusAssign ∷ StarAssign ∷ PercentAssign ∷ Ellipsis ∷ OpenRound ∷ CloseRound ∷ OpenBrace ∷ CloseBrace ∷ OpenSquare ∷ CloseSquare ∷ Comma ∷ Semicolon ∷ Colon ∷ Dot ∷ Question ∷ Assign ∷ Less ∷ Greater ∷ Plus ∷ Minus ∷ Star ∷ Percent ∷ Not ∷ []

-- the first of these that the bytes begin with
abbrev pub first_sign : List Sign → List ℕ → Option Sign
first_sign [] bytes = None
first_sign (s ∷ ss) bytes = if starts_with nat_eq bytes (spelling s) then Some s else first_sign ss bytes

-- the longest sign at the front
unfoldable pub sign_at : List ℕ → Option Sign
sign_at bytes = first_sign signs bytes
