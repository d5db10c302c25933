-- Tokens as the grammar sees them: what they say, and names with their number among the tokens.
use Rattle.std.specs.Prelude.{ℕ, ◌+◌, ◌-◌, if◌then◌else◌, List, [], ◌∷◌, length, take, drop, Option, Some, None, nat_lt}
use Rattle.std.specs.Str.{is_utf8}
use Rattle.script_text.specs.Lexical.{largest, longest_text}
use Rattle.script_text.specs.declared.token.Token.{Token}
use Rattle.script_text.specs.declared.token.Kind.{Kind}
use Rattle.script_text.specs.declared.token.Kind.TheVariants as kind
use Rattle.script_text.specs.declared.token.Inside.TheVariants.{Plain}
use Rattle.script_text.specs.declared.sign.Sign.{Sign}
use Rattle.script_text.specs.declared.word.Reserved.{Reserved}
use Rattle.script_text.specs.Texts.{Found, text_in}

pub data Tok : Type 0 where
  -- a name and the number of its token
  Name : ℕ → List ℕ → Tok
  -- a word that is no name
  Kept : Reserved → Tok
  Integer : ℕ → Tok
  -- a text's value
  Text : List ℕ → Tok
  Fixed : Sign → Tok
  -- no token of a script: an integer or a text that is none
  Other : Tok

abbrev pub Toks : Type 0
Toks = List Tok

-- the bytes of a token
abbrev pub bytes_of : List ℕ → Token → List ℕ
bytes_of source t = take (t.end - t.start) (drop t.start source)

-- a value within its limit that is UTF-8
abbrev pub usable : Option Found → Option (List ℕ)
usable None = None
usable (Some f) = if nat_lt longest_text (length f.value) then None else (if is_utf8 f.value then Some f.value else None)

-- the value of a text that is spelled so
abbrev pub text_value : List ℕ → Option (List ℕ)
text_value [] = None
text_value (quote ∷ rest) = usable (text_in quote Plain rest)

abbrev pub as_text : Option (List ℕ) → Tok
as_text None = Other
as_text (Some value) = Text value

-- the token of this number
abbrev pub seen_as : List ℕ → ℕ → Kind → Tok
seen_as bytes k kind.Name = Name k bytes
seen_as bytes k (kind.Reserved r) = Kept r
seen_as bytes k (kind.Integer n) = if nat_lt largest n then Other else Integer n
seen_as bytes k kind.Text = as_text (text_value bytes)
seen_as bytes k (kind.Sign s) = Fixed s

abbrev pub seen : List ℕ → ℕ → Token → Tok
seen source k t = seen_as (bytes_of source t) k t.kind

-- the tokens of a source, the first of which has this number
unfoldable pub seen_from : List ℕ → ℕ → List Token → Toks
seen_from source k [] = []
seen_from source k (t ∷ ts) = seen source k t ∷ seen_from source (k + 1) ts
