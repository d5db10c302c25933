-- Where the tokens of a source stand, and what they are there.
use Rattle.std.specs.Prelude.{◌≡◌, ℕ, ◌-◌, ◌<◌, ◌≤◌, List, [], ◌∷◌, drop}
use Rattle.script_text.specs.Lexical.{piece_at}
use Rattle.script_text.specs.declared.token.Token.{Token}
use Rattle.script_text.specs.declared.token.Piece.TheVariants as piece

-- from one place up to another the tokens stand one behind the other, and none of them is empty
abbrev pub AscendWithin : ℕ → ℕ → List Token → Type 0
AscendWithin low high [] = low ≤ high
AscendWithin low high (t ∷ ts) = (low ≤ t.start) × (t.start < t.end) × AscendWithin t.end high ts

-- each of the tokens is what stands in the source at its first place, and has as many bytes
abbrev pub ArePieces : List ℕ → List Token → Type 0
ArePieces source [] = Unit {0}
ArePieces source (t ∷ ts) = (piece_at (drop t.start source) ≡ piece.Token t.kind (t.end - t.start)) × ArePieces source ts
