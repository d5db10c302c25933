-- One piece of the source.
use Rattle.std.proofs.Common.{◌≡◌, ℕ, zero, suc, ◌+◌, ◌-◌, ◌<◌, ◌≤◌, List, [], ◌∷◌, ◌++◌, length, drop, take, Result, Ok, Err, refl, sym, ap, ◌∙◌, arith, add-zero, append_assoc, append-nil}
use Rattle.std.proofs.lemmas.List.{drop_all, drop-drop}
use Rattle.std.specs.Str.{IsUtf8}
use Rattle.std.specs.Str.Lossy.{utf8_valid_len}
use Rattle.std.proofs.lemmas.Str.{utf8_valid_len-IsUtf8}
use Rattle.script_text.specs.Lexical.{piece_at, tokens_from, with_token, fault_at}
use Rattle.script_text.specs.declared.token.Kind.{Kind}
use Rattle.script_text.specs.declared.token.Token.{Token}
use Rattle.script_text.specs.declared.token.Cause.{Cause}
use Rattle.script_text.specs.declared.token.LexFault.{LexFault}
use Rattle.script_text.specs.declared.token.Piece.{Piece}
use Rattle.script_text.specs.declared.token.Piece.TheVariants as piece
use Rattle.js_lex.specs.Steps.{onto}
use Rattle.js_lex.proofs.Pieces.{here, from_here}

-- bytes that are still of a piece are passed over
passed : (k at : ℕ) (bytes : List ℕ) → tokens_from k at bytes ≡ tokens_from 0 (at + k) (drop k bytes)
unfolding tokens_from
passed zero at bytes = rw (add-zero at) refl
passed (suc k) at [] = refl
passed (suc k) at (b ∷ rest) = let e : at + suc k ≡ at + 1 + k = omega arith in rw e (passed k (at + 1) rest)

-- the tokens of a piece and of what stands behind it
unfoldable pub cut : Piece → ℕ → List ℕ → Result (List Token) LexFault
cut (piece.Blank n) at rest = tokens_from (n - 1) (at + 1) rest
cut (piece.Token k n) at rest = with_token (record { kind = k; start = at; end = at + n }) (tokens_from (n - 1) (at + 1) rest)
cut (piece.Wrong c) at rest = Err (fault_at c at)

pub cons_is : (at b : ℕ) (rest : List ℕ) → tokens_from 0 at (b ∷ rest) ≡ cut (piece_at (b ∷ rest)) at rest
unfolding tokens_from cut
cons_is at b rest = go (piece_at (b ∷ rest))
  where
    go : (p : Piece) → (elim p [ piece.Blank n ↦ tokens_from (n - 1) (at + 1) rest | piece.Token k n ↦ with_token (record { kind = k; start = at; end = at + n }) (tokens_from (n - 1) (at + 1) rest) | piece.Wrong c ↦ Err (fault_at c at) ]) ≡ cut p at rest
    go (piece.Blank n) = refl
    go (piece.Token k n) = refl
    go (piece.Wrong c) = refl

-- at a place of the bytes
at_place : (bytes : List ℕ) (at : ℕ) (p : Piece) → at < length bytes → piece_at (take (length bytes - at) (drop at bytes)) ≡ p → tokens_from 0 at (drop at bytes) ≡ cut p at (drop (at + 1) bytes)
at_place bytes at p h e = let f = rw (from_here bytes at h, here bytes at h) at e in rw (here bytes at h, cons_is, f) refl

behind : (bytes : List ℕ) (at n : ℕ) → 0 < n → tokens_from (n - 1) (at + 1) (drop (at + 1) bytes) ≡ tokens_from 0 (at + n) (drop (at + n) bytes)
behind bytes at zero h = absurd (omega (arith, h))
behind bytes at (suc n) h =
    let left : suc n - 1 ≡ n = omega arith in
    let same : at + 1 + n ≡ at + suc n = omega arith in
    rw (left, passed n (at + 1) (drop (at + 1) bytes), drop-drop n (at + 1) bytes, same) refl

pub scan_start : (bytes : List ℕ) → onto [] (tokens_from 0 0 bytes) ≡ tokens_from 0 0 bytes
scan_start bytes = go (tokens_from 0 0 bytes)
  where
    go : (out : Result (List Token) LexFault) → onto [] out ≡ out
    go (Ok ts) = refl
    go (Err f) = refl

pub scan_blank : (found : List Token) (bytes : List ℕ) (at n : ℕ) → at < length bytes → 0 < n → piece.Blank n ≡ piece_at (take (length bytes - at) (drop at bytes)) → onto found (tokens_from 0 at (drop at bytes)) ≡ onto found (tokens_from 0 (at + n) (drop (at + n) bytes))
unfolding cut
scan_blank found bytes at n h m e = ap (onto found) (at_place bytes at (piece.Blank n) h (sym e) ∙ behind bytes at n m)

onto_more : (found : List Token) (t : Token) (out : Result (List Token) LexFault) → onto found (with_token t out) ≡ onto (found ++ t ∷ []) out
onto_more found t (Ok ts) = rw (append_assoc found (t ∷ []) ts) refl
onto_more found t (Err f) = refl

pub scan_token : (found : List Token) (bytes : List ℕ) (at n : ℕ) (k : Kind) → at < length bytes → 0 < n → piece.Token k n ≡ piece_at (take (length bytes - at) (drop at bytes)) → onto found (tokens_from 0 at (drop at bytes)) ≡ onto (found ++ record { kind = k; start = at; end = at + n } ∷ []) (tokens_from 0 (at + n) (drop (at + n) bytes))
unfolding cut
scan_token found bytes at n k h m e = ap (onto found) (at_place bytes at (piece.Token k n) h (sym e)) ∙ onto_more found _ (tokens_from (n - 1) (at + 1) (drop (at + 1) bytes)) ∙ ap (onto (found ++ record { kind = k; start = at; end = at + n } ∷ [])) (behind bytes at n m)

pub scan_wrong : (found : List Token) (bytes : List ℕ) (at : ℕ) (c : Cause) → at < length bytes → piece.Wrong c ≡ piece_at (take (length bytes - at) (drop at bytes)) → onto found (tokens_from 0 at (drop at bytes)) ≡ Err (fault_at c at)
unfolding cut
scan_wrong found bytes at c h e = ap (onto found) (at_place bytes at (piece.Wrong c) h (sym e))

pub scan_end : (found : List Token) (bytes : List ℕ) (at : ℕ) → length bytes ≤ at → onto found (tokens_from 0 at (drop at bytes)) ≡ Ok found
unfolding tokens_from
scan_end found bytes at h = rw (drop_all at bytes h) (rw append-nil refl)

pub all_valid : (bytes : List ℕ) → IsUtf8 bytes → length bytes ≡ utf8_valid_len bytes
all_valid bytes h = sym (utf8_valid_len-IsUtf8 bytes h)
