-- The tokens of a source stand one behind the other in it, and each is what stands at its place.
use Rattle.std.proofs.Common.{◌≡◌, ℕ, zero, suc, ◌+◌, ◌-◌, ◌<◌, ◌≤◌, Bool, true, false, List, [], ◌∷◌, length, drop, Result, Ok, Err, refl, sym, ap, subst, ◌∙◌, arith}
use Rattle.std.specs.Prelude.{if◌then◌else◌, ◌==◌}
use Rattle.std.specs.Str.Lossy.{utf8_valid_len}
use Rattle.std.proofs.lemmas.List.{drop-drop}
use Rattle.script_text.specs.Lexical.{piece_at, tokens_from, tokens_of, with_token, checked}
use Rattle.script_text.specs.declared.token.Token.{Token}
use Rattle.script_text.specs.declared.token.LexFault.{LexFault}
use Rattle.script_text.specs.declared.token.LexFault.TheVariants as fault
use Rattle.script_text.specs.declared.token.Piece.{Piece}
use Rattle.script_text.specs.declared.token.Piece.TheVariants as piece
use Rattle.js_lex.specs.Places.{AscendWithin, ArePieces}
use Rattle.js_lex.specs.Steps.{IsWithin}
use Rattle.js_lex.proofs.Sizes.{piece_within}
use Rattle.js_lex.proofs.Turns.{cut, cons_is}

ok_same : (ts us : List Token) (out : Result (List Token) LexFault) → out ≡ Ok ts → out ≡ Ok us → ts ≡ us
ok_same ts us out e f = cc

token_on : (t : Token) (out : Result (List Token) LexFault) (low high : ℕ) (ts : List Token) → low ≤ t.start → t.start < t.end → ((us : List Token) → out ≡ Ok us → AscendWithin t.end high us) → with_token t out ≡ Ok ts → AscendWithin low high ts
token_on t (Ok us) low high ts l s more e = subst (AscendWithin low high) (ok_same (t ∷ us) ts (Ok (t ∷ us)) refl e) (l, s, more us refl)
token_on t (Err f) low high ts l s more e = absurd cc

-- what holds behind one byte holds of the piece that it begins
piece_on : (low high at b : ℕ) (rest : List ℕ) (ts : List Token) → low ≤ at → at + length (b ∷ rest) ≡ high → ((k m : ℕ) (us : List Token) → m ≤ at + 1 + k → k ≤ length rest → at + 1 + length rest ≡ high → tokens_from k (at + 1) rest ≡ Ok us → AscendWithin m high us) → (p : Piece) → IsWithin (length (b ∷ rest)) p → cut p at rest ≡ Ok ts → AscendWithin low high ts
unfolding cut
piece_on low high at b rest ts l s more (piece.Blank n) w e = more (n - 1) low ts (omega (arith, l, w.0)) (omega (arith, w.0, w.1)) (omega (arith, s)) e
piece_on low high at b rest ts l s more (piece.Token k n) w e =
    let t : Token = record { kind = k; start = at; end = at + n } in
    token_on t (tokens_from (n - 1) (at + 1) rest) low high ts l (omega (arith, w.0)) (λ us. more (n - 1) (at + n) us (omega (arith, w.0)) (omega (arith, w.0, w.1)) (omega (arith, s))) e
piece_on low high at b rest ts l s more (piece.Wrong c) w e = absurd cc

ascends_from : (within at low high : ℕ) (bytes : List ℕ) (ts : List Token) → low ≤ at + within → within ≤ length bytes → at + length bytes ≡ high → tokens_from within at bytes ≡ Ok ts → AscendWithin low high ts
unfolding tokens_from
ascends_from within at low high [] ts l w s e = subst (AscendWithin low high) (ok_same [] ts (Ok []) refl e) (omega (arith, l, w, s))
ascends_from (suc k) at low high (b ∷ rest) ts l w s e = ascends_from k (at + 1) low high rest ts (omega (arith, l)) (omega (arith, w)) (omega (arith, s)) e
ascends_from zero at low high (b ∷ rest) ts l w s e = piece_on low high at b rest ts (omega (arith, l)) s (λ k m us. ascends_from k (at + 1) m high rest us) (piece_at (b ∷ rest)) (piece_within b rest) (sym (cons_is at b rest) ∙ e)

unchecked : (valid size : ℕ) (out : Result (List Token) LexFault) (ts : List Token) → checked valid size out ≡ Ok ts → out ≡ Ok ts
unchecked valid size (Ok us) ts e = go (valid == size) (Ok us) e
  where
    go : (b : Bool) (out : Result (List Token) LexFault) → (if b then out else Err (fault.Character valid)) ≡ Ok ts → out ≡ Ok ts
    go true out e = e
    go false out e = absurd cc
unchecked valid size (Err f) ts e = absurd cc

pub tokens_ascend : (bytes : List ℕ) (ts : List Token) → tokens_of bytes ≡ Ok ts → AscendWithin 0 (length bytes) ts
unfolding tokens_of
tokens_ascend bytes ts e = ascends_from 0 0 0 (length bytes) bytes ts (omega arith) (omega arith) (omega arith) (unchecked (utf8_valid_len bytes) (length bytes) (tokens_from 0 0 bytes) ts e)

-- ---- what each token is
rest_there : (source : List ℕ) (at b : ℕ) (rest : List ℕ) → b ∷ rest ≡ drop at source → rest ≡ drop (at + 1) source
rest_there source at b rest h = ap (drop 1) h ∙ drop-drop 1 at source

token_there : (source : List ℕ) (t : Token) (out : Result (List Token) LexFault) (ts : List Token) → piece_at (drop t.start source) ≡ piece.Token t.kind (t.end - t.start) → ((us : List Token) → out ≡ Ok us → ArePieces source us) → with_token t out ≡ Ok ts → ArePieces source ts
token_there source t (Ok us) ts s more e = subst (ArePieces source) (ok_same (t ∷ us) ts (Ok (t ∷ us)) refl e) (s, more us refl)
token_there source t (Err f) ts s more e = absurd cc

piece_there : (source : List ℕ) (at b : ℕ) (rest : List ℕ) (ts : List Token) → b ∷ rest ≡ drop at source → ((k : ℕ) (us : List Token) → tokens_from k (at + 1) rest ≡ Ok us → ArePieces source us) → (p : Piece) → piece_at (b ∷ rest) ≡ p → cut p at rest ≡ Ok ts → ArePieces source ts
unfolding cut
piece_there source at b rest ts h more (piece.Blank n) q e = more (n - 1) ts e
piece_there source at b rest ts h more (piece.Token k n) q e =
    let t : Token = record { kind = k; start = at; end = at + n } in
    let size : n ≡ at + n - at = omega arith in
    token_there source t (tokens_from (n - 1) (at + 1) rest) ts (ap piece_at (sym h) ∙ q ∙ ap (piece.Token k) size) (more (n - 1)) e
piece_there source at b rest ts h more (piece.Wrong c) q e = absurd cc

pieces_from : (source : List ℕ) (within at : ℕ) (bytes : List ℕ) (ts : List Token) → bytes ≡ drop at source → tokens_from within at bytes ≡ Ok ts → ArePieces source ts
unfolding tokens_from
pieces_from source within at [] ts h e = subst (ArePieces source) (ok_same [] ts (Ok []) refl e) tt
pieces_from source (suc k) at (b ∷ rest) ts h e = pieces_from source k (at + 1) rest ts (rest_there source at b rest h) e
pieces_from source zero at (b ∷ rest) ts h e = piece_there source at b rest ts h (λ k us. pieces_from source k (at + 1) rest us (rest_there source at b rest h)) (piece_at (b ∷ rest)) refl (sym (cons_is at b rest) ∙ e)

pub tokens_are_pieces : (bytes : List ℕ) (ts : List Token) → tokens_of bytes ≡ Ok ts → ArePieces bytes ts
unfolding tokens_of
tokens_are_pieces bytes ts e = pieces_from bytes 0 0 bytes ts refl (unchecked (utf8_valid_len bytes) (length bytes) (tokens_from 0 0 bytes) ts e)
