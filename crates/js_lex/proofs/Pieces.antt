-- One turn of each loop over bytes.
use Rattle.std.proofs.Common.{◌≡◌, ℕ, ◌+◌, ◌-◌, ◌*◌, ◌<◌, ◌≤◌, Bool, true, false, cond, List, [], ◌∷◌, length, drop, Option, Some, None, refl, subst, ◌∙◌, arith, drop-cons, add-one, slice_index_or, take, length-drop, zero-add}
use Rattle.std.specs.Prelude.{nat_lt, if◌then◌else◌, codes, ◌==◌, not}
use Rattle.std.proofs.lemmas.Bool.{eqb-true}
use Rattle.std.specs.Char.{is_ascii_digit}
use Rattle.std.proofs.lemmas.List.{drop_all, take_all}
use Rattle.std.proofs.lemmas.Bool.Decides.{nat_tests}
use Rattle.script_text.specs.Lexical.{comment_end, begins_with, decimal, up_to_largest, largest, text, longest_text, piece_at, piece_by, in_word, in_line}
use Rattle.script_text.specs.Texts.{Found}
use Rattle.script_text.specs.declared.token.Piece.TheVariants as piece
use Rattle.script_text.specs.declared.token.Cause.TheVariants as cause
use Rattle.script_text.specs.declared.token.Kind.TheVariants as kind
use Rattle.js_lex.specs.Steps.{span}
use Rattle.std.specs.List.{prefix_len}

pub here : (bytes : List ℕ) (at : ℕ) → at < length bytes → drop at bytes ≡ slice_index_or bytes at 0 ∷ drop (at + 1) bytes
here bytes at h = rw (add-one, drop-cons bytes at 0) refl

comment_cons : (at b : ℕ) (rest : List ℕ) → comment_end at (b ∷ rest) ≡ (if begins_with (b ∷ rest) (codes "*/") then Some (at + 2) else comment_end (at + 1) rest)
unfolding comment_end
comment_cons at b rest = refl

-- the slice from a place on, as the code writes it
pub from_here : (bytes : List ℕ) (at : ℕ) → at < length bytes → take (length bytes - at) (drop at bytes) ≡ drop at bytes
from_here bytes at h = take_all (length bytes - at) (drop at bytes) (omega (arith, length-drop at bytes))

pub comment_at : (bytes : List ℕ) (at : ℕ) → at < length bytes → begins_with (take (length bytes - at) (drop at bytes)) (codes "*/") ≡ true → comment_end at (drop at bytes) ≡ Some (at + 2)
comment_at bytes at h e = let f = rw (from_here bytes at h, here bytes at h) at e in rw (here bytes at h) (comment_cons at (slice_index_or bytes at 0) (drop (at + 1) bytes) ∙ rw f refl)

pub comment_on : (bytes : List ℕ) (at : ℕ) → at < length bytes → begins_with (take (length bytes - at) (drop at bytes)) (codes "*/") ≡ false → comment_end at (drop at bytes) ≡ comment_end (at + 1) (drop (at + 1) bytes)
comment_on bytes at h e = let f = rw (from_here bytes at h, here bytes at h) at e in rw (here bytes at h) (comment_cons at (slice_index_or bytes at 0) (drop (at + 1) bytes) ∙ rw f refl)

pub comment_none : (bytes : List ℕ) (at : ℕ) → length bytes ≤ at → comment_end at (drop at bytes) ≡ None
unfolding comment_end
comment_none bytes at h = rw (drop_all at bytes h) refl

decimal_cons : (v b : ℕ) (rest : List ℕ) → decimal v (b ∷ rest) ≡ (if is_ascii_digit b then decimal (v * 10 + (b - 48)) rest else None)
unfolding decimal
decimal_cons v b rest = refl

pub decimal_at : (run : List ℕ) (at v : ℕ) → at < length run → is_ascii_digit (slice_index_or run at 0) ≡ true → up_to_largest (decimal v (drop at run)) ≡ up_to_largest (decimal (v * 10 + (slice_index_or run at 0 - 48)) (drop (at + 1) run))
decimal_at run at v h e = rw (here run at h, decimal_cons v (slice_index_or run at 0) (drop (at + 1) run), e) refl

pub decimal_stops : (run : List ℕ) (at v : ℕ) → at < length run → is_ascii_digit (slice_index_or run at 0) ≡ false → up_to_largest (decimal v (drop at run)) ≡ None
decimal_stops run at v h e = rw (here run at h, decimal_cons v (slice_index_or run at 0) (drop (at + 1) run), e) refl

pub decimal_end : (run : List ℕ) (at v : ℕ) → length run ≤ at → v ≤ largest → up_to_largest (decimal v (drop at run)) ≡ Some v
unfolding decimal
decimal_end run at v h l = let f : nat_lt largest v ≡ false = grind (arith, nat_tests) in rw (drop_all at run h, f) refl

long : (v : ℕ) (run : List ℕ) → largest < v → up_to_largest (decimal v run) ≡ None
unfolding decimal
long v [] h = let f : nat_lt largest v ≡ true = grind (arith, nat_tests) in rw f refl
long v (b ∷ rest) h = go (is_ascii_digit b) (long (v * 10 + (b - 48)) rest (omega arith))
  where
    go : (t : Bool) → up_to_largest (decimal (v * 10 + (b - 48)) rest) ≡ None → up_to_largest (if t then decimal (v * 10 + (b - 48)) rest else None) ≡ None
    go true e = e
    go false e = refl

pub decimal_long : (run : List ℕ) (at v : ℕ) → at < length run → is_ascii_digit (slice_index_or run at 0) ≡ true → largest < v * 10 + (slice_index_or run at 0 - 48) → up_to_largest (decimal v (drop at run)) ≡ None
decimal_long run at v h e l = decimal_at run at v h e ∙ long (v * 10 + (slice_index_or run at 0 - 48)) (drop (at + 1) run) l

-- a text of this size, as a piece
pub text_none : (f : Option Found) → span 0 0 f ≡ None → text f ≡ piece.Wrong cause.Text
text_none None e = refl
text_none (Some f) e = go (nat_lt longest_text (length f.value)) (subst (λ (n : ℕ). (if nat_lt longest_text n then None else Some (0 + f.size)) ≡ None) (zero-add (length f.value)) e)
  where
    go : (b : Bool) → (if b then None else Some (0 + f.size)) ≡ None → (if b then piece.Wrong cause.Text else piece.Token kind.Text (f.size + 1)) ≡ piece.Wrong cause.Text
    go true e = refl
    go false e = absurd cc

pub text_some : (f : Option Found) (n : ℕ) → span 0 0 f ≡ Some n → text f ≡ piece.Token kind.Text (n + 1)
text_some None n e = absurd cc
text_some (Some f) n e = go (nat_lt longest_text (length f.value)) (subst (λ (m : ℕ). (if nat_lt longest_text m then None else Some (0 + f.size)) ≡ Some n) (zero-add (length f.value)) e)
  where
    same : (a b : ℕ) → Some a ≡ Some b → a ≡ b
    same a b e = cc

    go : (b : Bool) → (if b then None else Some (0 + f.size)) ≡ Some n → (if b then piece.Wrong cause.Text else piece.Token kind.Text (f.size + 1)) ≡ piece.Token kind.Text (n + 1)
    go true e = absurd cc
    go false e = let size : f.size ≡ n = omega (arith, same (0 + f.size) n e) in rw size refl

pub piece_is : (bytes : List ℕ) → 0 < length bytes → piece_at bytes ≡ piece_by (slice_index_or bytes 0 0) bytes
unfolding piece_at
piece_is [] h = absurd (omega (arith, h))
piece_is (b ∷ rest) h = refl

pub word_some : (bytes : List ℕ) → 0 < length bytes → in_word (slice_index_or bytes 0 0) ≡ true → 0 < prefix_len in_word bytes
word_some [] h e = absurd (omega (arith, h))
word_some (b ∷ rest) h e = rw e omega arith

pub line_some : (bytes : List ℕ) → begins_with bytes (codes "//") ≡ true → 0 < prefix_len in_line bytes
line_some [] e = absurd cc
line_some (b ∷ rest) e = go (b == 10) refl
  where
    go : (t : Bool) → (b == 10) ≡ t → 0 < cond (not t) (1 + prefix_len in_line rest) 0
    go false f = omega arith
    go true f = let same : b ≡ 10 = eqb-true b 10 f in let g = subst (λ (n : ℕ). begins_with (n ∷ rest) (codes "//") ≡ true) same e in absurd cc

pub behind_first : (bytes : List ℕ) → take (length bytes - 1) (drop 1 bytes) ≡ drop 1 bytes
behind_first [] = refl
behind_first (b ∷ rest) = take_all (length (b ∷ rest) - 1) rest (omega arith)
