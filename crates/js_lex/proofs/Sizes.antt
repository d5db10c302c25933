-- What stands at a place is at least one byte, and no more than are there.
use Rattle.std.proofs.Common.{◌≡◌, ℕ, ◌+◌, ◌<◌, ◌≤◌, Bool, true, false, List, [], ◌∷◌, ◌++◌, length, drop, Option, Some, None, refl, subst, ap, arith, length-append, length-drop, ◌||◌}
use Rattle.std.specs.Prelude.{nat_eq, nat_lt, if◌then◌else◌, codes}
use Rattle.std.specs.Char.{is_ascii_digit}
use Rattle.std.specs.List.{prefix_len, starts_with, take_while}
use Rattle.std.proofs.lemmas.Bool.{cond_both, or_left}
use Rattle.std.proofs.lemmas.Bool.Decides.{Decides-eqb}
use Rattle.std.proofs.lemmas.List.Folds.{length-prefix_len}
use Rattle.std.proofs.lemmas.List.Sums.{prefix_len-le-length}
use Rattle.std.proofs.lemmas.Option.{same_Some}
use Rattle.std.proofs.lemmas.Slice.Eq.{starts_is}
use Rattle.script_text.specs.Lexical.{is_blank, begins_word, in_word, is_quote, in_line, begins_with, comment_end, comment, integer_of, number, word, text, longest_text, sign_piece, piece_at}
use Rattle.script_text.specs.Signs.{spelling, signs, first_sign, sign_at}
use Rattle.script_text.specs.Texts.{Found, Step, Closed, Refused, Adds, text_step, text_in, before}
use Rattle.script_text.specs.declared.sign.Sign.{Sign}
use Rattle.script_text.specs.declared.sign.Sign.TheVariants.{Same}
use Rattle.script_text.specs.declared.token.Inside.{Inside}
use Rattle.script_text.specs.declared.token.Inside.TheVariants.{Plain}
use Rattle.script_text.specs.declared.token.Piece.{Piece}
use Rattle.script_text.specs.declared.token.Piece.TheVariants as piece
use Rattle.script_text.specs.declared.token.Cause.TheVariants as cause
use Rattle.script_text.specs.declared.token.Kind.TheVariants as kind
use Rattle.js_lex.specs.Steps.{IsWithin}
use Rattle.js_lex.proofs.Pieces.{word_some, line_some}

begins_size : (bytes front : List ℕ) → begins_with bytes front ≡ true → length front ≤ length bytes
begins_size bytes front h =
    let parts = (starts_is Decides-eqb bytes front _ refl).0 h in
    omega (arith, ap length parts, length-append front (drop (length front) bytes))

comment_size : (at : ℕ) (bytes : List ℕ) (end : ℕ) → comment_end at bytes ≡ Some end → (at < end) × (end ≤ at + length bytes)
unfolding comment_end
comment_size at [] end e = absurd cc
comment_size at (b ∷ rest) end e = go (begins_with (b ∷ rest) (codes "*/")) (begins_size (b ∷ rest) (codes "*/")) (comment_size (at + 1) rest end) e
  where
    go : (t : Bool) → (t ≡ true → 2 ≤ length (b ∷ rest)) → (comment_end (at + 1) rest ≡ Some end → (at + 1 < end) × (end ≤ at + 1 + length rest)) → (if t then Some (at + 2) else comment_end (at + 1) rest) ≡ Some end → (at < end) × (end ≤ at + length (b ∷ rest))
    go true two more e = let same = same_Some (at + 2) end e in (omega (arith, same), omega (arith, same, two refl))
    go false two more e = let h = more e in (omega (arith, h.0), omega (arith, h.1))

comment_within : (bytes : List ℕ) → 2 ≤ length bytes → IsWithin (length bytes) (comment (comment_end 2 (drop 2 bytes)))
comment_within bytes two = go (comment_end 2 (drop 2 bytes)) (comment_size 2 (drop 2 bytes))
  where
    go : (o : Option ℕ) → ((end : ℕ) → o ≡ Some end → (2 < end) × (end ≤ 2 + length (drop 2 bytes))) → IsWithin (length bytes) (comment o)
    go None h = tt
    go (Some end) h = let size = h end refl in (omega (arith, size.0), omega (arith, size.1, two, length-drop 2 bytes))

run_size : (bytes : List ℕ) → 0 < prefix_len in_word bytes → (0 < length (take_while in_word bytes)) × (length (take_while in_word bytes) ≤ length bytes)
run_size bytes h = let size = length-prefix_len in_word bytes in (omega (arith, size, h), omega (arith, size, prefix_len-le-length in_word bytes))

number_within : (n : ℕ) (run : List ℕ) → (0 < length run) × (length run ≤ n) → IsWithin n (number run)
number_within n run h = go (integer_of run)
  where
    go : (o : Option ℕ) → IsWithin n (elim o [ None ↦ piece.Wrong cause.Number | Some v ↦ piece.Token (kind.Integer v) (length run) ])
    go None = tt
    go (Some v) = h

sizes_same : (g f : Found) → Some g ≡ Some f → g.size ≡ f.size
sizes_same g f e = ap (λ (h : Found). h.size) (same_Some g f e)

before_size : (bytes : List ℕ) (o : Option Found) (f : Found) (n : ℕ) → ((g : Found) → o ≡ Some g → g.size ≤ n) → before bytes o ≡ Some f → f.size ≤ n + 1
before_size bytes None f n more e = absurd cc
before_size bytes (Some g) f n more e = omega (arith, sizes_same _ f e, more g refl)

text_size : (quote : ℕ) (state : Inside) (bytes : List ℕ) (f : Found) → text_in quote state bytes ≡ Some f → f.size ≤ length bytes
unfolding text_in
text_size quote state [] f e = absurd cc
text_size quote state (b ∷ rest) f e = go (text_step quote state b) (λ next. text_size quote next rest) e
  where
    go : (s : Step) → ((next : Inside) (g : Found) → text_in quote next rest ≡ Some g → g.size ≤ length rest) → (elim s [ Closed ↦ Some (record { value = []; size = 1 }) | Refused ↦ None | Adds bytes next ↦ before bytes (text_in quote next rest) ]) ≡ Some f → f.size ≤ length (b ∷ rest)
    go Closed more e = omega (arith, sizes_same _ f e)
    go Refused more e = absurd cc
    go (Adds bytes next) more e = omega (arith, before_size bytes (text_in quote next rest) f (length rest) (more next) e)

text_within : (b : ℕ) (rest : List ℕ) → IsWithin (length (b ∷ rest)) (text (text_in b Plain rest))
text_within b rest = go (text_in b Plain rest) (text_size b Plain rest)
  where
    go : (o : Option Found) → ((f : Found) → o ≡ Some f → f.size ≤ length rest) → IsWithin (length (b ∷ rest)) (text o)
    go None h = tt
    go (Some f) h = cond_both (nat_lt longest_text (length f.value)) (piece.Wrong cause.Text) (piece.Token kind.Text (f.size + 1)) (IsWithin (length (b ∷ rest))) (λ l. tt) (λ l. (omega arith, omega (arith, h f refl)))

first_size : (ss : List Sign) (bytes : List ℕ) (s : Sign) → first_sign ss bytes ≡ Some s → length (spelling s) ≤ length bytes
first_size [] bytes s e = absurd cc
first_size (t ∷ ts) bytes s e = go (starts_with nat_eq bytes (spelling t)) (begins_size bytes (spelling t)) (first_size ts bytes s) e
  where
    go : (b : Bool) → (b ≡ true → length (spelling t) ≤ length bytes) → (first_sign ts bytes ≡ Some s → length (spelling s) ≤ length bytes) → (if b then Some t else first_sign ts bytes) ≡ Some s → length (spelling s) ≤ length bytes
    go true here more e = subst (λ (u : Sign). length (spelling u) ≤ length bytes) (same_Some t s e) (here refl)
    go false here more e = more e

sign_some : (s : Sign) → 0 < length (spelling s)
sign_some Same = omega arith
sign_some s = omega arith

sign_within : (bytes : List ℕ) → IsWithin (length bytes) (sign_piece bytes (sign_at bytes))
unfolding sign_at
sign_within bytes = go (first_sign signs bytes) (first_size signs bytes)
  where
    go : (o : Option Sign) → ((s : Sign) → o ≡ Some s → length (spelling s) ≤ length bytes) → IsWithin (length bytes) (sign_piece bytes o)
    go None h = tt
    go (Some s) h = (sign_some s, h s refl)

chosen : (n : ℕ) (t : Bool) (p q : Piece) → (t ≡ true → IsWithin n p) → IsWithin n q → IsWithin n (if t then p else q)
chosen n true p q here more = here refl
chosen n false p q here more = more

-- a word or a number is made of word characters
with_digits : (digit upper lower other : Bool) → ((upper || lower) || other) ≡ true → (((digit || upper) || lower) || other) ≡ true
with_digits true upper lower other h = refl
with_digits false upper lower other h = h

word_begins : (b : ℕ) → begins_word b ≡ true → in_word b ≡ true
word_begins b h = with_digits (is_ascii_digit b) _ _ _ h

digit_begins : (b : ℕ) → is_ascii_digit b ≡ true → in_word b ≡ true
digit_begins b h = or_left _ _ (or_left _ _ (or_left _ _ h))

run_here : (b : ℕ) (rest : List ℕ) → in_word b ≡ true → (0 < length (take_while in_word (b ∷ rest))) × (length (take_while in_word (b ∷ rest)) ≤ length (b ∷ rest))
run_here b rest h = run_size (b ∷ rest) (word_some (b ∷ rest) (omega arith) h)

pub piece_within : (b : ℕ) (rest : List ℕ) → IsWithin (length (b ∷ rest)) (piece_at (b ∷ rest))
unfolding piece_at
piece_within b rest =
    let n = length (b ∷ rest) in
    chosen n (is_blank b) (piece.Blank 1) _ (λ h. (omega arith, omega arith))
    (chosen n (begins_with (b ∷ rest) (codes "//")) (piece.Blank (prefix_len in_line (b ∷ rest))) _ (λ h. (line_some (b ∷ rest) h, prefix_len-le-length in_line (b ∷ rest)))
    (chosen n (begins_with (b ∷ rest) (codes "/*")) (comment (comment_end 2 (drop 2 (b ∷ rest)))) _ (λ h. comment_within (b ∷ rest) (begins_size (b ∷ rest) (codes "/*") h))
    (chosen n (begins_word b) (word (take_while in_word (b ∷ rest))) _ (λ h. run_here b rest (word_begins b h))
    (chosen n (is_ascii_digit b) (number (take_while in_word (b ∷ rest))) _ (λ h. number_within n (take_while in_word (b ∷ rest)) (run_here b rest (digit_begins b h)))
    (chosen n (is_quote b) (text (text_in b Plain rest)) _ (λ h. text_within b rest)
    (sign_within (b ∷ rest)))))))
