-- A number, a text or a primitive that is read is the one that was written, and what was written is read again: laws.
use Rattle.std.proofs.Common.{◌≡◌, ℕ, zero, suc, ◌+◌, ◌^◌, ◌<◌, ◌≤◌, Bool, true, false, cond, ltb, List, [], ◌∷◌, ◌++◌, length, take, drop, Option, Some, None, refl, sym, ap, subst, ◌∙◌, append_assoc, arith, inl, inr}
use Rattle.std.specs.Prelude.{IsTrue, ℤ, pos, negsuc}
use Rattle.std.specs.Int.{Width, w32, w64, byte_len, from_be_bytes, to_be_bytes, cast_signed, cast_unsigned}
use Rattle.std.proofs.lemmas.Bool.{cases_lt, ltb-false, le-ltb, leb-true}
use Rattle.std.proofs.lemmas.Int.{of_z-to_z, to_z-of_z}
use Rattle.std.proofs.Math.Facts.{Fits-of_z}
use mir.Val.{SFits}
use Rattle.std.proofs.lemmas.List.{take_at, drop_at, take-append-drop, length-append, length-take, get_or-drop, get_or-take, get_or_past}
use Rattle.std.proofs.lemmas.Nat.{be_bytes_4, be_bytes_8, from_be_bytes-to_be_bytes_4, from_be_bytes-to_be_bytes_8}
use Rattle.value_model.specs.declared.key.Key.{Key}
use Rattle.value_model.specs.declared.key.Key.TheVariants.{Null, Bool as BoolKey, Int, Text}
use Rattle.value_model.specs.Search.{left_true}
use Rattle.value_bytes_spec.specs.Numbers.{IsBytes}
use Rattle.value_bytes_spec.specs.Spelling.{is_safe, is_text, is_word, text_bytes, key_bytes}
use Rattle.value_bytes_spec.specs.Reading.{◌>>=◌, number_at, text_of, text_at, int_at, text_key_at, key_at}
use Rattle.value_bytes_spec.specs.Fields.{some, Takes, IsWide}

IsBytes-drop : (n : ℕ) (bytes : List ℕ) → IsBytes bytes → IsBytes (drop n bytes)
IsBytes-drop n bytes h i = rw get_or-drop (h (n + i))

IsBytes-take : (n : ℕ) (bytes : List ℕ) → IsBytes bytes → IsBytes (take n bytes)
IsBytes-take n bytes h i =
    elim (cases_lt i n) [
      | inl lt ↦ rw (get_or-take n bytes i 0 lt) (h i)
      | inr le ↦ rw (get_or_past (take n bytes) i 0 (omega (arith, length-take n bytes))) (omega arith)
    ]

pub IsBytes-rest : (b : ℕ) (bytes : List ℕ) → IsBytes (b ∷ bytes) → IsBytes bytes
IsBytes-rest b bytes h i = h (suc i)

-- the value of a step that gave one
pub bind_some : {A B : Type 0} (r : Option A) (f : A → Option B) (y : B) → (r >>= f) ≡ Some y → (x : A) × (r ≡ Some x) × (f x ≡ Some y)
bind_some (Some x) f y e = (x, refl, e)
bind_some None f y e = absurd cc

-- a test that was passed
pub passed : {A : Type 0} (b : Bool) (x y : A) → cond b (Some x) None ≡ Some y → (b ≡ true) × (x ≡ y)
passed true x y e = (refl, cc)
passed false x y e = absurd cc

pub passed_then : {A : Type 0} (b : Bool) (r : Option A) (y : A) → cond b r None ≡ Some y → (b ≡ true) × (r ≡ Some y)
passed_then true r y e = (refl, e)
passed_then false r y e = absurd cc

pub not_refused : {A : Type 0} (b : Bool) (r : Option A) (y : A) → cond b None r ≡ Some y → (b ≡ false) × (r ≡ Some y)
not_refused true r y e = absurd cc
not_refused false r y e = (refl, e)

pub some_is : {A : Type 0} (x y : A) → some x ≡ some y → x ≡ y
some_is x y e = cc

pub Takes-then : (a x b y c : List ℕ) → Takes a x b → Takes b y c → Takes a (x ++ y) c
Takes-then a x b y c p q = record { parts = p.parts ∙ ap (λ (t : List ℕ). x ++ t) q.parts ∙ sym (append_assoc x y c); rest_fits = q.rest_fits }

pub Takes-nothing : (bytes : List ℕ) → IsBytes bytes → Takes bytes [] bytes
Takes-nothing bytes fits = record { parts = refl; rest_fits = fits }

pub Takes-byte : (b : ℕ) (bytes text rest : List ℕ) → Takes bytes text rest → Takes (b ∷ bytes) (b ∷ text) rest
Takes-byte b bytes text rest t = record { parts = ap (λ (w : List ℕ). b ∷ w) t.parts; rest_fits = t.rest_fits }

pub wide32 : IsWide w32 (2 ^ 32)
wide32 = record {
  len = λ n. refl;
  back = λ bytes len fits. be_bytes_4 bytes _ len fits refl;
  again = λ n lt. from_be_bytes-to_be_bytes_4 n lt;
  below = λ bytes fits. omega (arith, fits 0, fits 1, fits 2, fits 3);
}

pub wide64 : IsWide w64 (2 ^ 64)
wide64 = record {
  len = λ n. refl;
  back = λ bytes len fits. be_bytes_8 bytes _ len fits refl;
  again = λ n lt. from_be_bytes-to_be_bytes_8 n lt;
  below = λ bytes fits. omega (arith, fits 0, fits 1, fits 2, fits 3, fits 4, fits 5, fits 6, fits 7);
}

pub number_takes : (w : Width) (limit : ℕ) (wide : IsWide w limit) (bytes : List ℕ) (n : ℕ) (rest : List ℕ) → IsBytes bytes → number_at w bytes ≡ Some (n, rest) → Takes bytes (to_be_bytes w n) rest × (n < limit)
number_takes w limit wide bytes n rest fits e =
    let g = not_refused (ltb (length bytes) (byte_len w)) (Some (from_be_bytes w (take (byte_len w) bytes), drop (byte_len w) bytes)) (n, rest) e in
    let long : byte_len w ≤ length bytes = ltb-false _ _ g.0 in
    let both = some_is (from_be_bytes w (take (byte_len w) bytes), drop (byte_len w) bytes) (n, rest) g.1 in
    let n-is : from_be_bytes w (take (byte_len w) bytes) ≡ n = ap (λ (p : ℕ × List ℕ). p.0) both in
    let rest-is : drop (byte_len w) bytes ≡ rest = ap (λ (p : ℕ × List ℕ). p.1) both in
    let front : to_be_bytes w n ≡ take (byte_len w) bytes = rw (← n-is) (wide.back (take (byte_len w) bytes) (omega (arith, length-take (byte_len w) bytes)) (IsBytes-take (byte_len w) bytes fits)) in
    (record { parts = rw (front, ← rest-is) (sym (take-append-drop (byte_len w) bytes)); rest_fits = rw (← rest-is) (IsBytes-drop (byte_len w) bytes fits) }, rw (← n-is) (wide.below (take (byte_len w) bytes) (IsBytes-take (byte_len w) bytes fits)))

pub number_again : (w : Width) (limit : ℕ) (wide : IsWide w limit) (n : ℕ) (rest : List ℕ) → n < limit → number_at w (to_be_bytes w n ++ rest) ≡ Some (n, rest)
number_again w limit wide n rest lt =
    let len = wide.len n in
    let long : ltb (length (to_be_bytes w n ++ rest)) (byte_len w) ≡ false = le-ltb _ _ (omega (arith, length-append (to_be_bytes w n) rest)) in
    rw (long, take_at (to_be_bytes w n) rest (byte_len w) len, drop_at (to_be_bytes w n) rest (byte_len w) len, wide.again n lt) refl

-- ---- texts

pub text_takes : (bytes s rest : List ℕ) → IsBytes bytes → text_at bytes ≡ Some (s, rest) → Takes bytes (text_bytes s) rest × IsTrue (is_text s)
unfolding text_at
text_takes bytes s rest fits e =
    let b = bind_some (number_at w32 bytes) (λ n. text_of n.0 n.1) (s, rest) e in
    let n = b.0 in
    let t = number_takes w32 (2 ^ 32) wide32 bytes n.0 n.1 fits b.1 in
    let g = not_refused (ltb (length n.1) n.0) (cond (is_text (take n.0 n.1)) (Some (take n.0 n.1, drop n.0 n.1)) None) (s, rest) b.2 in
    let p = passed (is_text (take n.0 n.1)) (take n.0 n.1, drop n.0 n.1) (s, rest) g.1 in
    let long : n.0 ≤ length n.1 = ltb-false _ _ g.0 in
    let len : length (take n.0 n.1) ≡ n.0 = omega (arith, length-take n.0 n.1) in
    let second : Takes n.1 (take n.0 n.1) (drop n.0 n.1) = record { parts = sym (take-append-drop n.0 n.1); rest_fits = IsBytes-drop n.0 n.1 t.0.rest_fits } in
    let both = Takes-then bytes (to_be_bytes w32 n.0) n.1 (take n.0 n.1) (drop n.0 n.1) t.0 second in
    let whole : Takes bytes (text_bytes (take n.0 n.1)) (drop n.0 n.1) = subst (λ (k : ℕ). Takes bytes (to_be_bytes w32 k ++ take n.0 n.1) (drop n.0 n.1)) (sym len) both in
    subst (λ (q : List ℕ × List ℕ). Takes bytes (text_bytes q.0) q.1 × IsTrue (is_text q.0)) p.1 (whole, p.0)

pub text_short : (s : List ℕ) → IsTrue (is_text s) → length s ≤ 2 ^ 20
text_short s h = leb-true (length s) (2 ^ 20) (left_true _ _ h)

pub text_again : (s rest : List ℕ) → IsTrue (is_text s) → text_at (text_bytes s ++ rest) ≡ Some (s, rest)
unfolding text_at
text_again s rest h =
    let long : ltb (length (s ++ rest)) (length s) ≡ false = le-ltb _ _ (omega (arith, length-append s rest)) in
    rw (number_again w32 (2 ^ 32) wide32 (length s) (s ++ rest) (omega (arith, text_short s h)), long, take_at s rest (length s) refl, drop_at s rest (length s) refl, h) refl

-- ---- integers

safe_pos : (n : ℕ) → IsTrue (is_safe (pos n)) → SFits w64 (pos n)
safe_pos n h = let le : n ≤ 9007199254740991 = leb-true n _ h in record { sfits = omega (arith, le) }

safe_negsuc : (n : ℕ) → IsTrue (is_safe (negsuc n)) → SFits w64 (negsuc n)
safe_negsuc n h = let le : n ≤ 9007199254740990 = leb-true n _ (left_true _ _ h) in record { sfits = omega (arith, le) }

safe_fits : (z : ℤ) → IsTrue (is_safe z) → SFits w64 z
safe_fits (pos n) h = safe_pos n h
safe_fits (negsuc n) h = safe_negsuc n h

pub int_takes : (bytes : List ℕ) (k : Key) (rest : List ℕ) → IsBytes bytes → int_at bytes ≡ Some (k, rest) → Takes (3 ∷ bytes) (key_bytes k) rest × IsTrue (is_word k)
unfolding int_at
int_takes bytes k rest fits e =
    let b = bind_some (number_at w64 bytes) (λ n. cond (is_safe (cast_signed w64 n.0)) (Some (Int (cast_signed w64 n.0), n.1)) None) (k, rest) e in
    let n = b.0 in
    let t = number_takes w64 (2 ^ 64) wide64 bytes n.0 n.1 fits b.1 in
    let p = passed (is_safe (cast_signed w64 n.0)) (Int (cast_signed w64 n.0), n.1) (k, rest) b.2 in
    let same : cast_unsigned w64 (cast_signed w64 n.0) ≡ n.0 = of_z-to_z w64 n.0 t.1 in
    let front : Takes bytes (to_be_bytes w64 (cast_unsigned w64 (cast_signed w64 n.0))) n.1 = subst (λ (m : ℕ). Takes bytes (to_be_bytes w64 m) n.1) (sym same) t.0 in
    subst (λ (q : Key × List ℕ). Takes (3 ∷ bytes) (key_bytes q.0) q.1 × IsTrue (is_word q.0)) p.1 (Takes-byte 3 bytes _ n.1 front, p.0)

pub int_again : (z : ℤ) (rest : List ℕ) → IsTrue (is_safe z) → int_at (to_be_bytes w64 (cast_unsigned w64 z) ++ rest) ≡ Some (Int z, rest)
unfolding int_at
int_again z rest h =
    let fits = safe_fits z h in
    let below : cast_unsigned w64 z < 2 ^ 64 = (Fits-of_z {w = w64} {z = z} fits).fits in
    let same : cast_signed w64 (cast_unsigned w64 z) ≡ z = to_z-of_z w64 z fits in
    rw (number_again w64 (2 ^ 64) wide64 (cast_unsigned w64 z) rest below, same, h) refl

-- ---- primitives

text_key_takes : (bytes : List ℕ) (k : Key) (rest : List ℕ) → IsBytes bytes → text_key_at bytes ≡ Some (k, rest) → Takes (4 ∷ bytes) (key_bytes k) rest × IsTrue (is_word k)
unfolding text_key_at
text_key_takes bytes k rest fits e =
    let b = bind_some (text_at bytes) (λ s. Some (Text s.0, s.1)) (k, rest) e in
    let t = text_takes bytes b.0.0 b.0.1 fits b.1 in
    let made : Key × List ℕ = (Text b.0.0, b.0.1) in
    subst (λ (q : Key × List ℕ). Takes (4 ∷ bytes) (key_bytes q.0) q.1 × IsTrue (is_word q.0)) (some_is made (k, rest) b.2) (Takes-byte 4 bytes _ b.0.1 t.0, t.1)

pub key_takes : (bytes : List ℕ) (k : Key) (rest : List ℕ) → IsBytes bytes → key_at bytes ≡ Some (k, rest) → Takes bytes (key_bytes k) rest × IsTrue (is_word k)
unfolding key_at
key_takes [] k rest fits e = absurd cc
key_takes (zero ∷ bytes) k rest fits e =
    subst (λ (q : Key × List ℕ). Takes (0 ∷ bytes) (key_bytes q.0) q.1 × IsTrue (is_word q.0)) (some_is (Null, bytes) (k, rest) e) (record { parts = refl; rest_fits = IsBytes-rest 0 bytes fits }, refl)
key_takes (suc zero ∷ bytes) k rest fits e =
    subst (λ (q : Key × List ℕ). Takes (1 ∷ bytes) (key_bytes q.0) q.1 × IsTrue (is_word q.0)) (some_is (BoolKey false, bytes) (k, rest) e) (record { parts = refl; rest_fits = IsBytes-rest 1 bytes fits }, refl)
key_takes (suc (suc zero) ∷ bytes) k rest fits e =
    subst (λ (q : Key × List ℕ). Takes (2 ∷ bytes) (key_bytes q.0) q.1 × IsTrue (is_word q.0)) (some_is (BoolKey true, bytes) (k, rest) e) (record { parts = refl; rest_fits = IsBytes-rest 2 bytes fits }, refl)
key_takes (suc (suc (suc zero)) ∷ bytes) k rest fits e = int_takes bytes k rest (IsBytes-rest 3 bytes fits) e
key_takes (suc (suc (suc (suc zero))) ∷ bytes) k rest fits e = text_key_takes bytes k rest (IsBytes-rest 4 bytes fits) e
key_takes (suc (suc (suc (suc (suc b)))) ∷ bytes) k rest fits e = absurd cc

pub key_again : (k : Key) (rest : List ℕ) → IsTrue (is_word k) → key_at (key_bytes k ++ rest) ≡ Some (k, rest)
unfolding key_at text_key_at
key_again Null rest h = refl
key_again (BoolKey false) rest h = refl
key_again (BoolKey true) rest h = refl
key_again (Int z) rest h = int_again z rest h
key_again (Text s) rest h = rw (text_again s rest h) refl
