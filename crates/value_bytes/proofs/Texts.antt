-- Which bytes are a text.
use Rattle.std.proofs.Common.{◌≡◌, ℕ, ◌≤◌, ◌^◌, Bool, true, false, List, length, leb, refl, subst}
use Rattle.std.specs.Prelude.{◌&&◌, IsUtf8}
use Rattle.std.specs.Str.{is_utf8}
use Rattle.std.proofs.lemmas.Bool.{le-leb, and_from, and_right}
use Rattle.std.proofs.lemmas.Str.{IsUtf8-from_is_utf8, is_utf8-from_IsUtf8}
use Rattle.value_bytes_spec.specs.Spelling.{is_text}

not_utf8 : (bytes : List ℕ) (b : Bool) → is_utf8 bytes ≡ b → ¬ IsUtf8 bytes → b ≡ false
not_utf8 bytes true h bad = absurd (bad (IsUtf8-from_is_utf8 bytes h))
not_utf8 bytes false h bad = refl

pub no_text : (bytes : List ℕ) → ¬ IsUtf8 bytes → is_text bytes ≡ false
no_text bytes bad = and_right (leb (length bytes) (2 ^ 20)) _ (not_utf8 bytes (is_utf8 bytes) refl bad)

pub a_text : (bytes : List ℕ) → IsUtf8 bytes → length bytes ≤ 2 ^ 20 → is_text bytes ≡ true
a_text bytes utf8 short = and_from _ _ (le-leb _ _ short) (is_utf8-from_IsUtf8 bytes utf8)

-- a text in code, as it is shown
pub shown_text : (shown text : List ℕ) → shown ≡ text → IsUtf8 shown → length text ≤ 2 ^ 20 → is_text text ≡ true
shown_text shown text same utf8 short = a_text text (subst (λ (s : List ℕ). IsUtf8 s) same utf8) short
