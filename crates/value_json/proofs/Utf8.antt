-- Bytes that are text, or not.
use Rattle.std.proofs.Common.{◌≡◌, ℕ, List, refl, Bool, true, false, None, Some}
use Rattle.std.proofs.lemmas.Str.{IsUtf8-from_is_utf8, is_utf8-from_IsUtf8}
use Rattle.std.specs.Str.{IsUtf8, is_utf8}
use Rattle.serde_json.specs.Data.{Data}
use Rattle.serde_json.specs.Read.{read}
use Rattle.value_json_spec.specs.Reading.{json_of}

pub json_some : (bs : List ℕ) (d : Data) → IsUtf8 bs → read bs ≡ Some d → json_of bs ≡ Some d
json_some bs d u r = rw (is_utf8-from_IsUtf8 bs u) r

none_by : (bs : List ℕ) (b : Bool) → is_utf8 bs ≡ b → (IsUtf8 bs → read bs ≡ None) → json_of bs ≡ None
none_by bs true e h = rw e (h (IsUtf8-from_is_utf8 bs e))
none_by bs false e h = rw e refl

pub json_none : (bs : List ℕ) → (IsUtf8 bs → read bs ≡ None) → json_of bs ≡ None
json_none bs h = none_by bs (is_utf8 bs) refl h
