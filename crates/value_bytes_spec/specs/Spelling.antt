-- The one spelling of each value, patch list and pair in bytes. Numbers are big-endian; a count or a length has 4 bytes.
use Rattle.std.specs.Prelude.{◌≡◌, ℕ, ◌^◌, ◌<◌, ℤ, pos, negsuc, int_le, nat_le, ◌&&◌, Bool, true, false, IsTrue, List, [], ◌∷◌, ◌++◌, length, Option, Some, None, IfSome}
use Rattle.std.specs.Int.{w32, w64, to_be_bytes, cast_unsigned}
use Rattle.std.specs.List.{flat_map, AllByRecursion}
use Rattle.std.specs.Str.{is_utf8}
use Rattle.value_model.specs.declared.key.Key.{Key}
use Rattle.value_model.specs.declared.key.Key.TheVariants.{Null, Bool as BoolKey, Int, Text}
use Rattle.value_model.specs.declared.kind.Kind.{Kind}
use Rattle.value_model.specs.declared.kind.Kind.TheVariants as kind
use Rattle.value_model.specs.declared.op.Op.{Op}
use Rattle.value_model.specs.declared.op.Op.TheVariants.{Add, Replace, Remove}
use Rattle.value_model.specs.Limits.{value_limit}
use Rattle.value_model.specs.Order.{letters}
use Rattle.value_model.specs.Plain.{Plain, Entries, prim, node, none, entry, list_of}
use Rattle.value_model.specs.Well.{well}
use Rattle.values.specs.declared.patch.Patch.{Patch}
use Rattle.values.specs.declared.patch.Pair.{Pair}

-- ---- values

-- a length and that many bytes
abbrev pub text_bytes : List ℕ → List ℕ
text_bytes s = to_be_bytes w32 (length s) ++ s

-- null, false, true; an integer in two's complement; a text
abbrev pub key_bytes : Key → List ℕ
key_bytes Null = 0 ∷ []
key_bytes (BoolKey false) = 1 ∷ []
key_bytes (BoolKey true) = 2 ∷ []
key_bytes (Int n) = 3 ∷ to_be_bytes w64 (cast_unsigned w64 n)
key_bytes (Text s) = 4 ∷ text_bytes s

-- the byte in front of a container
abbrev pub kind_byte : Kind → ℕ
kind_byte kind.Obj = 5
kind_byte kind.List = 6
kind_byte kind.Map = 7
kind_byte kind.Set = 8

-- what stands before an entry's value: an object's key as a text, a Map's as a primitive
abbrev pub place_bytes : Kind → Key → List ℕ
place_bytes kind.Obj k = text_bytes (letters k)
place_bytes kind.List k = []
place_bytes kind.Map k = key_bytes k
place_bytes kind.Set k = []

-- a container is its kind, the count of its entries, and the entries
abbrev mutual
  pub value_bytes : Plain → List ℕ
  value_bytes (prim k) = key_bytes k
  value_bytes (node kind es) = kind_byte kind ∷ (to_be_bytes w32 (length (list_of es)) ++ entries_bytes kind es)

  pub entries_bytes : Kind → Entries → List ℕ
  entries_bytes kind none = []
  entries_bytes kind (entry k v es) = place_bytes kind k ++ (value_bytes v ++ entries_bytes kind es)

-- magnitude at most 2^53 - 1 (ECMA-262, Number.isSafeInteger)
abbrev pub is_safe : ℤ → Bool
is_safe n = int_le (negsuc 9007199254740990) n && int_le n (pos 9007199254740991)

-- UTF-8 (RFC 3629) of at most 2^20 bytes
abbrev pub is_text : List ℕ → Bool
is_text s = nat_le (length s) (2 ^ 20) && is_utf8 s

-- a primitive within its limit
abbrev pub is_word : Key → Bool
is_word (Int n) = is_safe n
is_word (Text s) = is_text s
is_word _ = true

-- each primitive of a value, its keys too, is within its limit
abbrev mutual
  pub all_words : Plain → Bool
  all_words (prim k) = is_word k
  all_words (node kind es) = all_words_in es

  pub all_words_in : Entries → Bool
  all_words_in none = true
  all_words_in (entry k v es) = is_word k && all_words v && all_words_in es

-- what has a spelling: keys ascend strictly, primitives are within their limits, and so is the value
pub record IsValue (v : Plain) : Type 0 where
  pub in_order : IsTrue (well v)
  pub words : IsTrue (all_words v)
  pub accepted : value_limit v ≡ None

-- these bytes, no more and no fewer, are the spelling of v
pub record Spells (v : Plain) (bytes : List ℕ) : Type 0 where
  pub is : bytes ≡ value_bytes v
  pub value : IsValue v

-- ---- patches

-- the byte of an operation of Immer 10
abbrev pub op_byte : Op → ℕ
op_byte Add = 1
op_byte Replace = 2
op_byte Remove = 3

-- a mark says whether there is a value
abbrev pub optional_bytes : Option Plain → List ℕ
optional_bytes None = 0 ∷ []
optional_bytes (Some v) = 1 ∷ value_bytes v

-- the count of the steps, and each as a primitive
abbrev pub path_bytes : List Key → List ℕ
path_bytes path = to_be_bytes w32 (length path) ++ flat_map key_bytes path

-- the operation, the path, and the value where there is one
abbrev pub patch_bytes : Patch → List ℕ
patch_bytes p = op_byte p.op ∷ (path_bytes p.path ++ optional_bytes p.value)

-- the count of the patches, and the patches
abbrev pub patches_bytes : List Patch → List ℕ
patches_bytes ps = to_be_bytes w32 (length ps) ++ flat_map patch_bytes ps

-- what has a spelling, as a path, a patch and a patch list
pub record IsPath (path : List Key) : Type 0 where
  pub count : length path < 2 ^ 32
  pub words : AllByRecursion (λ k. IsTrue (is_word k)) path

pub record IsPatch (p : Patch) : Type 0 where
  pub path : IsPath p.path
  pub value : IfSome p.value IsValue

pub record IsPatches (ps : List Patch) : Type 0 where
  pub count : length ps < 2 ^ 32
  pub each : AllByRecursion IsPatch ps

-- these bytes, no more and no fewer, are the spelling of ps
pub record SpellsPatches (ps : List Patch) (bytes : List ℕ) : Type 0 where
  pub is : bytes ≡ patches_bytes ps
  pub patches : IsPatches ps

-- what may be written: values that are accepted, and counts that four bytes hold
pub record CanSpellPatch (p : Patch) : Type 0 where
  pub path : length p.path < 2 ^ 32
  pub value : IfSome p.value (λ v. value_limit v ≡ None)

pub record CanSpell (ps : List Patch) : Type 0 where
  pub count : length ps < 2 ^ 32
  pub each : AllByRecursion CanSpellPatch ps

-- ---- pairs: the way there, then the way back

abbrev pub pair_bytes : Pair → List ℕ
pair_bytes p = patches_bytes p.forward ++ patches_bytes p.inverse

-- what has a spelling, as a pair
pub record IsPair (p : Pair) : Type 0 where
  pub forward : IsPatches p.forward
  pub inverse : IsPatches p.inverse
