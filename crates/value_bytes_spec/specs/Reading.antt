-- Reading a spelling from the front of bytes: what it spells and the bytes behind it, or nothing.
use Rattle.std.specs.Prelude.{ℕ, zero, suc, ◌==◌, nat_lt, Bool, true, false, List, [], ◌∷◌, length, take, drop, Option, Some, None, if◌then◌else◌}
use Rattle.std.specs.Int.{Width, w32, w64, byte_len, from_be_bytes, cast_signed}
use Rattle.std.specs.Option.{is_none}
use Rattle.std.specs.Ordering.{is_lt}
use Rattle.value_model.specs.declared.key.Key.{Key}
use Rattle.value_model.specs.declared.key.Key.TheVariants.{Null, Bool as BoolKey, Int, Text}
use Rattle.value_model.specs.declared.kind.Kind.{Kind}
use Rattle.value_model.specs.declared.kind.Kind.TheVariants as kind
use Rattle.value_model.specs.declared.op.Op.{Op}
use Rattle.value_model.specs.declared.op.Op.TheVariants.{Add, Replace, Remove}
use Rattle.value_model.specs.Limits.{value_limit}
use Rattle.value_model.specs.Order.{key_cmp}
use Rattle.value_model.specs.Plain.{Plain, prim, node, entries}
use Rattle.values.specs.declared.patch.Patch.{Patch}
use Rattle.values.specs.declared.patch.Pair.{Pair}
use Rattle.value_bytes_spec.specs.Spelling.{is_safe, is_text}

-- what the next step reads, where this one read something
infixl 10 ◌>>=◌
abbrev pub ◌>>=◌ : {A B : Type 0} → Option A → (A → Option B) → Option B
None >>= f = None
(Some x) >>= f = f x

-- a number of a width at the front, and the bytes behind it
abbrev pub number_at : Width → List ℕ → Option (ℕ × List ℕ)
number_at w bytes = if nat_lt (length bytes) (byte_len w) then None else Some (from_be_bytes w (take (byte_len w) bytes), drop (byte_len w) bytes)

-- the first n bytes, where there are as many and they are a text
abbrev pub text_of : ℕ → List ℕ → Option (List ℕ × List ℕ)
text_of n bytes = if nat_lt (length bytes) n then None else (if is_text (take n bytes) then Some (take n bytes, drop n bytes) else None)

-- a length, and a text of that many bytes
unfoldable pub text_at : List ℕ → Option (List ℕ × List ℕ)
text_at bytes = do
  n ← number_at w32 bytes
  text_of n.0 n.1

-- an integer in two's complement
unfoldable pub int_at : List ℕ → Option (Key × List ℕ)
int_at bytes = do
  n ← number_at w64 bytes
  if is_safe (cast_signed w64 n.0) then Some (Int (cast_signed w64 n.0), n.1) else None

-- a text as a primitive
unfoldable pub text_key_at : List ℕ → Option (Key × List ℕ)
text_key_at bytes = do
  s ← text_at bytes
  Some (Text s.0, s.1)

-- a primitive: its kind, and what it holds
unfoldable pub key_at : List ℕ → Option (Key × List ℕ)
key_at [] = None
key_at (zero ∷ rest) = Some (Null, rest)
key_at (suc zero ∷ rest) = Some (BoolKey false, rest)
key_at (suc (suc zero) ∷ rest) = Some (BoolKey true, rest)
key_at (suc (suc (suc zero)) ∷ rest) = int_at rest
key_at (suc (suc (suc (suc zero))) ∷ rest) = text_key_at rest
key_at (suc (suc (suc (suc (suc b)))) ∷ rest) = None

-- the kind of container that a byte names
unfoldable pub kind_at : ℕ → Option Kind
kind_at b = if b == 5 then Some kind.Obj else (if b == 6 then Some kind.List else (if b == 7 then Some kind.Map else (if b == 8 then Some kind.Set else None)))

-- an entry of a container, its value read by inner
unfoldable pub entry_at : Kind → (List ℕ → Option (Plain × List ℕ)) → List ℕ → Option ((Key × Plain) × List ℕ)
entry_at kind.Obj inner bytes = do
  k ← text_at bytes
  v ← inner k.1
  Some ((Text k.0, v.0), v.1)
entry_at kind.List inner bytes = do
  v ← inner bytes
  Some ((Null, v.0), v.1)
entry_at kind.Map inner bytes = do
  k ← key_at bytes
  v ← inner k.1
  Some ((k.0, v.0), v.1)
entry_at kind.Set inner bytes = do
  k ← key_at bytes
  Some ((k.0, prim k.0), k.1)

-- whether a key may stand behind the one before it
abbrev pub follows : Kind → Option Key → Key → Bool
follows kind.List before k = true
follows _ None k = true
follows _ (Some before) k = is_lt (key_cmp before k)

-- n entries, the first behind a key or none
unfoldable pub entries_at : Kind → (List ℕ → Option (Plain × List ℕ)) → ℕ → Option Key → List ℕ → Option (List (Key × Plain) × List ℕ)
entries_at kind inner zero before bytes = Some ([], bytes)
entries_at kind inner (suc n) before bytes = do
  e ← entry_at kind inner bytes
  if follows kind before (e.0).0 then (entries_at kind inner n (Some (e.0).0) e.1 >>= λ es. Some (e.0 ∷ es.0, es.1)) else None

-- a container behind the byte that names its kind: the count of its entries, and the entries
unfoldable pub node_at : Kind → (List ℕ → Option (Plain × List ℕ)) → List ℕ → Option (Plain × List ℕ)
node_at kind inner bytes = do
  n ← number_at w32 bytes
  es ← entries_at kind inner n.0 None n.1
  Some (node kind (entries es.0), es.1)

-- a value that is a primitive
unfoldable pub prim_at : List ℕ → Option (Plain × List ℕ)
prim_at bytes = do
  k ← key_at bytes
  Some (prim k.0, k.1)

-- a container where the first byte names a kind, else a primitive
unfoldable pub prim_or_node : Option Kind → (List ℕ → Option (Plain × List ℕ)) → List ℕ → List ℕ → Option (Plain × List ℕ)
prim_or_node None inner bytes rest = prim_at bytes
prim_or_node (Some kind) inner bytes rest = node_at kind inner rest

-- a value, its children read by inner
unfoldable pub value_within : (List ℕ → Option (Plain × List ℕ)) → List ℕ → Option (Plain × List ℕ)
value_within inner [] = None
value_within inner (b ∷ rest) = prim_or_node (kind_at b) inner (b ∷ rest) rest

-- a value of at most so many levels of containers
unfoldable pub nested_at : ℕ → List ℕ → Option (Plain × List ℕ)
nested_at zero bytes = prim_at bytes
nested_at (suc n) bytes = value_within (nested_at n) bytes

-- a value that is accepted
unfoldable pub value_at : List ℕ → Option (Plain × List ℕ)
value_at bytes = do
  v ← nested_at 32 bytes
  if is_none (value_limit v.0) then Some v else None

-- ---- patches

-- n primitives
unfoldable pub keys_at : ℕ → List ℕ → Option (List Key × List ℕ)
keys_at zero bytes = Some ([], bytes)
keys_at (suc n) bytes = do
  k ← key_at bytes
  ks ← keys_at n k.1
  Some (k.0 ∷ ks.0, ks.1)

-- a path: the count of its steps, and the steps
unfoldable pub path_at : List ℕ → Option (List Key × List ℕ)
path_at bytes = do
  n ← number_at w32 bytes
  keys_at n.0 n.1

-- an operation
unfoldable pub op_at : List ℕ → Option (Op × List ℕ)
op_at [] = None
op_at (zero ∷ rest) = None
op_at (suc zero ∷ rest) = Some (Add, rest)
op_at (suc (suc zero) ∷ rest) = Some (Replace, rest)
op_at (suc (suc (suc zero)) ∷ rest) = Some (Remove, rest)
op_at (suc (suc (suc (suc b))) ∷ rest) = None

-- a mark, and the value that it promises
unfoldable pub optional_at : List ℕ → Option (Option Plain × List ℕ)
optional_at [] = None
optional_at (zero ∷ rest) = Some (None, rest)
optional_at (suc zero ∷ rest) = do
  v ← value_at rest
  Some (Some v.0, v.1)
optional_at (suc (suc b) ∷ rest) = None

-- a patch
unfoldable pub patch_at : List ℕ → Option (Patch × List ℕ)
patch_at bytes = do
  op ← op_at bytes
  path ← path_at op.1
  value ← optional_at path.1
  Some (record { op = op.0; path = path.0; value = value.0 }, value.1)

-- n patches
unfoldable pub patch_list_at : ℕ → List ℕ → Option (List Patch × List ℕ)
patch_list_at zero bytes = Some ([], bytes)
patch_list_at (suc n) bytes = do
  p ← patch_at bytes
  ps ← patch_list_at n p.1
  Some (p.0 ∷ ps.0, ps.1)

-- a patch list: the count of its patches, and the patches
unfoldable pub patches_at : List ℕ → Option (List Patch × List ℕ)
patches_at bytes = do
  n ← number_at w32 bytes
  patch_list_at n.0 n.1

-- a pair: its forward list, then its inverse list
unfoldable pub pair_at : List ℕ → Option (Pair × List ℕ)
pair_at bytes = do
  forward ← patches_at bytes
  inverse ← patches_at forward.1
  Some (record { forward = forward.0; inverse = inverse.0 }, inverse.1)
