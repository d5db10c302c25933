-- How many bytes a spelling has, by what is spelled weighs.
use Rattle.std.proofs.Common.{◌≡◌, ℕ, zero, suc, ◌+◌, ◌*◌, ◌<◌, ◌≤◌, ◌^◌, Bool, true, false, cond, List, [], ◌∷◌, ◌++◌, length, Option, Some, None, refl, sym, ap, ◌∙◌, arith}
use Rattle.std.specs.Prelude.{IsTrue, ◌&&◌, nat_le, nat_lt}
use Rattle.std.specs.Int.{w32, w64, to_be_bytes, cast_unsigned}
use Rattle.std.specs.List.{flat_map, AllByRecursion}
use Rattle.std.proofs.lemmas.Bool.{leb-true, ltb-false}
use Rattle.std.proofs.lemmas.List.{length-append}
use Rattle.std.proofs.lemmas.List.Concat.{flat_map-cons}
use Rattle.value_model.specs.declared.key.Key.{Key}
use Rattle.value_model.specs.declared.key.Key.TheVariants.{Null, Bool as BoolKey, Int, Text}
use Rattle.value_model.specs.declared.kind.Kind.{Kind}
use Rattle.value_model.specs.declared.kind.Kind.TheVariants as kind
use Rattle.value_model.specs.declared.limit.Limit.{Limit}
use Rattle.value_model.specs.declared.limit.Limit.TheVariants as limit
use Rattle.value_model.specs.Limits.{has_long_key, has_reserved_key, value_limit}
use Rattle.value_model.specs.Plain.{Plain, Entries, prim, node, none, entry, list_of, key_weight, place_weight, weight, weights, depth}
use Rattle.value_model.specs.Search.{left_true, right_true}
use Rattle.values.specs.declared.patch.Patch.{Patch}
use Rattle.values.specs.declared.patch.Pair.{Pair}
use Rattle.value_bytes_spec.specs.Spelling.{text_bytes, key_bytes, place_bytes, value_bytes, entries_bytes, optional_bytes, path_bytes, patch_bytes, patches_bytes, pair_bytes}
use Rattle.value_measures.specs.Weights.{path_weight, value_weight, patch_weight, patches_weight}
use Rattle.journal_bytes.specs.declared.change.Format.{Format}
use Rattle.journal_bytes.specs.declared.change.Format.TheVariants.{One, Two}
use Rattle.journal_bytes.specs.History.{History, Step, is_name, is_light}
use Rattle.journal_bytes.specs.Records.{name_bytes, step_bytes, fits, CanHold}
use Rattle.journal_bytes.specs.Areas.{entries_bytes as steps_bytes, counted_bytes, history_bytes, area_bytes, CanStore}
use Rattle.journal_bytes.proofs.Recorded.{few_entries}

pub text_size : (s : List ℕ) → length (text_bytes s) ≡ 4 + length s
text_size s = omega (arith, length-append (to_be_bytes w32 (length s)) s)

key_size : (k : Key) → length (key_bytes k) ≤ 9 * key_weight k
key_size Null = omega arith
key_size (BoolKey false) = omega arith
key_size (BoolKey true) = omega arith
key_size (Int n) = let size : length (to_be_bytes w64 (cast_unsigned w64 n)) ≡ 8 = refl in omega (arith, size)
key_size (Text s) = omega (arith, text_size s)

name_size : (k : Key) → length (place_bytes kind.Obj k) ≤ 9 * key_weight k
name_size Null = omega arith
name_size (BoolKey b) = omega arith
name_size (Int n) = omega arith
name_size (Text s) = omega (arith, text_size s)

place_size : (kind : Kind) (k : Key) → length (place_bytes kind k) ≤ 9 * place_weight kind k
place_size kind.Obj k = name_size k
place_size kind.List k = omega arith
place_size kind.Map k = key_size k
place_size kind.Set k = omega arith

mutual
  pub value_size : (v : Plain) → length (value_bytes v) ≤ 9 * weight v
  value_size (prim k) = key_size k
  value_size (node kind es) =
      let count = to_be_bytes w32 (length (list_of es)) in
      omega (arith, length-append count (entries_bytes kind es), entries_size kind es)

  entries_size : (kind : Kind) (es : Entries) → length (entries_bytes kind es) ≤ 9 * weights kind es
  entries_size kind none = omega arith
  entries_size kind (entry k v es) =
      omega (arith, length-append (place_bytes kind k) (value_bytes v ++ entries_bytes kind es), length-append (value_bytes v) (entries_bytes kind es), place_size kind k, value_size v, entries_size kind es)

optional_size : (o : Option Plain) → length (optional_bytes o) ≤ 1 + 9 * value_weight o
optional_size None = omega arith
optional_size (Some v) = omega (arith, value_size v)

keys_size : (ks : List Key) → length (flat_map key_bytes ks) ≤ 9 * path_weight ks
keys_size [] = omega arith
keys_size (k ∷ ks) = omega (arith, ap length (flat_map-cons key_bytes k ks), length-append (key_bytes k) (flat_map key_bytes ks), key_size k, keys_size ks)

patch_size : (p : Patch) → length (patch_bytes p) ≤ 9 * patch_weight p
patch_size p =
    let count = to_be_bytes w32 (length p.path) in
    omega (arith, length-append (path_bytes p.path) (optional_bytes p.value), length-append count (flat_map key_bytes p.path), keys_size p.path, optional_size p.value)

list_size : (ps : List Patch) → length (flat_map patch_bytes ps) ≤ 9 * patches_weight ps
list_size [] = omega arith
list_size (p ∷ ps) = omega (arith, ap length (flat_map-cons patch_bytes p ps), length-append (patch_bytes p) (flat_map patch_bytes ps), patch_size p, list_size ps)

patches_size : (ps : List Patch) → length (patches_bytes ps) ≤ 4 + 9 * patches_weight ps
patches_size ps = omega (arith, length-append (to_be_bytes w32 (length ps)) (flat_map patch_bytes ps), list_size ps)

-- what a pair within its limit is spelled in
pub pair_size : (pair : Pair) → IsTrue (is_light pair) → length (pair_bytes pair) ≤ 37748744
pair_size pair light =
    let le : patches_weight pair.forward + patches_weight pair.inverse ≤ 2 ^ 22 = leb-true _ _ light in
    omega (arith, length-append (patches_bytes pair.forward) (patches_bytes pair.inverse), patches_size pair.forward, patches_size pair.inverse, le)

pub name_short : (name : List ℕ) → IsTrue (is_name name) → length name ≤ 2 ^ 20
unfolding is_name
name_short name h = leb-true _ _ (left_true _ _ (left_true _ _ (left_true _ _ h)))

by_size : (format : Format) (by : Option (List ℕ)) → IsTrue (fits format by) → length (name_bytes format by) ≤ 4 + 2 ^ 20
by_size One by h = omega arith
by_size Two None h = omega arith
by_size Two (Some name) h = omega (arith, text_size name, name_short name h)

-- an entry within its limits is spelled in fewer than 38,999,990 bytes
pub step_short : (format : Format) (e : Step) → IsTrue (is_light e.pair) → IsTrue (fits format e.by) → length (step_bytes format e) < 38999990
step_short format e light named = omega (arith, length-append (name_bytes format e.by) (pair_bytes e.pair), pair_size e.pair light, by_size format e.by named)

-- ---- states and areas

by_weight : (v : Plain) (b : Bool) (rest : Option Limit) → nat_lt (2 ^ 20) (weight v) ≡ b → cond b (Some limit.TooBig) rest ≡ None → weight v ≤ 2 ^ 20
by_weight v true rest h e = absurd cc
by_weight v false rest h e = ltb-false _ _ h

by_depth : (b : Bool) (rest : Option Limit) → cond b (Some limit.TooDeep) rest ≡ None → rest ≡ None
by_depth true rest e = absurd cc
by_depth false rest e = e

pub light_value : (v : Plain) → value_limit v ≡ None → weight v ≤ 2 ^ 20
light_value v e =
    let keys = cond (has_long_key v) (Some limit.KeyTooLong) (cond (has_reserved_key v) (Some limit.ReservedKey) None) in
    by_weight v (nat_lt (2 ^ 20) (weight v)) keys refl (by_depth (nat_lt 32 (depth v)) (cond (nat_lt (2 ^ 20) (weight v)) (Some limit.TooBig) keys) e)

pub state_size : (v : Plain) → value_limit v ≡ None → length (value_bytes v) ≤ 9437184
state_size v e = omega (arith, value_size v, light_value v e)

steps_size : (format : Format) (es : List Step) → AllByRecursion (CanHold format) es → length (steps_bytes format es) ≤ 38999994 * length es
steps_size format [] can = omega arith
steps_size format (e ∷ es) can =
    omega (arith, length-append (steps_bytes format es) (text_bytes (step_bytes format e)), text_size (step_bytes format e), (can.0).short, steps_size format es can.1)

-- an area has fewer than 2^32 bytes with its gate
pub area_size : (format : Format) (h : History) → CanStore format h → length (area_bytes format h) + 1 < 2 ^ 32
area_size format h can =
    let few = few_entries h can.sound in
    let state = text_bytes (value_bytes h.state) in
    let seq = to_be_bytes w64 h.seq in
    let past = counted_bytes format h.past in
    let future = counted_bytes format h.future in
    let seq_size : length seq ≡ 8 = refl in
    omega (
      arith,
      few.0,
      length-append state (seq ++ (past ++ future)),
      length-append seq (past ++ future),
      length-append past future,
      text_size (value_bytes h.state),
      state_size h.state can.state.accepted,
      seq_size,
      length-append (to_be_bytes w32 (length h.past)) (steps_bytes format h.past),
      length-append (to_be_bytes w32 (length h.future)) (steps_bytes format h.future),
      steps_size format h.past can.past,
      steps_size format h.future can.future,
    )
