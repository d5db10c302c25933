-- Applying patches to a plain value, in the form of Immer 10's applyPatches; every case that Immer leaves open is this project's.
use Rattle.std.specs.Prelude.{ℕ, ◌+◌, ℤ, pos, List, [], ◌∷◌, ◌++◌, length, Bool, true, false, ◌||◌, Option, Some, None, Result, Ok, Err, codes, nat_le, nat_lt, if◌then◌else◌, slice_set}
use Rattle.std.specs.Str.{bytes_eq}
use Rattle.std.specs.List.{insert, remove}
use Rattle.std.proofs.Common.{take, drop}
use Rattle.std.specs.FinMap.Entries.{put}
use Rattle.value_model.specs.declared.key.Key.{Key}
use Rattle.value_model.specs.declared.key.Key.TheVariants.{Null, Int, Text}
use Rattle.value_model.specs.declared.kind.Kind.{Kind}
use Rattle.value_model.specs.declared.kind.Kind.TheVariants as kind
use Rattle.value_model.specs.declared.op.Op.{Op}
use Rattle.value_model.specs.declared.op.Op.TheVariants.{Add, Replace, Remove}
use Rattle.value_model.specs.declared.patch_why.PatchWhy.{PatchWhy}
use Rattle.value_model.specs.declared.patch_why.PatchWhy.TheVariants as why
use Rattle.value_model.specs.Limits.{is_long_key, is_reserved_text, is_reserved_key}
use Rattle.value_model.specs.Order.{key_cmp}
use Rattle.value_model.specs.Places.{child_at, without_key}
use Rattle.value_model.specs.Plain.{Plain, Table, prim, node, entries, list_of}
use Rattle.values.specs.declared.patch.Patch.{Patch}

-- ---- one patch at the container that its path leads to

-- the refusal, if the test holds, and otherwise what follows
abbrev pub unless : {X : Type 0} → Bool → PatchWhy → Result X PatchWhy → Result X PatchWhy
unless b w r = if b then Err w else r

-- a patch that writes needs a value
abbrev pub with_value : Option Plain → (Plain → Result Table PatchWhy) → Result Table PatchWhy
with_value None f = Err why.UndefinedWrite
with_value (Some w) f = f w

-- the table with a key set to a value
abbrev pub put_entry : Key → Plain → Table → Table
put_entry k w es = put key_cmp k w es

-- an object: a text names the entry that is set or removed
abbrev pub in_object : Op → Key → Option Plain → Table → Result Table PatchWhy
in_object Remove (Text s) v es = unless (is_reserved_text s) why.ReservedKey (Ok (without_key (Text s) es))
in_object _ (Text s) v es = unless (is_reserved_text s) why.ReservedKey (unless (is_long_key (Text s)) why.KeyTooLong (with_value v (λ w. Ok (put_entry (Text s) w es))))
in_object _ _ v es = Err why.BadKey

-- a Map: any key
abbrev pub in_map : Op → Key → Option Plain → Table → Result Table PatchWhy
in_map Remove k v es = Ok (without_key k es)
in_map _ k v es = unless (is_long_key k) why.KeyTooLong (with_value v (λ w. Ok (put_entry k w es)))

-- a member is a primitive
abbrev pub with_member : (Key → Result Table PatchWhy) → Plain → Result Table PatchWhy
with_member f (prim k) = f k
with_member f (node kind es) = Err why.BadKey

-- a Set: the step isn't looked at, and the value is the member
abbrev pub in_set : Op → Option Plain → Table → Result Table PatchWhy
in_set Add v es = with_value v (with_member (λ k. unless (is_long_key k) why.KeyTooLong (Ok (put_entry k (prim k) es))))
in_set Remove v es = with_value v (with_member (λ k. Ok (without_key k es)))
in_set Replace v es = Err why.SetReplace

-- ---- a list: its steps are indexes, each element an entry with the key null
abbrev pub element : Plain → Key × Plain
element w = (Null, w)

-- inserted before the index
abbrev pub insert_at : ℤ → Option Plain → Table → Result Table PatchWhy
insert_at (pos i) v es = unless (nat_lt (length es) i) why.Hole (with_value v (λ w. Ok (insert es i (element w))))
insert_at _ v es = Err why.Hole

-- set, or appended at the index behind the last
abbrev pub set_at : ℤ → Option Plain → Table → Result Table PatchWhy
set_at (pos i) v es = unless (nat_lt (length es) i) why.Hole (with_value v (λ w. Ok (take i es ++ element w ∷ drop (i + 1) es)))
set_at _ v es = Err why.Hole

-- removed at the index of an element
abbrev pub take_out : ℤ → Table → Result Table PatchWhy
take_out (pos i) es = unless (nat_le (length es) i) why.NoPath (Ok (remove es i))
take_out _ es = Err why.NoPath

-- `length` set to what a value says: the list is cut
abbrev pub cut_to : Table → Plain → Result Table PatchWhy
cut_to es (prim (Int (pos n))) = unless (nat_lt (length es) n) why.Hole (Ok (take n es))
cut_to es _ = Err why.BadKey

-- a list: an index, `-` behind the last element, or `length`
abbrev pub in_list : Op → Key → Option Plain → Table → Result Table PatchWhy
in_list Add (Int i) v es = insert_at i v es
in_list Add (Text s) v es = if bytes_eq s (codes "-") then with_value v (λ w. Ok (es ++ element w ∷ [])) else Err why.BadKey
in_list Replace (Int i) v es = set_at i v es
in_list Replace (Text s) v es = if bytes_eq s (codes "length") then with_value v (cut_to es) else Err why.BadKey
in_list Remove (Int i) v es = take_out i es
in_list _ _ v es = Err why.BadKey

-- the table of a container after an operation at a step
abbrev pub edited : Kind → Op → Key → Option Plain → Table → Result Table PatchWhy
edited kind.Obj op k v es = in_object op k v es
edited kind.List op k v es = in_list op k v es
edited kind.Map op k v es = in_map op k v es
edited kind.Set op k v es = in_set op v es

-- ---- one patch, from the root on

-- the container with this table
abbrev pub as_node : Kind → Result Table PatchWhy → Result Plain PatchWhy
as_node kind (Ok es) = Ok (node kind (entries es))
as_node kind (Err w) = Err w

-- the container with another child at a step that has one
abbrev pub with_child : Kind → Key → Table → Plain → Table
with_child kind.List (Int (pos i)) es w = slice_set es i (element w)
with_child _ k es w = put_entry k w es

-- the container with this child
abbrev pub as_child : Kind → Key → Table → Result Plain PatchWhy → Result Plain PatchWhy
as_child kind k es (Ok w) = Ok (node kind (entries (with_child kind k es w)))
as_child kind k es (Err w) = Err w

-- a name of an object that is reserved
abbrev pub is_reserved_step : Kind → Key → Bool
is_reserved_step kind.Obj k = is_reserved_key k
is_reserved_step _ k = false

-- what a patch makes of the child that a step leads to; where there is none, the path leads nowhere
abbrev pub into_child : (Plain → Result Plain PatchWhy) → Option Plain → Result Plain PatchWhy
into_child f None = Err why.NoPath
into_child f (Some w) = f w

-- what a patch makes of a value, or why it cannot be applied
abbrev pub patched : Op → Option Plain → List Key → Plain → Result Plain PatchWhy
patched op v [] x = Err why.NoPath
patched op v (k ∷ []) (prim j) = Err why.NoPath
patched op v (k ∷ []) (node kind es) = as_node kind (edited kind op k v (list_of es))
patched op v (k ∷ l ∷ path) (prim j) = Err why.NoPath
patched op v (k ∷ l ∷ path) (node kind es) =
    unless (is_reserved_step kind k) why.ReservedKey (as_child kind k (list_of es) (into_child (patched op v (l ∷ path)) (child_at kind k (list_of es))))

-- ---- a list of patches

-- the first fault: the position of its patch in the list, from 0, and why
pub record Fault : Type 0 where
  pub at : ℕ
  pub why : PatchWhy

-- the patches go on, or the fault has this position
abbrev pub fault_at : ℕ → Result Plain PatchWhy → (Plain → Result Plain Fault) → Result Plain Fault
fault_at i (Ok x) f = f x
fault_at i (Err w) f = Err (record { at = i; why = w })

-- the patches one after another, of which the first has the position i
abbrev pub applied_from : ℕ → List Patch → Plain → Result Plain Fault
applied_from i [] x = Ok x
applied_from i (p ∷ ps) x = fault_at i (patched p.op p.value p.path x) (applied_from (i + 1) ps)

-- whether a patch replaces the root
abbrev pub is_root : Op → List Key → Bool
is_root Replace [] = true
is_root _ _ = false

-- the same of a patch
abbrev pub is_root_replace : Patch → Bool
is_root_replace p = is_root p.op p.path

-- a new root, and the patches that are applied to it
abbrev pub from_root : ℕ → Option Plain → (Plain → Result Plain Fault) → Result Plain Fault
from_root i None f = Err (record { at = i; why = why.UndefinedWrite })
from_root i (Some w) f = f w

-- some patch replaces the root
abbrev pub has_root_replace : List Patch → Bool
has_root_replace [] = false
has_root_replace (p ∷ ps) = is_root_replace p || has_root_replace ps

-- the last patch that replaces the root gives it, and only the patches after it are applied
abbrev pub applied_at : ℕ → List Patch → Plain → Result Plain Fault
applied_at i [] x = Ok x
applied_at i (p ∷ ps) x =
    if has_root_replace ps then applied_at (i + 1) ps x else (
    if is_root_replace p then from_root i p.value (applied_from (i + 1) ps) else
    applied_from i (p ∷ ps) x)

-- what the patches make of a value, or the first fault
abbrev pub applied : List Patch → Plain → Result Plain Fault
applied ps x = applied_at 0 ps x
