-- Worked rows: the journal of the empty object, the one after `n` was added, and the one behind a checkpoint, in both formats.
use Rattle.std.specs.Prelude.{◌≡◌, ℕ, pos, true, false, List, [], ◌∷◌, ◌++◌, length, take, codes, Some, None, refl}
use Rattle.value_model.specs.declared.key.Key.{Key}
use Rattle.value_model.specs.declared.key.Key.TheVariants.{Int, Text}
use Rattle.value_model.specs.declared.kind.Kind.TheVariants as kind
use Rattle.value_model.specs.declared.op.Op.TheVariants.{Add, Remove}
use Rattle.value_model.specs.Plain.{Plain, prim, node, none, entry}
use Rattle.values.specs.declared.patch.Pair.{Pair}
use Rattle.value_bytes_spec.specs.Reading.{value_at, nested_at, value_within, prim_or_node, kind_at, node_at, entries_at, entry_at, int_at, key_at, keys_at, op_at, optional_at, pair_at, patch_at, patch_list_at, patches_at, path_at, prim_at, text_at, text_key_at}
use Rattle.value_bytes_spec.specs.Spelling.{text_bytes}
use Rattle.journal_bytes.specs.declared.change.Change.{Change}
use Rattle.journal_bytes.specs.declared.change.Change.TheVariants.{Made}
use Rattle.journal_bytes.specs.declared.change.Format.{Format}
use Rattle.journal_bytes.specs.declared.change.Format.TheVariants.{One, Two}
use Rattle.journal_bytes.specs.History.{History, Step, begun, changed, led, leads_to, stepped, leads_out, is_sound, is_name}
use Rattle.journal_bytes.specs.Records.{record_bytes, sized_at, front_at, record_at, change_of, step_at, name_at}
use Rattle.journal_bytes.specs.Areas.{area_bytes, state_at, kept_at, entries_onto, counted_at, history_at, area_at}
use Rattle.journal_bytes.specs.Slots.{Slot, slot_bytes, no_slot, slot_at, slots_at, present}
use Rattle.journal_bytes.specs.Files.{Unmade, Foreign, Holds, class, header_bytes, reading, header_at, chain, next, behind_area}
use Rattle.std.specs.Str.{is_utf8, chars}
use lib.Utf8.{encode}

n : Key
n = Text (codes "n")

one : Plain
one = prim (Int (pos 1))

first : Plain
first = node kind.Obj none

-- `add ["n"]` 1, and `remove ["n"]`
added : Pair
added = record {
  forward = record { op = Add; path = n ∷ []; value = Some one } ∷ [];
  inverse = record { op = Remove; path = n ∷ []; value = None } ∷ [];
}

change : Change
change = Made added None

after : History
after = record { state = node kind.Obj (entry n one none); past = record { pair = added; by = None } ∷ []; future = []; seq = 1 }

-- ---- the journal of the empty object

small : List ℕ
small = header_bytes One first ++ 0 ∷ []

small_length : length small ≡ 20
unfolding small first
small_length = refl

small_class : class small ≡ Holds (begun first)
unfolding small first reading header_at chain sized_at front_at value_at nested_at value_within prim_or_node kind_at node_at entries_at
small_class = refl

-- two bytes, and nine, are a journal that is not made yet
short_class : class (take 2 small) ≡ Unmade
unfolding small first reading
short_class = refl

nine_class : class (take 9 small) ≡ Unmade
unfolding small first reading
nine_class = refl

-- without its gate it is another file, which shows at the gate's place
gateless_class : class (take 19 small) ≡ Foreign 19
unfolding small first reading header_at chain sized_at front_at value_at nested_at value_within prim_or_node kind_at node_at entries_at
gateless_class = refl

-- ---- after `n` was added

larger : List ℕ
larger = header_bytes One first ++ 1 ∷ (record_bytes One change ++ 0 ∷ [])

larger_length : length larger ≡ 67
unfolding larger first change added n one
larger_length = refl

larger_class : class larger ≡ Holds after
unfolding larger first change added n one after reading header_at chain next changed led leads_to stepped sized_at front_at record_at change_of step_at name_at is_name value_at nested_at value_within prim_or_node kind_at node_at entries_at entry_at int_at key_at keys_at op_at optional_at pair_at patch_at patch_list_at patches_at path_at prim_at text_at text_key_at is_utf8 chars encode
larger_class = refl

named : List ℕ
named = header_bytes Two first ++ 1 ∷ (record_bytes Two change ++ 0 ∷ [])

named_length : length named ≡ 71
unfolding named first change added n one
named_length = refl

named_class : class named ≡ Holds after
unfolding named first change added n one after reading header_at chain next changed led leads_to stepped sized_at front_at record_at change_of step_at name_at is_name value_at nested_at value_within prim_or_node kind_at node_at entries_at entry_at int_at key_at keys_at op_at optional_at pair_at patch_at patch_list_at patches_at path_at prim_at text_at text_key_at is_utf8 chars encode
named_class = refl

-- ---- behind a checkpoint

-- the first slot names the area that begins behind the record of slots
slot : Slot
slot = record { opened = true; number = 0; start = 93 }

kept : Format → List ℕ
kept format = header_bytes One first ++ 1 ∷ (record_bytes One change ++ 1 ∷ 4 ∷ (text_bytes (slot_bytes slot ++ slot_bytes no_slot) ++ 0 ∷ (area_bytes format after ++ 0 ∷ [])))

kept_length : length (kept One) ≡ 179
unfolding kept slot after first change added n one
kept_length = refl

kept_class : class (kept One) ≡ Holds after
unfolding kept slot first change added n one after reading header_at chain next changed led leads_to stepped leads_out is_sound sized_at front_at record_at change_of step_at name_at is_name state_at kept_at entries_onto counted_at history_at area_at slot_at slots_at present behind_area value_at nested_at value_within prim_or_node kind_at node_at entries_at entry_at int_at key_at keys_at op_at optional_at pair_at patch_at patch_list_at patches_at path_at prim_at text_at text_key_at is_utf8 chars encode
kept_class = refl

-- a checkpoint is written in format 2, also where the header is of format 1
stored_length : length (kept Two) ≡ 183
unfolding kept slot after first change added n one
stored_length = refl

stored_class : class (kept Two) ≡ Holds after
unfolding kept slot first change added n one after reading header_at chain next changed led leads_to stepped leads_out is_sound sized_at front_at record_at change_of step_at name_at is_name state_at kept_at entries_onto counted_at history_at area_at slot_at slots_at present behind_area value_at nested_at value_within prim_or_node kind_at node_at entries_at entry_at int_at key_at keys_at op_at optional_at pair_at patch_at patch_list_at patches_at path_at prim_at text_at text_key_at is_utf8 chars encode
stored_class = refl
