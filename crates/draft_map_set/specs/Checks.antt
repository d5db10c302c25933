-- The causes for which a call is refused, in their order.
use Rattle.std.specs.Prelude.{List, [], ◌∷◌, Option, Some, None, Bool, false, not, Result, Ok}
use Rattle.value_model.specs.declared.kind.Kind.{Kind}
use Rattle.run_heap.specs.declared.value.Rv.{Rv}
use Rattle.run_heap.specs.declared.fault.DraftFault.{DraftFault}
use Rattle.run_heap.specs.declared.fault.DraftFault.TheVariants as fault
use Rattle.run_heap.specs.Heap.{Heap}
use Rattle.run_heap.specs.Operations.{unless, any_foreign, is_undefined, is_frozen, kind_of}
use Rattle.draft_map_set_spec.specs.MapSet.{is_map_or_set, is_long}
use Rattle.value_model.specs.Kinds.{is_map, is_set}
use Rattle.draft_map_set.specs.declared.checks.Takes.{Takes}
use Rattle.draft_map_set.specs.declared.checks.Takes.TheVariants.{Maps, Sets, Both}

abbrev pub Causes : Type 0
Causes = List (Bool × DraftFault)

-- nothing, or the first cause that holds
abbrev pub checked : Causes → Result (Unit {0}) DraftFault
checked cs = unless cs (Ok tt)

-- the kinds that a call takes
abbrev pub taken : Takes → Kind → Bool
taken Maps = is_map
taken Sets = is_set
taken Both = is_map_or_set

-- a container of such a kind
abbrev pub is_of : (Kind → Bool) → Option Kind → Bool
is_of takes None = false
is_of takes (Some of) = takes of

abbrev pub kind_causes : (Kind → Bool) → Heap → Rv → Causes
kind_causes takes h of = (not (is_of takes (kind_of h of)), fault.TypeMismatch) ∷ []

-- of a call that reads, where `others` are the other values among the arguments
abbrev pub read_causes : (Kind → Bool) → Heap → Rv → List Rv → Causes
read_causes takes h of others = (any_foreign h (of ∷ others), fault.Revoked) ∷ (not (is_of takes (kind_of h of)), fault.TypeMismatch) ∷ []

-- of a call that writes
abbrev pub write_causes : (Kind → Bool) → Heap → Rv → List Rv → Causes
write_causes takes h of others =
    (any_foreign h (of ∷ others), fault.Revoked)
    ∷ (not (is_of takes (kind_of h of)), fault.TypeMismatch)
    ∷ (is_frozen of, fault.Frozen)
    ∷ []

-- of what is to stand in a Map
abbrev pub entry_causes : Rv → Rv → Causes
entry_causes key value = (is_long key, fault.KeyTooLong) ∷ (is_undefined value, fault.UndefinedWrite) ∷ []

-- of one that sets a Map's entry, but for a key that is no primitive
abbrev pub setting_causes : Heap → Rv → Rv → Rv → Causes
setting_causes h of key value =
    (any_foreign h (of ∷ key ∷ value ∷ []), fault.Revoked)
    ∷ (not (is_of is_map (kind_of h of)), fault.TypeMismatch)
    ∷ (is_frozen of, fault.Frozen)
    ∷ (is_long key, fault.KeyTooLong)
    ∷ (is_undefined value, fault.UndefinedWrite)
    ∷ []

-- of one that adds a Set's member, but for a member that is no primitive
abbrev pub adding_causes : Heap → Rv → Rv → Causes
adding_causes h of member =
    (any_foreign h (of ∷ member ∷ []), fault.Revoked)
    ∷ (not (is_of is_set (kind_of h of)), fault.TypeMismatch)
    ∷ (is_frozen of, fault.Frozen)
    ∷ (is_long member, fault.KeyTooLong)
    ∷ []
