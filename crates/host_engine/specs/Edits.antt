-- What the edits of the root draft answer and leave, beside want of memory.
use Rattle.std.specs.Prelude.{◌≡◌, Bool, false, not, ◌||◌, List, Option, Some, None, Result, Ok, Err, ⊤}
use Rattle.value_model.specs.declared.key.Key.{Key}
use Rattle.value_model.specs.declared.op.Op.{Op}
use Rattle.value_model.specs.declared.patch_why.PatchWhy.{PatchWhy}
use Rattle.value_model.specs.declared.patch_why.PatchWhy.TheVariants as why
use Rattle.value_model.specs.Plain.{Plain, Table}
use Rattle.values.specs.declared.patch.Patch.{Patch}
use Rattle.patch_meaning.specs.Applying.{applied_from, patched}
use Rattle.host_machine.specs.Differences.{same_table}
use Rattle.host_machine.specs.Flat.{is_integer}
use Rattle.host_machine.specs.Machine.{differs, writes}
use Rattle.run_heap.specs.declared.content.Content.{Content}
use Rattle.run_heap.specs.declared.fault.DraftFault.{DraftFault}
use Rattle.run_heap.specs.declared.fault.DraftFault.TheVariants as draft
use Rattle.run_heap.specs.Operations.{is_marked}
use Rattle.host_engine.specs.Drafts.{entries_in, state_in}
use Rattle.host_engine.specs.declared.edits.EditFault.{EditFault}
use Rattle.host_engine.specs.declared.edits.EditFault.TheVariants as fault
use Rattle.host_engine.specs.declared.edits.EditStop.{EditStop}
use Rattle.host_engine.specs.declared.edits.EditStop.TheVariants as stop

abbrev pub is_number : Option Plain → Bool
is_number None = false
is_number (Some v) = is_integer v

-- the refusals that an edit of the root draft by a text can meet
abbrev pub MayStop : DraftFault → Type 0
MayStop draft.ReservedKey = ⊤
MayStop draft.KeyTooLong = ⊤
MayStop draft.Memory = ⊤
MayStop _ = ⊥

abbrev pub stop_of : DraftFault → EditFault
stop_of draft.ReservedKey = fault.Refused why.ReservedKey
stop_of draft.KeyTooLong = fault.Refused why.KeyTooLong
stop_of _ = fault.Memory

-- of an edit of the root draft: its table, and its mark; or the refusal
abbrev pub Edits : Option Content → Option Content → Result Table PatchWhy → Result (Unit {0}) EditFault → Type 0
Edits old new edit (Ok u) = (edit ≡ Ok (entries_in new)) × (is_marked new ≡ (is_marked old || not (same_table (entries_in old) (entries_in new))))
Edits old new edit (Err (fault.Refused w)) = edit ≡ Err w
Edits old new edit (Err fault.Memory) = Unit {0}

-- of one patch of the state
abbrev pub EditsState : Option Content → Option Content → Op → Option Plain → List Key → Result (Unit {0}) EditFault → Type 0
EditsState old new op v path (Ok u) = (patched op v path (state_in old) ≡ Ok (state_in new)) × (is_marked new ≡ (is_marked old || differs (state_in old) (state_in new)))
EditsState old new op v path (Err (fault.Refused w)) = patched op v path (state_in old) ≡ Err w
EditsState old new op v path (Err fault.Memory) = Unit {0}

-- of a list of patches
abbrev pub EditsAll : Option Content → Option Content → List Patch → Result (Unit {0}) EditStop → Type 0
EditsAll old new ps (Ok u) = (applied_from 0 ps (state_in old) ≡ Ok (state_in new)) × (is_marked new ≡ (is_marked old || writes ps (state_in old)))
EditsAll old new ps (Err (stop.At at w)) = applied_from 0 ps (state_in old) ≡ Err (record { at = at; why = w })
EditsAll old new ps (Err stop.Memory) = Unit {0}
