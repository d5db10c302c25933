-- What the command that applies patches leaves and answers, beside want of memory, as a step of the machine.
use Rattle.std.specs.Prelude.{◌≡◌, ℕ, ◌+◌, min, List, Option, Some, None, Result, Ok, Err}
use Rattle.numbered.specs.Tree.{Tree, number}
use Rattle.values.specs.declared.patch.Patch.{Patch}
use Rattle.plain_values.specs.declared.command.Word.TheVariants as word
use Rattle.plain_values.specs.Names.{patch_cause}
use Rattle.plain_values.specs.declared.cause.Cause.{Cause}
use Rattle.plain_values.specs.declared.cause.Cause.TheVariants as cause
use Rattle.plain_values.specs.declared.reply.Reply.{Reply}
use Rattle.plain_values.specs.declared.reply.Reply.TheVariants as reply
use Rattle.host_machine.specs.Machine.{Machine, apply_step, accepted, no_patches}
use Rattle.host_machine.specs.Machine.{refused as refused_by}
use Rattle.host_engine.specs.Kept.{IsFlatState, machine_of}
use Rattle.host_engine.specs.declared.apply.Stop.{Stop}
use Rattle.host_engine.specs.declared.apply.Stop.TheVariants as stop
use Rattle.host_engine.specs.declared.change.Change.{Change}
use Rattle.host_engine.specs.declared.change.ChangeStop.{ChangeStop}
use Rattle.host_engine.specs.declared.change.ChangeStop.TheVariants as change
use Rattle.host_engine.specs.declared.edits.EditStop.{EditStop}
use Rattle.host_engine.specs.declared.edits.EditStop.TheVariants as edit

-- the cause for patches that can't be applied, and for a change that is past a limit
abbrev pub edit_stop : EditStop → Stop
edit_stop (edit.At at why) = stop.Refused (Some at) (patch_cause why)
edit_stop edit.Memory = stop.Memory

abbrev pub change_stop : ChangeStop → Stop
change_stop change.TooBig = stop.Refused None cause.TooBig
change_stop change.Full = stop.Refused None cause.Full
change_stop change.PatchesTooBig = stop.Refused None cause.PatchesTooBig
change_stop change.Memory = stop.Memory

-- the machine after a change that is kept, with the newest before it up to 100, and the reply
abbrev pub kept : List Tree → ℕ → ℕ → Change → Machine × Reply
kept us past seq c =
    let m : Machine = machine_of us c.root (min (past + 1) 100) (seq + 1) in
    (m, reply.Changed word.Apply c.pair (number m.state) m.seq None)

pub record IsAppliedChange (ts us : List Tree) (root : ℕ) (ps : List Patch) (c : Change) : Type 0 where
  pub state : IsFlatState us c.root
  pub step : (past seq : ℕ) → kept us past seq c ≡ apply_step (machine_of ts root past seq) ps

-- nothing was changed
pub record IsUnchanged (ts us : List Tree) (root : ℕ) (ps : List Patch) : Type 0 where
  pub stands : us ≡ ts
  pub step : (past seq : ℕ) → accepted (machine_of ts root past seq) no_patches ≡ apply_step (machine_of ts root past seq) ps

pub record IsRefused (ts us : List Tree) (root : ℕ) (ps : List Patch) (at : Option ℕ) (why : Cause) : Type 0 where
  pub stands : us ≡ ts
  pub step : (past seq : ℕ) → refused_by (machine_of ts root past seq) at why ≡ apply_step (machine_of ts root past seq) ps

abbrev pub Applies : List Tree → List Tree → ℕ → List Patch → Result (Option Change) Stop → Type 0
Applies ts us root ps (Ok (Some c)) = IsAppliedChange ts us root ps c
Applies ts us root ps (Ok None) = IsUnchanged ts us root ps
Applies ts us root ps (Err (stop.Refused at why)) = IsRefused ts us root ps at why
Applies ts us root ps (Err stop.Memory) = us ≡ ts
