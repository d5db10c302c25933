-- The words and the names of refusals as lines spell them.
use Rattle.std.specs.Prelude.{ℕ, List, codes}
use Rattle.value_model.specs.declared.limit.Limit.{Limit}
use Rattle.value_model.specs.declared.limit.Limit.TheVariants as limit
use Rattle.value_model.specs.declared.patch_why.PatchWhy.{PatchWhy}
use Rattle.value_model.specs.declared.patch_why.PatchWhy.TheVariants as why
use Rattle.plain_values.specs.declared.cause.Cause.{Cause}
use Rattle.plain_values.specs.declared.cause.Cause.TheVariants as cause
use Rattle.plain_values.specs.declared.command.Command.{Command}
use Rattle.plain_values.specs.declared.command.Command.TheVariants as command
use Rattle.plain_values.specs.declared.command.Word.{Word}
use Rattle.plain_values.specs.declared.command.Word.TheVariants as word
use Rattle.plain_values.specs.declared.refusal.Refusal.{Refusal}
use Rattle.plain_values.specs.declared.refusal.Refusal.TheVariants as refusal

-- a word as lines spell it
abbrev pub word_name : Word → List ℕ
word_name word.Dispatch = codes "dispatch"
word_name word.Apply = codes "apply"
word_name word.Undo = codes "undo"
word_name word.Redo = codes "redo"
word_name word.Begin = codes "begin"
word_name word.Edit = codes "edit"
word_name word.Finish = codes "finish"
word_name word.Drop = codes "drop"
word_name word.State = codes "state"
word_name word.Node = codes "node"
word_name word.Stat = codes "stat"
word_name word.Renew = codes "renew"
word_name word.View = codes "view"
word_name word.Pointer = codes "pointer"
word_name word.Line = codes "line"

-- the word of a command
abbrev pub command_word : Command → Word
command_word (command.Dispatch reducer action) = word.Dispatch
command_word (command.Apply patches) = word.Apply
command_word command.Undo = word.Undo
command_word command.Redo = word.Redo
command_word (command.Begin grant) = word.Begin
command_word (command.Edit session reducer action) = word.Edit
command_word (command.Finish session replay) = word.Finish
command_word (command.Drop session) = word.Drop
command_word (command.State path) = word.State
command_word (command.Node path) = word.Node
command_word command.Stat = word.Stat
command_word command.Renew = word.Renew
command_word (command.View name) = word.View
command_word (command.Pointer patches) = word.Pointer

-- a cause as replies print it
abbrev pub cause_name : Cause → List ℕ
cause_name cause.LineTooLong = codes "LineTooLong"
cause_name cause.NotJson = codes "NotJson"
cause_name cause.NotCommand = codes "NotCommand"
cause_name cause.NotYet = codes "NotYet"
cause_name cause.NotSafeInteger = codes "NotSafeInteger"
cause_name cause.TextTooLong = codes "TextTooLong"
cause_name cause.BadTag = codes "BadTag"
cause_name cause.DuplicateKey = codes "DuplicateKey"
cause_name cause.NotContainer = codes "NotContainer"
cause_name cause.TooDeep = codes "TooDeep"
cause_name cause.TooBig = codes "TooBig"
cause_name cause.KeyTooLong = codes "KeyTooLong"
cause_name cause.ReservedKey = codes "ReservedKey"
cause_name cause.NoPath = codes "NoPath"
cause_name cause.BadKey = codes "BadKey"
cause_name cause.SetReplace = codes "SetReplace"
cause_name cause.Hole = codes "Hole"
cause_name cause.UndefinedWrite = codes "UndefinedWrite"
cause_name cause.NotPointer = codes "NotPointer"
cause_name cause.BadIndex = codes "BadIndex"
cause_name cause.NoTarget = codes "NoTarget"
cause_name cause.UnknownReducer = codes "UnknownReducer"
cause_name cause.TypeMismatch = codes "TypeMismatch"
cause_name cause.Frozen = codes "Frozen"
cause_name cause.NotADraft = codes "NotADraft"
cause_name cause.NotInteger = codes "NotInteger"
cause_name cause.OutOfRange = codes "OutOfRange"
cause_name cause.Cycle = codes "Cycle"
cause_name cause.Budget = codes "Budget"
cause_name cause.ReturnAndModify = codes "ReturnAndModify"
cause_name cause.NotAState = codes "NotAState"
cause_name cause.Full = codes "Full"
cause_name cause.PatchesTooBig = codes "PatchesTooBig"
cause_name cause.HistoryFull = codes "HistoryFull"
cause_name cause.NothingToUndo = codes "NothingToUndo"
cause_name cause.NothingToRedo = codes "NothingToRedo"
cause_name cause.TooMany = codes "TooMany"
cause_name cause.UnknownGrant = codes "UnknownGrant"
cause_name cause.UnknownSession = codes "UnknownSession"
cause_name cause.Revoked = codes "Revoked"
cause_name cause.ReturnInSession = codes "ReturnInSession"
cause_name cause.UnknownView = codes "UnknownView"

-- a refusal as replies print it
abbrev pub refusal_name : Refusal → List ℕ
refusal_name (refusal.Named cause) = cause_name cause
refusal_name (refusal.Thrown value) = codes "Thrown"
refusal_name (refusal.Stale opened now) = codes "Stale"
refusal_name (refusal.SessionsOpen sessions) = codes "SessionsOpen"
refusal_name (refusal.Guard path) = codes "Guard"
refusal_name (refusal.Denied rule place) = codes "Denied"

-- a limit of values as the cause of its name
abbrev pub limit_cause : Limit → Cause
limit_cause limit.NotContainer = cause.NotContainer
limit_cause limit.TooDeep = cause.TooDeep
limit_cause limit.TooBig = cause.TooBig
limit_cause limit.KeyTooLong = cause.KeyTooLong
limit_cause limit.ReservedKey = cause.ReservedKey

-- a fault of a patch as the cause of its name
abbrev pub patch_cause : PatchWhy → Cause
patch_cause why.NoPath = cause.NoPath
patch_cause why.BadKey = cause.BadKey
patch_cause why.SetReplace = cause.SetReplace
patch_cause why.Hole = cause.Hole
patch_cause why.UndefinedWrite = cause.UndefinedWrite
patch_cause why.ReservedKey = cause.ReservedKey
patch_cause why.KeyTooLong = cause.KeyTooLong
