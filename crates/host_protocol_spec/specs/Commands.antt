-- The command that a line is, or why it is none. A line is one JSON text (RFC 8259) of one of the forms of commands.
use Rattle.std.specs.Prelude.{ℕ, List, [], length, Bool, false, codes, if◌then◌else◌, nat_lt, Option, Some, None, option_and_then, Result, Ok, Err}
use Rattle.serde_json.specs.Data.{Data}
use Rattle.serde_json.specs.Find.{get, as_number, as_str, as_u64}
use Rattle.value_model.specs.declared.key.Key.{Key}
use Rattle.value_model.specs.declared.key.Key.TheVariants.{Null}
use Rattle.value_model.specs.Plain.{Plain, prim}
use Rattle.values.specs.declared.patch.Patch.{Patch}
use Rattle.plain_values.specs.declared.cause.Cause.{Cause}
use Rattle.plain_values.specs.declared.cause.Cause.TheVariants as cause
use Rattle.plain_values.specs.declared.command.Command.{Command}
use Rattle.plain_values.specs.declared.command.Command.TheVariants as command
use Rattle.plain_values.specs.declared.command.Word.{Word}
use Rattle.plain_values.specs.declared.command.Word.TheVariants as word
use Rattle.plain_values.specs.declared.pointer.Pointer.{Pointer}
use Rattle.plain_values.specs.Names.{limit_cause}
use Rattle.value_json_spec.specs.Answers.{and_then, result_map}
use Rattle.value_json_spec.specs.declared.why.JsonWhy.{JsonWhy}
use Rattle.value_json_spec.specs.declared.why.JsonWhy.TheVariants as why
use Rattle.value_json_spec.specs.Patches.{path_from, patches_from}
use Rattle.value_json_spec.specs.Reading.{json_of, text_from, val_from}
use Rattle.host_protocol_spec.specs.Forms.{is_text, text_in, word_in, has_form}
use Rattle.host_protocol_spec.specs.Pointers.{pointers_from}

-- ---- the form of a line

-- a line of one of the forms: its word, and its data, whose values are not judged yet
pub record Formed : Type 0 where
  pub word : Word
  pub json : Data

-- the data, where it has the form of this word
abbrev pub formed_by : Data → Option Word → Result Formed Cause
formed_by d None = Err cause.NotCommand
formed_by d (Some w) = if has_form w d then Ok (record { word = w; json = d }) else Err cause.NotCommand

-- the data that a line is, where it has the form of the word under `do`
abbrev pub formed_in : Option Data → Result Formed Cause
formed_in None = Err cause.NotJson
formed_in (Some d) = formed_by d (word_in d)

-- a line has at most 2^20 bytes
unfoldable pub is_long_line : List ℕ → Bool
is_long_line line = nat_lt 1048576 (length line)

-- the form of a line, or its first fault: too long, no JSON, of no form
unfoldable pub form_of : List ℕ → Result Formed Cause
form_of line = if is_long_line line then Err cause.LineTooLong else formed_in (json_of line)

-- ---- the values in it

-- A fault of the JSON inside a line, as the cause of the same name. The form of a path or a list of patches is judged before
-- its content.
abbrev pub json_cause : JsonWhy → Cause
json_cause why.NotJson = cause.NotJson
json_cause why.NotSafeInteger = cause.NotSafeInteger
json_cause why.TextTooLong = cause.TextTooLong
json_cause why.BadTag = cause.BadTag
json_cause why.DuplicateKey = cause.DuplicateKey
json_cause why.NotPatches = cause.NotCommand
json_cause why.NotPath = cause.NotCommand
json_cause (why.Limit l) = limit_cause l

-- what was read, or the cause of its fault
abbrev pub caused : {X : Type 0} → Result X JsonWhy → Result X Cause
caused (Ok x) = Ok x
caused (Err w) = Err (json_cause w)

-- a text that has to be there
abbrev pub text_at : Option (List ℕ) → Result (List ℕ) Cause
text_at None = Err cause.NotCommand
text_at (Some s) = caused (text_from s)

-- the number of a session, which has to be there
abbrev pub session_at : Option ℕ → Result ℕ Cause
session_at None = Err cause.NotCommand
session_at (Some n) = Ok n

-- patches that have to be there
abbrev pub patches_at : Option Data → Result (List Patch) Cause
patches_at None = Err cause.NotCommand
patches_at (Some d) = caused (patches_from d)

-- operations that have to be there
abbrev pub pointers_at : Option Data → Result (List Pointer) Cause
pointers_at None = Err cause.NotCommand
pointers_at (Some d) = caused (pointers_from d)

-- an action that is absent is null
abbrev pub action_at : Option Data → Result Plain Cause
action_at None = Ok (prim Null)
action_at (Some d) = caused (val_from d)

-- the name of a grant, where there is one
abbrev pub grant_at : Option Data → Result (Option (List ℕ)) Cause
grant_at None = Ok None
grant_at (Some d) = result_map Some (text_at (as_str d))

-- a path that is absent is empty
abbrev pub path_at : Option Data → Result (List Key) Cause
path_at None = Ok []
path_at (Some d) = caused (path_from d)

-- a session ends by replay where the word for that is there, and exactly otherwise
abbrev pub is_replay : Option Data → Bool
is_replay None = false
is_replay (Some d) = is_text (codes "replay") (as_str d)

-- ---- the command

abbrev pub session_in : Data → Result ℕ Cause
session_in d = session_at (option_and_then as_u64 (option_and_then as_number (get (codes "session") d)))

abbrev pub reducer_in : Data → Result (List ℕ) Cause
reducer_in d = text_at (text_in (get (codes "reducer") d))

abbrev pub action_in : Data → Result Plain Cause
action_in d = action_at (get (codes "action") d)

-- the faults of the reducer's name, then those of the action
abbrev pub dispatch_in : Data → Result Command Cause
dispatch_in d = and_then (λ reducer. result_map (command.Dispatch reducer) (action_in d)) (reducer_in d)

abbrev pub edit_with : Data → ℕ → Result Command Cause
edit_with d session = and_then (λ reducer. result_map (command.Edit session reducer) (action_in d)) (reducer_in d)

abbrev pub edit_in : Data → Result Command Cause
edit_in d = and_then (edit_with d) (session_in d)

abbrev pub finish_with : Data → ℕ → Command
finish_with d session = command.Finish session (is_replay (get (codes "how") d))

-- the command of a line of this word's form, or the first fault of its values
abbrev pub command_by : Word → Data → Result Command Cause
command_by word.Dispatch d = dispatch_in d
command_by word.Apply d = result_map command.Apply (patches_at (get (codes "patches") d))
command_by word.Undo d = Ok command.Undo
command_by word.Redo d = Ok command.Redo
command_by word.Begin d = result_map command.Begin (grant_at (get (codes "grant") d))
command_by word.Edit d = edit_in d
command_by word.Finish d = result_map (finish_with d) (session_in d)
command_by word.Drop d = result_map command.Drop (session_in d)
command_by word.State d = result_map command.State (path_at (get (codes "path") d))
command_by word.Node d = result_map command.Node (path_at (get (codes "path") d))
command_by word.Stat d = Ok command.Stat
command_by word.Renew d = Ok command.Renew
command_by word.View d = result_map command.View (text_at (text_in (get (codes "name") d)))
command_by word.Pointer d = result_map command.Pointer (pointers_at (get (codes "patches") d))
command_by word.Line d = Err cause.NotCommand

abbrev pub command_in : Formed → Result Command Cause
command_in f = command_by f.word f.json

-- the command that a line is, or its first fault: that of its form, then that of a value in it
unfoldable pub command_of : List ℕ → Result Command Cause
command_of line = and_then command_in (form_of line)
