-- What is answered to lines: each is a command of the machine, or has a refusal of its own, which leaves the machine.
use Rattle.std.specs.Prelude.{ℕ, List, [], ◌∷◌, ◌++◌, None, Result, Ok, Err, if◌then◌else◌}
use Rattle.plain_values.specs.declared.cause.Cause.{Cause}
use Rattle.plain_values.specs.declared.cause.Cause.TheVariants as cause
use Rattle.plain_values.specs.declared.command.Command.{Command}
use Rattle.plain_values.specs.declared.command.Word.TheVariants as word
use Rattle.plain_values.specs.declared.reply.Reply.{Reply}
use Rattle.plain_values.specs.declared.reply.Reply.TheVariants as reply
use Rattle.plain_values.specs.declared.refusal.Refusal.TheVariants as refusal
use Rattle.value_json_spec.specs.Answers.{and_then}
use Rattle.host_machine.specs.Machine.{Machine, step}
use Rattle.host_protocol_spec.specs.Commands.{Formed, form_of, command_in}
use Rattle.host_protocol_spec.specs.Replies.{reply_line}
use Rattle.stream_run.specs.Built.{is_built_form}
use Rattle.stream_run.specs.Lines.{is_blank}

-- the command of a form that the host runs; another is `NotYet`, whatever its values are
abbrev pub run_form : Formed → Result Command Cause
run_form f = if is_built_form f.word f.json then command_in f else Err cause.NotYet

-- the command of a line, where the host runs its form, or the line's first fault
unfoldable pub run_command : List ℕ → Result Command Cause
run_command line = and_then run_form (form_of line)

abbrev pub answer : Machine → Result Command Cause → Machine × Reply
answer m (Ok c) = step m c
answer m (Err why) = (m, reply.No word.Line None None (refusal.Named why))

unfoldable pub answer_to : Machine → List ℕ → Machine × Reply
answer_to m line = answer m (run_command line)

-- the bytes answered to a line, with LF, and the machine then; a blank line is skipped
unfoldable pub line_answer : Machine → List ℕ → List ℕ
line_answer m line = if is_blank line then [] else reply_line (answer_to m line).1 ++ 10 ∷ []

unfoldable pub machine_after : Machine → List ℕ → Machine
machine_after m line = if is_blank line then m else (answer_to m line).0

-- the answers to lines, one after another, and the last machine
unfoldable pub replies : Machine → List (List ℕ) → List ℕ
replies m [] = []
replies m (l ∷ ls) = line_answer m l ++ replies (machine_after m l) ls

unfoldable pub after : Machine → List (List ℕ) → Machine
after m [] = m
after m (l ∷ ls) = after (machine_after m l) ls
