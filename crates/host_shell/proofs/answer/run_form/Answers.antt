use Rattle.std.proofs.Common.{◌≡◌, true, Result, Ok, Err}
use Rattle.std.specs.Prelude.{IfOk, IsTrue}
use Rattle.plain_values.specs.declared.command.Command.{Command}
use Rattle.host_machine.specs.Flat.{is_built}
use Rattle.host_protocol.specs.Gives.{Gives, formed}
use Rattle.host_protocol.specs.declared.fault.LineFault.{LineFault}
use Rattle.host_protocol_spec.specs.Commands.{Formed, command_in}
use Rattle.stream_run.specs.Built.{is_built_form}
use Rattle.stream_run.proofs.BuiltLaws.{form_built}
use Rattle.host_shell.proofs.answer.run_form.Goals as goal

built_if : (r : Result Command LineFault) (f : Formed) → is_built_form f.word f.json ≡ true → Gives r (command_in f) → IfOk r (λ c. IsTrue (is_built c))
built_if (Ok c) f b g = form_built f.word f.json c b g
built_if (Err fault) f b g = tt

pub returns-then-is_built_form-clause-built : goal.returns-then-is_built_form-clause-built
returns-then-is_built_form-clause-built c = built_if c.command.result (formed c.args.formed.now) (rw (← c.is_built_form.ensures) c.if-is_built_form.true) c.command.ensures
