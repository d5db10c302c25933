use Rattle.host_machine.specs.Machine.{first_machine}
use Rattle.host_shell.specs.Ends.{Ends}
use Rattle.host_shell.specs.declared.status.Status.TheVariants as status
use Rattle.host_shell.proofs.ServeLaws.{ran_nothing, stopped_nothing}
use Rattle.host_shell.proofs.top.scratch.Goals as goal

pub returns-clause-ends : goal.returns-clause-ends
returns-clause-ends g c = ran_nothing (g.C.Source.left c.args.commands.now) (g.O.Sink.taken c.args.out.now) (Ends status.Memory first_machine) (stopped_nothing first_machine)
