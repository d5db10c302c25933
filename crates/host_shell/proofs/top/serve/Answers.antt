use Rattle.host_machine.specs.Machine.{first_machine}
use Rattle.host_shell.proofs.CarriedLaws.{lines_carry, first_sound}
use Rattle.host_shell.proofs.top.serve.Goals as goal

pub returns-in-Scratch-clause-patches : goal.returns-in-Scratch-clause-patches
returns-in-Scratch-clause-patches g c = lines_carry first_machine first_sound

pub returns-in-Usage-clause-patches : goal.returns-in-Usage-clause-patches
returns-in-Usage-clause-patches g c = lines_carry first_machine first_sound
