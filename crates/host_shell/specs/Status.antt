-- The exit status of the program, and what it says on standard error.
use Rattle.std.specs.Prelude.{ℕ, List, codes}
use Rattle.host_shell.specs.declared.status.Status.{Status}
use Rattle.host_shell.specs.declared.status.Status.TheVariants.{Done, Usage, ReadFault, WriteFault, Memory, TooLong}

abbrev pub status_code : Status → ℕ
status_code Done = 0
status_code Usage = 2
status_code ReadFault = 4
status_code WriteFault = 5
status_code Memory = 7
status_code TooLong = 12

abbrev pub status_text : Status → List ℕ
status_text Done = codes ""
status_text Usage = codes "usage: statehost run SCRIPT JOURNAL [--new INIT] [--steps N]"
status_text ReadFault = codes "read fault"
status_text WriteFault = codes "write fault"
status_text Memory = codes "memory"
status_text TooLong = codes "too long"
