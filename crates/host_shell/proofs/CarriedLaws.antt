-- From a sound machine on, the patches of every answer carry the state there and back.
use Rattle.std.proofs.Common.{◌≡◌, ℕ, List, [], ◌∷◌, refl, Bool, true, false, cond}
use Rattle.std.specs.Prelude.{IsTrue, Result, Ok, Err}
use Rattle.plain_values.specs.declared.cause.Cause.{Cause}
use Rattle.plain_values.specs.declared.command.Command.{Command}
use Rattle.host_machine.specs.Carries.{IsSound}
use Rattle.host_machine.specs.Flat.{is_built}
use Rattle.host_machine.specs.Machine.{Machine, value, first_machine}
use Rattle.host_machine.proofs.CarryLaws.{IsCarried, step_carried}
use Rattle.stream_run.specs.Lines.{is_blank, lines}
use Rattle.stream_run.specs.Runs.{answer, answer_to, machine_after, run_command}
use Rattle.stream_run.proofs.BuiltLaws.{run_built}
use Rattle.host_shell.specs.Carried.{AllCarry}

-- ---- an answer
answer_at : (m : Machine) (r : Result Command Cause) → IsSound (value m) → ((c : Command) → r ≡ Ok c → IsTrue (is_built c)) → IsCarried m (answer m r)
answer_at m (Ok c) s h = step_carried m c (h c refl) s
answer_at m (Err w) s h = record { carries = refl; sound = s }

answer_carried : (m : Machine) (line : List ℕ) → IsSound (value m) → IsCarried m (answer_to m line)
unfolding answer_to
answer_carried m line s = answer_at m (run_command line) s (run_built line)

after_at : (m : Machine) (line : List ℕ) (b : Bool) → IsSound (value m) → IsSound (value (cond b m (answer_to m line).0))
after_at m line true s = s
after_at m line false s = (answer_carried m line s).sound

after_sound : (m : Machine) (line : List ℕ) → IsSound (value m) → IsSound (value (machine_after m line))
unfolding machine_after
after_sound m line s = after_at m line (is_blank line) s

-- ---- all of them
all_carry : (m : Machine) (ls : List (List ℕ)) → IsSound (value m) → AllCarry m ls
all_carry m [] s = cc
all_carry m (l ∷ ls) s = ((answer_carried m l s).carries, all_carry (machine_after m l) ls (after_sound m l s))

pub lines_carry : (m : Machine) → IsSound (value m) → (stream : List ℕ) → AllCarry m (lines stream)
lines_carry m s stream = all_carry m (lines stream) s

pub first_sound : IsSound (value first_machine)
first_sound = record { flat = refl; ascending = refl }
