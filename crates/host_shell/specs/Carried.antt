-- The patches of all the answers to a stream carry the state there and back.
use Rattle.std.specs.Prelude.{ℕ, List, [], ◌∷◌}
use Rattle.host_machine.specs.Carries.{Carries}
use Rattle.host_machine.specs.Machine.{Machine}
use Rattle.stream_run.specs.Runs.{answer_to, machine_after}

-- of each answer to these lines, from a machine on
abbrev pub AllCarry : Machine → List (List ℕ) → Type 0
AllCarry m [] = Unit {0}
AllCarry m (l ∷ ls) = Carries m (answer_to m l) × AllCarry (machine_after m l) ls
