-- What stands at each status of a run, and what calls that answer lines leave.
use Rattle.std.specs.Prelude.{◌≡◌, ℕ, ◌≤◌, ◌^◌, List, [], length, Option, Some, None, MatchResult, ◌<◌, Result, Ok, Err, false}
use Rattle.std.specs.Io.KnownBytes.{Appends, Consumes, IsAtEnd, Keeps}
use Rattle.std.proofs.Common.{take}
use Rattle.io_edges.specs.Causes.{Rose}
use Rattle.host_machine.specs.Machine.{Machine, Turned}
use Rattle.stream_run.specs.Lines.{is_blank}
use Rattle.stream_run.specs.Runs.{line_answer, machine_after}
use Rattle.stream_run.specs.Endings.{IsPrefix, IsServed, IsStopped, IsUnread, IsUnwritten, IsOverlong}
use Rattle.host_shell.specs.declared.status.Status.{Status}
use Rattle.host_shell.specs.declared.status.Status.TheVariants.{Done, Usage, ReadFault, WriteFault, Memory, TooLong}

-- of a run of a machine, by its status: what is left of the stream, what was read of it, and what the sink took
abbrev pub Ends : Status → Machine → List ℕ → List ℕ → List ℕ → Type 0
Ends Done first left got done = IsServed first left got done
Ends Usage first left got done = done ≡ []
Ends ReadFault first left got done = IsUnread first left got done × IsStopped first left got done
Ends WriteFault first left got done = IsUnwritten first left got done × IsStopped first left got done
Ends Memory first left got done = IsStopped first left got done
Ends TooLong first left got done = IsOverlong first left got done × IsStopped first left got done

-- a status at which all went well, beside want of memory
abbrev pub IsDoneOrMemory : Status → Type 0
IsDoneOrMemory Done = Unit {0}
IsDoneOrMemory Memory = Unit {0}
IsDoneOrMemory _ = ⊥

-- a stream within its limit, where the source tells it
abbrev pub IsWithin : Option (List ℕ) → Type 0
IsWithin None = ⊥
IsWithin (Some all) = length all ≤ 2 ^ 48

-- a call that answers lines stops for want of memory, or for a write fault where the sink's count rose
abbrev pub StopsFor : ℕ → ℕ → Status → Type 0
StopsFor before now Memory = Unit {0}
StopsFor before now WriteFault = Rose before now
StopsFor before now _ = ⊥

-- a part of the bytes was taken
pub record TakesPart (before now : Option (List ℕ)) (bytes : List ℕ) : Type 0 where
  pub part : List ℕ
  pub taken : Appends before now part
  pub in_part : IsPrefix part bytes

-- What answering a line leaves: the machine after it and its answer taken; or a part of its answer. A blank line takes no
-- command and can't fail.
pub record IsAnswered (h h' : Turned) (line : List ℕ) (before now : Option (List ℕ)) : Type 0 where
  pub machine : h'.machine ≡ machine_after h.machine line
  pub taken : Appends before now (line_answer h.machine line)

pub record IsHeld (m : Machine) (line : List ℕ) (before now : Option (List ℕ)) : Type 0 where
  pub spoken : is_blank line ≡ false
  pub part : TakesPart before now (line_answer m line)

abbrev pub Answers : Turned → List ℕ → Option (List ℕ) → Option (List ℕ) → Result Turned Status → Type 0
Answers h line before now (Ok h') = IsAnswered h h' line before now
Answers h line before now (Err s) = IsHeld h.machine line before now

-- what a read of at most so many bytes into a piece gave
abbrev pub GivesPiece : {E : Type 0} → Option (List ℕ) → Option (List ℕ) → ℕ → List ℕ → Result ℕ E → Type 0
GivesPiece left left' room piece r = MatchResult r (λ n. Consumes left left' (take n piece) × (n ≡ 0 → 0 < room → IsAtEnd left')) (λ _. Keeps left left')
