-- Where a run is after some bytes of the stream.
use Rattle.std.specs.Prelude.{◌≡◌, ℕ, ◌+◌, ◌<◌, List, [], ◌∷◌, ◌++◌, length, Option, Result, Ok, Err}
use Rattle.std.proofs.Common.{take, drop}
use Rattle.std.specs.Io.KnownBytes.{Appends}
use Rattle.host_machine.specs.Machine.{Machine, Turned}
use Rattle.stream_run.specs.Lines.{HasNoLf, whole_lines, rest_of}
use Rattle.stream_run.specs.Runs.{replies, after}
use Rattle.stream_run.specs.Endings.{IsStopped, IsUnwritten}
use Rattle.host_shell.specs.Ends.{Ends}
use Rattle.host_shell.specs.Line.{LineState, Holds}
use Rattle.host_shell.specs.declared.status.Status.{Status}
use Rattle.host_shell.specs.declared.status.Status.TheVariants.{Done, WriteFault, TooLong}

-- the whole lines of the bytes are answered, and the rest of them is held
pub record IsAt (first : Machine) (got : List ℕ) (m : Machine) (line : LineState) (before now : Option (List ℕ)) : Type 0 where
  pub machine : m ≡ after first (whole_lines got)
  pub held : Holds line (rest_of got)
  pub taken : Appends before now (replies first (whole_lines got))

-- the run stopped: what was taken is a prefix of the answers to the stream, and where the sink failed, it was at a line
pub record IsHalted (first : Machine) (left got : List ℕ) (s : Status) (before now : Option (List ℕ)) : Type 0 where
  pub done : List ℕ
  pub taken : Appends before now done
  pub stopped : IsStopped first left got done
  pub unwritten : s ≡ WriteFault → IsUnwritten first left got done

-- more bytes were taken, up to `got`; where that stopped the run, some bytes behind them were read besides
abbrev pub Reaches : Machine → List ℕ → List ℕ → LineState → Option (List ℕ) → Option (List ℕ) → Result Turned Status → Type 0
Reaches first got behind line before now (Ok h) = IsAt first got h.machine line before now
Reaches first got behind line before now (Err s) = (left : List ℕ) → IsHalted first left (got ++ behind) s before now

-- the same of the last bytes within the limit of a stream
abbrev pub Overruns : Machine → List ℕ → List ℕ → Option (List ℕ) → Option (List ℕ) → Status → Type 0
Overruns first got behind before now TooLong = Appends before now (replies first (whole_lines got))
Overruns first got behind before now Done = ⊥
Overruns first got behind before now s = (left : List ℕ) → IsHalted first left (got ++ behind) s before now

-- the first LF is at an index
pub record LfAt (bytes : List ℕ) (i : ℕ) : Type 0 where
  pub within : i < length bytes
  pub before : HasNoLf (take i bytes)
  pub found : bytes ≡ take i bytes ++ 10 ∷ drop (i + 1) bytes

-- at the end of the stream nothing is left
pub record Finishes (first : Machine) (got : List ℕ) (before now : Option (List ℕ)) (s : Status) : Type 0 where
  pub done : List ℕ
  pub taken : Appends before now done
  pub ends : Ends s first [] got done
