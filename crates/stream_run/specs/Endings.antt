-- What a run over a stream leaves, by how it ended. A source and a sink need not tell their bytes; then nothing is said of them.
use Rattle.std.specs.Prelude.{◌≡◌, ℕ, ◌+◌, ◌^◌, ◌≤◌, ◌<◌, List, [], ◌∷◌, ◌++◌, length, Option, Some, None, false}
use Rattle.std.proofs.Common.{take}
use Rattle.std.specs.Io.KnownBytes.{Appends}
use Rattle.host_machine.specs.Machine.{Machine}
use Rattle.stream_run.specs.Lines.{whole_lines, lines, is_blank}
use Rattle.stream_run.specs.Runs.{line_answer, replies, after}

pub record IsPrefix (done whole : List ℕ) : Type 0 where
  pub rest : List ℕ
  pub joined : done ++ rest ≡ whole

-- Of the bytes `all` that a source had, `got` were read and `left` are left, and the sink took `done`. Of a stream of more
-- than 2^48 bytes only one byte more is read.
pub record Run (all left : List ℕ) (begun now : Option (List ℕ)) (Ends : List ℕ → List ℕ → Type 0) : Type 0 where
  pub got : List ℕ
  pub done : List ℕ
  pub read : all ≡ got ++ left
  pub bounded : length got ≤ 2 ^ 48 + 1
  pub taken : Appends begun now done
  pub ends : Ends got done

-- where the source tells its bytes, it still does, and a run of them ends so
abbrev pub Ran : Option (List ℕ) → Option (List ℕ) → Option (List ℕ) → Option (List ℕ) → (List ℕ → List ℕ → List ℕ → Type 0) → Type 0
Ran None left begun now Ends = Unit {0}
Ran (Some all) None begun now Ends = ⊥
Ran (Some all) (Some left) begun now Ends = Run all left begun now (Ends left)

-- served to the end: nothing is left of a stream within its limit, and each line is answered
pub record IsServed (first : Machine) (left got done : List ℕ) : Type 0 where
  pub nothing : left ≡ []
  pub within : length got ≤ 2 ^ 48
  pub answered : done ≡ replies first (lines got)

-- stopped early: what was taken is a prefix of the answers to the whole stream
abbrev pub IsStopped : Machine → List ℕ → List ℕ → List ℕ → Type 0
IsStopped first left got done = IsPrefix done (replies first (lines (got ++ left)))

-- stopped by the source: the lines whose LF was read are answered
abbrev pub IsUnread : Machine → List ℕ → List ℕ → List ℕ → Type 0
IsUnread first left got done = done ≡ replies first (whole_lines got)

-- Stopped by the sink, at a line of the stream that is not blank: the lines before it are answered whole, and the line
-- itself in part. Of what was read, at most 65,536 bytes lie behind it.
pub record IsUnwritten (first : Machine) (left got done : List ℕ) : Type 0 where
  pub earlier : List (List ℕ)
  pub line : List ℕ
  pub later : List (List ℕ)
  pub whole : lines (got ++ left) ≡ earlier ++ line ∷ later
  pub spoken : is_blank line ≡ false
  pub part : List ℕ
  pub answered : done ≡ replies first earlier ++ part
  pub in_part : IsPrefix part (line_answer (after first earlier) line)
  pub front : List ℕ
  pub behind : List ℕ
  pub read : got ≡ front ++ behind
  pub last : lines front ≡ earlier ++ line ∷ []
  pub near : length behind ≤ 65536

-- stopped by the limit of a stream: it has more than 2^48 bytes, and the lines whose LF is among the first 2^48 are answered
pub record IsOverlong (first : Machine) (left got done : List ℕ) : Type 0 where
  pub longer : 2 ^ 48 < length (got ++ left)
  pub answered : done ≡ replies first (whole_lines (take (2 ^ 48) (got ++ left)))
