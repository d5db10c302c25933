-- A disk in memory: what a read gives and what a crash may leave, by the calls that it keeps.
use Rattle.std.specs.Prelude.{◌≡◌, ◌⊎◌, ℕ, ◌≤◌, List, [], ◌∷◌, ◌++◌, length, take, Option, Some, Result, IsErr, OnOk, OnErr, Contains}
use Rattle.io_edges.specs.Causes.{next_count}
use Rattle.disk_model.specs.Disk.{written, Torn, Cut}
use Rattle.disk_model.specs.declared.call.DiskCall.{DiskCall}
use Rattle.disk_model.specs.declared.call.DiskCall.TheVariants.{Looked, Wrote, WriteFailed, CutOff, CutFailed, Synced}

-- what a read gives after a call: a write, a cut and a sync as `write`, `ftruncate` and `fsync` of POSIX
abbrev pub after_call : List ℕ → DiskCall → List ℕ
after_call bytes Looked = bytes
after_call bytes (Wrote at piece) = written at piece bytes
after_call bytes (WriteFailed at n) = bytes
after_call bytes (CutOff end) = take end bytes
after_call bytes (CutFailed end) = bytes
after_call bytes Synced = bytes

-- what a read gives after calls
abbrev pub after_calls : List ℕ → List DiskCall → List ℕ
after_calls bytes [] = bytes
after_calls bytes (call ∷ calls) = after_calls (after_call bytes call) calls

-- the images after a call, by those before it and what a read gave
abbrev pub MayLeaveAfter : List ℕ → DiskCall → (List ℕ → Type 0) → List ℕ → Type 0
MayLeaveAfter bytes Looked before image = before image
MayLeaveAfter bytes (Wrote at piece) before image = (old : List ℕ) × before old × Torn at (length piece) old image
MayLeaveAfter bytes (WriteFailed at n) before image = (old : List ℕ) × before old × Torn at n old image
MayLeaveAfter bytes (CutOff end) before image = (old : List ℕ) × before old × Cut end old image
MayLeaveAfter bytes (CutFailed end) before image = (old : List ℕ) × before old × Cut end old image
MayLeaveAfter bytes Synced before image = image ≡ bytes

-- the images after calls, by those before them and what a read gave
abbrev pub IsImage : (List ℕ → Type 0) → List ℕ → List DiskCall → List ℕ → Type 0
IsImage before bytes [] image = before image
IsImage before bytes (call ∷ calls) image = IsImage (MayLeaveAfter bytes call before) (after_call bytes call) calls image

-- the images after calls on a disk that began settled on the first bytes
abbrev pub IsImageOf : List ℕ → List DiskCall → List ℕ → Type 0
IsImageOf first calls image = IsImage (λ (bytes : List ℕ). bytes ≡ first) first calls image

-- the first bytes, all calls, which calls are to fail, how many failed and how many of them for want of memory
pub record DiskState : Type 0 where
  pub first : List ℕ
  pub calls : List DiskCall
  pub listed : List ℕ
  pub faults : ℕ
  pub refused : ℕ

-- what a read gives
abbrev pub bytes_of : DiskState → List ℕ
bytes_of disk = after_calls disk.first disk.calls

-- it is told
abbrev pub told_of : DiskState → Option (List ℕ)
told_of disk = Some (bytes_of disk)

-- the images that a crash now may leave
abbrev pub MayLeave : DiskState → List ℕ → Type 0
MayLeave disk image = IsImageOf disk.first disk.calls image

-- the clock counts the calls
abbrev pub moment_of : DiskState → ℕ
moment_of disk = length disk.calls

-- the images that a crash after so many calls or more may have left
abbrev pub LeftSince : DiskState → ℕ → List ℕ → Type 0
LeftSince disk t image = (k : ℕ) × (t ≤ k) × (k ≤ length disk.calls) × IsImageOf disk.first (take k disk.calls) image

-- the disk after one more call
abbrev pub with_call : DiskState → DiskCall → DiskState
with_call disk call = record disk { calls = disk.calls ++ call ∷ [] }

-- the disk after a call that failed
abbrev pub with_failed : DiskState → DiskCall → DiskState
with_failed disk call = record disk { calls = disk.calls ++ call ∷ []; faults = next_count disk.faults }

-- the disk after a call for which memory was refused: it is counted, and is none of the disk's calls
abbrev pub with_refused : DiskState → DiskState
with_refused disk = record disk { faults = next_count disk.faults; refused = next_count disk.refused }

-- the disk keeps a call as done, as failed where its number is listed, or is refused memory for it
pub record KeepsCall {T E : Type 0} (old new : DiskState) (done failed : DiskCall) (result : Result T E) : Type 0 where
  pub at_listed : Contains old.listed (length old.calls) → IsErr result
  pub ok : OnOk result (new ≡ with_call old done)
  pub err : OnErr result ((Contains old.listed (length old.calls) × (new ≡ with_failed old failed)) ⊎ (new ≡ with_refused old))
  -- the counts don't fall
  pub faults_later : old.faults ≤ new.faults
  pub refused_later : old.refused ≤ new.refused
