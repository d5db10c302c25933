-- The laws of a disk for the one in memory.
use Rattle.std.specs.Prelude.{◌≡◌, ℕ, ◌≤◌, List, [], ◌∷◌, length, refl}
use Rattle.std.proofs.Common.{sym, subst}
use Rattle.std.proofs.Math.Nat.{le_refl}
use Rattle.std.proofs.Math.Seq.{take-length}
use Rattle.std.proofs.lemmas.List.{take_all}
use Rattle.disk_model.specs.Images.{torn_same, torn_middle, cut_same, cut_done}
use Rattle.disk_model.specs.Memory.{DiskState, after_call, after_calls, MayLeaveAfter, IsImage, IsImageOf, MayLeave, LeftSince, moment_of, bytes_of}
use Rattle.disk_model.specs.declared.call.DiskCall.{DiskCall}
use Rattle.disk_model.specs.declared.call.DiskCall.TheVariants.{Looked, Wrote, WriteFailed, CutOff, CutFailed, Synced}

-- what a read gives after a call is an image, if it was one before
read_after : (before : List ℕ → Type 0) (bytes : List ℕ) (call : DiskCall) → before bytes → MayLeaveAfter bytes call before (after_call bytes call)
read_after before bytes Looked has = has
read_after before bytes (Wrote at piece) has = (bytes, has, torn_middle at (length piece) piece bytes refl)
read_after before bytes (WriteFailed at n) has = (bytes, has, torn_same at n bytes)
read_after before bytes (CutOff end) has = (bytes, has, cut_done end bytes)
read_after before bytes (CutFailed end) has = (bytes, has, cut_same end bytes)
read_after before bytes Synced has = refl

pub read_after_calls : (before : List ℕ → Type 0) (bytes : List ℕ) (calls : List DiskCall) → before bytes → IsImage before bytes calls (after_calls bytes calls)
read_after_calls before bytes [] has = has
read_after_calls before bytes (call ∷ calls) has = read_after_calls (MayLeaveAfter bytes call before) (after_call bytes call) calls (read_after before bytes call has)

-- what a read gives is an image
pub reads_image : (disk : DiskState) → MayLeave disk (bytes_of disk)
reads_image disk = read_after_calls (λ (bytes : List ℕ). bytes ≡ disk.first) disk.first disk.calls refl

-- the images of now are among those since a time
pub now_counts : (disk : DiskState) (t : ℕ) (image : List ℕ) → t ≤ moment_of disk → MayLeave disk image → LeftSince disk t image
now_counts disk t image le now =
    (length disk.calls, le, le_refl (length disk.calls), subst (λ (calls : List DiskCall). IsImageOf disk.first calls image) (sym (take-length disk.calls)) now)

-- since now there are no others
pub now_only : (disk : DiskState) (image : List ℕ) → LeftSince disk (moment_of disk) image → MayLeave disk image
now_only disk image left = subst (λ (calls : List DiskCall). IsImageOf disk.first calls image) (take_all left.0 disk.calls left.1) left.3
