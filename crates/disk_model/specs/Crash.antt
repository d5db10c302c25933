-- What a crash leaves, of three kinds among those that the rules of a disk allow.
use Rattle.std.specs.Prelude.{ℕ, suc, ◌+◌, Bool, true, false, ◌&&◌, ◌||◌, nat_le, nat_lt, if◌then◌else◌, List, [], ◌∷◌, length, take, drop}
use Rattle.disk_model.specs.Memory.{after_calls}
use Rattle.disk_model.specs.declared.call.DiskCall.{DiskCall}
use Rattle.disk_model.specs.declared.call.DiskCall.TheVariants.{Looked, Wrote, WriteFailed, CutOff, CutFailed, Synced}
use Rattle.disk_model.specs.declared.crash.Crash.{Crash}
use Rattle.disk_model.specs.declared.crash.Crash.TheVariants.{Lost, Kept, Filled}

-- whether a place is one of the n from `at` on
abbrev pub is_in : ℕ → ℕ → ℕ → Bool
is_in at n place = nat_le at place && nat_lt place (at + n)

-- whether a call is a write that covers the place, done or not
abbrev pub covers : DiskCall → ℕ → Bool
covers Looked place = false
covers (Wrote at piece) place = is_in at (length piece) place
covers (WriteFailed at n) place = is_in at n place
covers (CutOff end) place = false
covers (CutFailed end) place = false
covers Synced place = false

-- whether a write among the calls covers the place
abbrev pub are_covered : List DiskCall → ℕ → Bool
are_covered [] place = false
are_covered (call ∷ calls) place = covers call place || are_covered calls place

-- the bytes from a place on, with b at each place that has the test
abbrev pub filled_from : ℕ → (ℕ → Bool) → ℕ → List ℕ → List ℕ
filled_from place test b [] = []
filled_from place test b (byte ∷ bytes) = (if test place then b else byte) ∷ filled_from (place + 1) test b bytes

-- whether a call is a sync (`fsync` of POSIX) that succeeded
abbrev pub succeeds_as_sync : DiskCall → Bool
succeeds_as_sync Looked = false
succeeds_as_sync (Wrote at piece) = false
succeeds_as_sync (WriteFailed at n) = false
succeeds_as_sync (CutOff end) = false
succeeds_as_sync (CutFailed end) = false
succeeds_as_sync Synced = true

-- how many of the calls came up to the last sync that succeeded, none where there was none
abbrev pub synced_count : List DiskCall → ℕ
synced_count [] = 0
synced_count (call ∷ calls) = if succeeds_as_sync call || nat_lt 0 (synced_count calls) then suc (synced_count calls) else 0

-- what a crash leaves: what a read gave after the last sync; what a read gives; the same with b where writes since that sync went
abbrev pub crashed : Crash → List ℕ → List DiskCall → List ℕ
crashed Lost first calls = after_calls first (take (synced_count calls) calls)
crashed Kept first calls = after_calls first calls
crashed (Filled b) first calls = filled_from 0 (are_covered (drop (synced_count calls) calls)) b (after_calls first calls)
