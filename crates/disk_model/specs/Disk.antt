-- What the calls of a disk do to its bytes, as POSIX has them of a file, and what a crash may leave, which POSIX leaves open.
use Rattle.std.specs.Prelude.{◌≡◌, ◌⊎◌, ℕ, ◌+◌, ◌≤◌, min, List, ◌++◌, length, take, drop, Option, Some}

-- the bytes after a write of a piece at a place (`write` of POSIX)
abbrev pub written : ℕ → List ℕ → List ℕ → List ℕ
written at piece bytes = take at bytes ++ piece ++ drop (at + length piece) bytes

-- an image after a write of n bytes, done or not: any bytes in the place of the range, fewer than n only at the end
pub record Torn (at n : ℕ) (old new : List ℕ) : Type 0 where
  pub middle : List ℕ
  pub is : new ≡ take at old ++ middle ++ drop (at + n) old
  pub no_more : length middle ≤ n
  pub no_shorter : length old ≤ length new

-- an image after a write of n bytes and one of m bytes, each done or not
pub record TornTwice (at n then_at m : ℕ) (old new : List ℕ) : Type 0 where
  pub between : List ℕ
  pub first : Torn at n old between
  pub second : Torn then_at m between new

-- an image after a cut (`ftruncate` of POSIX), done or not: an end between the old one and the new
pub record Cut (end : ℕ) (old new : List ℕ) : Type 0 where
  pub front : new ≡ take (length new) old
  pub no_shorter : min (length old) end ≤ length new

-- each image now is one of those before, after a step
abbrev pub Follows : (List ℕ → List ℕ → Type 0) → (List ℕ → Type 0) → (List ℕ → Type 0) → Type 0
Follows step before now = (image : List ℕ) → now image → (old : List ℕ) × before old × step old image

-- each image now is one of those before
abbrev pub AddsNone : (List ℕ → Type 0) → (List ℕ → Type 0) → Type 0
AddsNone before now = (image : List ℕ) → now image → before image

-- each image that a crash now may leave is what a read gives, as after a sync (`fsync` of POSIX)
pub record IsSettled {D : Type 0} (told : D → Option (List ℕ)) (may_leave : D → List ℕ → Type 0) (disk : D) : Type 0 where
  pub only : (image : List ℕ) → may_leave disk image → told disk ≡ Some image

-- the clock goes on: a crash since a time may have left what it may have left before, or what it may leave now
pub record Elapses {D : Type 0} (moment : D → ℕ) (left_since : D → ℕ → List ℕ → Type 0) (may_leave : D → List ℕ → Type 0) (old new : D) : Type 0 where
  pub later : moment old ≤ moment new
  pub nothing_else : (t : ℕ) (image : List ℕ) → t ≤ moment old → left_since new t image → left_since old t image ⊎ may_leave new image
  pub keeps : (t : ℕ) (image : List ℕ) → t ≤ moment old → left_since old t image → left_since new t image

-- a crash at any moment since old, now included, leaves an image that has P
pub record LeavesOnly {D : Type 0} (moment : D → ℕ) (left_since : D → ℕ → List ℕ → Type 0) (may_leave : D → List ℕ → Type 0) (old new : D) (P : List ℕ → Type 0) : Type 0 where
  pub later : moment old ≤ moment new
  pub each : (image : List ℕ) → left_since new (moment old) image → P image
  pub now : (image : List ℕ) → may_leave new image → P image
  -- for a run that began earlier
  pub before : (t : ℕ) (image : List ℕ) → t ≤ moment old → left_since new t image → left_since old t image ⊎ P image
