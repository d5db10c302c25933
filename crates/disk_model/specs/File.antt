-- A disk over a file of POSIX or over none, as contracts see it.
use Rattle.std.specs.Prelude.{◌≡◌, ℕ, Bool, false, Result, IsErr}
use Rattle.io_edges.specs.Causes.{CountsFaults}

-- whether there is a file, and how many calls failed
pub record FileState : Type 0 where
  pub is_open : Bool
  pub faults : ℕ

-- each failed call and no other is counted, and without a file each call fails
pub record FailsIfMissing {T E : Type 0} (old new : FileState) (result : Result T E) : Type 0 where
  pub counts : CountsFaults old.faults new.faults result
  pub missing : old.is_open ≡ false → IsErr result
  pub same : new.is_open ≡ old.is_open
