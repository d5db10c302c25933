-- An adapter over a reader or a writer of std, and a missing file, as contracts see them.
use Rattle.std.specs.Prelude.{ℕ, List, Option}

-- the bytes that the reader has left or the writer has taken, where told, and how many calls failed
pub record EdgeState : Type 0 where
  pub bytes : Option (List ℕ)
  pub faults : ℕ
