-- A line that has not ended yet, and what is kept of it.
use Rattle.std.specs.Prelude.{◌≡◌, ℕ, List, Bool, length}
use Rattle.std.proofs.Common.{take}
use Rattle.stream_run.specs.Lines.{is_blank}

-- a front of the line, its length, and whether it is blank
pub record LineState : Type 0 where
  pub kept : List ℕ
  pub size : ℕ
  pub blank : Bool

-- one byte more than a line may have is kept at most
pub record Holds (state : LineState) (line : List ℕ) : Type 0 where
  pub kept : state.kept ≡ take 1048577 line
  pub size : state.size ≡ length line
  pub blank : state.blank ≡ is_blank line
