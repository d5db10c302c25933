-- A source and a sink in memory, as contracts see them.
use Rattle.std.specs.Prelude.{ℕ, List}

-- a source: the bytes left, how many calls came, which calls are to fail, how many failed, the most bytes of a call
pub record SourceState : Type 0 where
  pub left : List ℕ
  pub calls : ℕ
  pub listed : List ℕ
  pub faults : ℕ
  pub most : ℕ

-- a sink: the bytes taken, how many calls came, which calls are to fail, how many failed and how many of them for want of memory, the most bytes of a call
pub record SinkState : Type 0 where
  pub taken : List ℕ
  pub calls : ℕ
  pub listed : List ℕ
  pub faults : ℕ
  pub refused : ℕ
  pub most : ℕ
