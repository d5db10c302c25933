-- The bytes of a journal's records, in both formats. Numbers are big-endian; a length has 4 bytes.
use Rattle.std.specs.Prelude.{◌≡◌, ℕ, ◌==◌, ◌+◌, ◌^◌, ◌<◌, nat_lt, Bool, true, false, ◌&&◌, IsTrue, List, [], ◌∷◌, ◌++◌, length, take, drop, Option, Some, None, if◌then◌else◌}
use Rattle.std.specs.Int.{w32}
use Rattle.values.specs.declared.patch.Pair.{Pair}
use Rattle.value_bytes_spec.specs.Reading.{◌>>=◌, number_at, pair_at}
use Rattle.value_bytes_spec.specs.Spelling.{text_bytes, pair_bytes, IsPair}
use Rattle.journal_bytes.specs.History.{Step, is_name, is_name_or_none}
use Rattle.journal_bytes.specs.declared.change.Change.{Change}
use Rattle.journal_bytes.specs.declared.change.Change.TheVariants.{Made, Undone, Redone}
use Rattle.journal_bytes.specs.declared.change.Format.{Format}
use Rattle.journal_bytes.specs.declared.change.Format.TheVariants.{One, Two}

-- ---- spelling

-- the byte of a format, in a header and at the front of an area
abbrev pub format_byte : Format → ℕ
format_byte One = 1
format_byte Two = 2

-- the name in front of a pair: none in format 1; in format 2 an empty one where there is none
abbrev pub name_bytes : Format → Option (List ℕ) → List ℕ
name_bytes One by = []
name_bytes Two None = text_bytes []
name_bytes Two (Some name) = text_bytes name

-- an entry
abbrev pub step_bytes : Format → Step → List ℕ
step_bytes format e = name_bytes format e.by ++ pair_bytes e.pair

-- the byte of a kind of record
abbrev pub kind_byte : Change → ℕ
kind_byte (Made pair by) = 1
kind_byte Undone = 2
kind_byte Redone = 3

-- what a record holds
abbrev pub body_bytes : Format → Change → List ℕ
body_bytes format (Made pair by) = step_bytes format (record { pair = pair; by = by })
body_bytes format Undone = []
body_bytes format Redone = []

-- a record behind its gate: its kind, and its bytes behind their length
abbrev pub record_bytes : Format → Change → List ℕ
record_bytes format change = kind_byte change ∷ text_bytes (body_bytes format change)

-- ---- what has a spelling

-- a name only where the format has them
abbrev pub fits : Format → Option (List ℕ) → Bool
fits One None = true
fits One (Some name) = false
fits Two by = is_name_or_none by

-- an entry that a record or an area of this format may hold; a record has fewer than 39,000,000 bytes
pub record CanHold (format : Format) (e : Step) : Type 0 where
  pub lists : IsPair e.pair
  pub name : IsTrue (fits format e.by)
  pub short : length (step_bytes format e) < 38999990

-- a change that a record of this format may hold
abbrev pub CanRecord : Format → Change → Type 0
CanRecord format (Made pair by) = CanHold format (record { pair = pair; by = by })
CanRecord format Undone = Unit {0}
CanRecord format Redone = Unit {0}

-- ---- reading

-- so many bytes, and those behind them
unfoldable pub front_at : ℕ → List ℕ → Option (List ℕ × List ℕ)
front_at n bytes = if nat_lt (length bytes) n then None else Some (take n bytes, drop n bytes)

-- a length and that many bytes
unfoldable pub sized_at : List ℕ → Option (List ℕ × List ℕ)
sized_at bytes = do
  n ← number_at w32 bytes
  front_at n.0 n.1

-- the record behind an open gate: its kind, its bytes, and what stands behind it
unfoldable pub record_at : List ℕ → Option ((ℕ × List ℕ) × List ℕ)
record_at [] = None
record_at (kind ∷ bytes) = do
  body ← sized_at bytes
  Some ((kind, body.0), body.1)

-- what all of the bytes are
abbrev pub whole : {A : Type 0} → Option (A × List ℕ) → Option A
whole None = None
whole (Some (x, [])) = Some x
whole (Some (x, b ∷ rest)) = None

-- a name, or an empty one
abbrev pub name_or_none : List ℕ → Option (Option (List ℕ))
name_or_none [] = Some None
name_or_none (b ∷ rest) = if is_name (b ∷ rest) then Some (Some (b ∷ rest)) else None

-- the name in front of a pair
unfoldable pub name_at : Format → List ℕ → Option (Option (List ℕ) × List ℕ)
name_at One bytes = Some (None, bytes)
name_at Two bytes = do
  text ← sized_at bytes
  by ← name_or_none text.0
  Some (by, text.1)

-- an entry
unfoldable pub step_at : Format → List ℕ → Option (Step × List ℕ)
step_at format bytes = do
  by ← name_at format bytes
  pair ← pair_at by.1
  Some (record { pair = pair.0; by = by.0 }, pair.1)

-- a change of the state
abbrev pub made_of : Format → List ℕ → Option Change
made_of format body = do
  e ← whole (step_at format body)
  Some (Made e.pair e.by)

-- no bytes
abbrev pub bare : Change → List ℕ → Option Change
bare change [] = Some change
bare change (b ∷ rest) = None

-- the change that a record holds
unfoldable pub change_of : Format → ℕ → List ℕ → Option Change
change_of format kind body = if kind == 1 then made_of format body else (if kind == 2 then bare Undone body else (if kind == 3 then bare Redone body else None))
