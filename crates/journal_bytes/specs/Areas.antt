-- An area: a durable history in bytes, up to the gate of the first record behind it.
use Rattle.std.specs.Prelude.{◌≡◌, ℕ, zero, suc, ◌==◌, Bool, IsTrue, List, [], ◌∷◌, ◌++◌, length, Option, Some, None, if◌then◌else◌}
use Rattle.std.specs.Int.{w32, w64, to_be_bytes}
use Rattle.std.specs.List.{AllByRecursion}
use Rattle.value_model.specs.Plain.{Plain}
use Rattle.value_bytes_spec.specs.Reading.{◌>>=◌, number_at, value_at}
use Rattle.value_bytes_spec.specs.Spelling.{text_bytes, value_bytes, IsValue}
use Rattle.journal_bytes.specs.History.{History, Step, is_sound}
use Rattle.journal_bytes.specs.Records.{CanHold, format_byte, step_bytes, sized_at, whole, step_at}
use Rattle.journal_bytes.specs.declared.change.Format.{Format}
use Rattle.journal_bytes.specs.declared.change.Format.TheVariants.{One, Two}

-- ---- spelling

-- entries, each behind its length; the one that is taken next stands last
abbrev pub entries_bytes : Format → List Step → List ℕ
entries_bytes format [] = []
entries_bytes format (e ∷ es) = entries_bytes format es ++ text_bytes (step_bytes format e)

-- the count of entries, and the entries
abbrev pub counted_bytes : Format → List Step → List ℕ
counted_bytes format es = to_be_bytes w32 (length es) ++ entries_bytes format es

-- the state, the sequence number, and the entries of past and future
abbrev pub history_bytes : Format → History → List ℕ
history_bytes format h = text_bytes (value_bytes h.state) ++ (to_be_bytes w64 h.seq ++ (counted_bytes format h.past ++ counted_bytes format h.future))

-- an area without its gate
abbrev pub area_bytes : Format → History → List ℕ
area_bytes format h = format_byte format ∷ history_bytes format h

-- a history that an area of this format may hold
pub record CanStore (format : Format) (h : History) : Type 0 where
  pub sound : IsTrue (is_sound h)
  pub state : IsValue h.state
  pub past : AllByRecursion (CanHold format) h.past
  pub future : AllByRecursion (CanHold format) h.future

-- ---- reading

-- the format that a byte names
abbrev pub format_of : ℕ → Option Format
format_of b = if b == 1 then Some One else (if b == 2 then Some Two else None)

-- a value behind its length
unfoldable pub state_at : List ℕ → Option (Plain × List ℕ)
state_at bytes = do
  body ← sized_at bytes
  v ← whole (value_at body.0)
  Some (v, body.1)

-- an entry behind its length
unfoldable pub kept_at : Format → List ℕ → Option (Step × List ℕ)
kept_at format bytes = do
  body ← sized_at bytes
  e ← whole (step_at format body.0)
  Some (e, body.1)

-- n entries, put in front of those before them
unfoldable pub entries_onto : Format → ℕ → List Step → List ℕ → Option (List Step × List ℕ)
entries_onto format zero es bytes = Some (es, bytes)
entries_onto format (suc n) es bytes = do
  e ← kept_at format bytes
  entries_onto format n (e.0 ∷ es) e.1

-- the count of entries, and the entries
unfoldable pub counted_at : Format → List ℕ → Option (List Step × List ℕ)
counted_at format bytes = do
  n ← number_at w32 bytes
  entries_onto format n.0 [] n.1

-- a history that is sound
abbrev pub sound_if : History → Option History
sound_if h = if is_sound h then Some h else None

-- a state, its sequence number, and the entries of past and future
unfoldable pub history_at : Format → List ℕ → Option (History × List ℕ)
history_at format bytes = do
  state ← state_at bytes
  seq ← number_at w64 state.1
  past ← counted_at format seq.1
  future ← counted_at format past.1
  h ← sound_if (record { state = state.0; past = past.0; future = future.0; seq = seq.0 })
  Some (h, future.1)

-- an area: the byte of its format, and a history
unfoldable pub area_at : List ℕ → Option ((Format × History) × List ℕ)
area_at [] = None
area_at (b ∷ bytes) = do
  format ← format_of b
  h ← history_at format bytes
  Some ((format, h.0), h.1)
