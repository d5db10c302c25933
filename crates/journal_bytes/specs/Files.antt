-- What a journal file stands for. It is a header and a chain of records, each behind a gate: 1 is open, any other byte
-- closed, and what stands behind a closed gate doesn't count. One record of the chain may hold two slots; the chain then goes on behind the area that
-- the present slot names.
use Rattle.std.specs.Prelude.{◌≡◌, ℕ, zero, suc, ◌==◌, ◌+◌, ◌-◌, ◌*◌, ◌^◌, ◌≤◌, nat_le, Bool, true, false, ◌&&◌, List, [], ◌∷◌, ◌++◌, length, take, drop, Option, Some, None, codes, if◌then◌else◌}
use Rattle.std.specs.Option.{is_none}
use Rattle.std.specs.Str.{bytes_eq}
use Rattle.value_model.specs.Limits.{state_limit}
use Rattle.value_model.specs.Plain.{Plain}
use Rattle.value_bytes_spec.specs.Reading.{◌>>=◌, value_at}
use Rattle.value_bytes_spec.specs.Spelling.{text_bytes, value_bytes}
use Rattle.journal_bytes.specs.History.{History, begun, changed, is_sound}
use Rattle.journal_bytes.specs.Records.{format_byte, body_bytes, sized_at, record_at, whole, change_of}
use Rattle.journal_bytes.specs.Areas.{format_of, area_at}
use Rattle.journal_bytes.specs.Slots.{Slot, slots_at, present}
use Rattle.journal_bytes.specs.declared.change.Change.{Change}
use Rattle.journal_bytes.specs.declared.change.Format.{Format}
use Rattle.journal_bytes.specs.declared.slots.Slots.{Slots}

-- Where a chain of records was read to: the format of the records, how many of them there were behind the header or the present area, where the
-- next gate stands, where the first one stood, and the slots.
pub record Spot : Type 0 where
  pub format : Format
  pub records : ℕ
  pub gate : ℕ
  pub first : ℕ
  pub slots : Option Slots

-- how far a file was read, and the history so far
pub record Place : Type 0 where
  pub spot : Spot
  pub history : History

abbrev pub placed : Spot → History → Place
placed s h = record { spot = s; history = h }

-- behind a record whose gates are so far apart
abbrev pub behind : Spot → ℕ → Spot
behind s n = record { format = s.format; records = s.records + 1; gate = s.gate + n; first = s.first; slots = s.slots }

-- behind a record of this change
abbrev pub behind_change : Spot → Change → Spot
behind_change s c = behind s (6 + length (body_bytes s.format c))

-- behind the header of a state of so many bytes
abbrev pub header_spot : Format → ℕ → Spot
header_spot format n = record { format = format; records = 0; gate = 14 + n; first = 14 + n; slots = None }

-- at the gate of the area that the present slot names
abbrev pub area_spot : Slots → Spot
area_spot s = record { format = s.format; records = 0; gate = s.start + s.bytes - 1; first = s.start + s.bytes - 1; slots = Some s }

-- what a file is: not made yet; of another making, with the place where that shows; a journal up to its closed gate
pub data Reading : Type 0 where
  unmade : Reading
  foreign : ℕ → Reading
  made : Place → Reading

-- ---- every place stays below 2^63

-- slots that a file may have: every start that is written is within the bound
pub record CanStart (s : Slots) : Type 0 where
  pub number : s.number ≤ 3
  pub at : s.at ≤ 3000000000000000000
  pub behind_slots : s.at + 21 ≤ s.start
  pub start : s.start ≤ 2 ^ 62 + 2 ^ 60
  pub some : 1 ≤ s.bytes
  pub bytes : s.bytes ≤ 2 ^ 32

-- where the first gate behind the header or the present area stands
abbrev pub begins : Option Slots → ℕ → Type 0
begins None first = first ≤ 2 ^ 33
begins (Some s) first = CanStart s × (first ≡ s.start + s.bytes - 1)

-- a record has fewer than 39,000,000 bytes, and a chain at most 2^36 records
pub record IsWithin (s : Spot) : Type 0 where
  pub few : s.records ≤ 2 ^ 36
  pub near : s.first ≤ s.gate
  pub far : s.gate ≤ s.first + 39000000 * s.records
  pub begins : begins s.slots s.first

-- what holds at each place of a made file
pub record IsReached (p : Place) : Type 0 where
  pub sound : is_sound p.history ≡ true
  pub counted : p.spot.records ≤ p.history.seq
  pub within : IsWithin p.spot

-- ---- one record

-- the place behind a record of a change, where the change is allowed
abbrev pub next_place : Place → ℕ × List ℕ → Option Place
next_place p r = do
  change ← change_of p.spot.format r.0 r.1
  h ← changed change p.history
  Some (placed (behind p.spot (6 + length r.1)) h)

-- the slots at a place, of which this one is present, with an area of this length and format
abbrev pub slots_of : ℕ → Bool × Slot → ℕ → Format → Slots
slots_of at s n format = record { at = at; second = s.0; number = s.1.number; start = s.1.start; bytes = n; format = format }

-- at the gate behind an area, where there is one
abbrev pub at_area : ℕ → Bool × Slot → ℕ → (Format × History) × List ℕ → Option Place
at_area at s size (area, []) = None
at_area at s size (area, gate ∷ rest) = Some (placed (area_spot (slots_of at s (size - length rest) area.0)) area.1)

-- the place behind the area that a slot names: it starts from so far on, and not past 2^62 + 2^60
unfoldable pub behind_area : List ℕ → ℕ → Bool × Slot → Option Place
behind_area file at s =
    if nat_le s.1.number 3 && nat_le (at + 21) s.1.start && nat_le s.1.start (2 ^ 62 + 2 ^ 60) then (area_at (drop s.1.start file) >>= at_area at s (length (drop s.1.start file))) else None

-- a byte 0 behind the record
abbrev pub unread : List ℕ → Bool
unread [] = false
unread (b ∷ bytes) = b == 0

-- the place behind the area that the present slot of a record names
abbrev pub jumped : List ℕ → Place → List ℕ → List ℕ → Option Place
jumped file p body rest = do
  slots ← whole (slots_at body)
  s ← present slots
  if unread rest then behind_area file (p.spot.gate + 6) s else None

-- a record of slots, where they may be there and aren't yet
abbrev pub is_slots : Bool → Place → ℕ → Bool
is_slots may p kind = kind == 4 && may && is_none p.spot.slots

-- the place behind the record whose gate stands here
unfoldable pub next : List ℕ → Bool → Place → Option Place
next file may p = do
  r ← record_at (drop (p.spot.gate + 1) file)
  if is_slots may p r.0.0 then jumped file p r.0.1 r.1 else next_place p r.0

-- ---- the chain of records

-- what follows behind a record; one that is not whole or not allowed shows at its gate
abbrev pub going_on : Place → Option Place → (Place → Reading) → Reading
going_on p None chain = foreign p.spot.gate
going_on p (Some q) chain = chain q

-- by the gate; one that is missing shows at its place
abbrev pub by_gate : Place → List ℕ → Reading → Reading
by_gate p [] opened = foreign p.spot.gate
by_gate p (gate ∷ bytes) opened = if gate == 1 then opened else made p

-- the records from a place on, at most n of them
unfoldable pub chain : List ℕ → Bool → ℕ → Place → Reading
chain file may zero p = foreign p.spot.gate
chain file may (suc n) p = by_gate p (drop p.spot.gate file) (going_on p (next file may p) (chain file may n))

-- all of them: each record has more than one byte
abbrev pub records_at : List ℕ → Bool → Place → Reading
records_at file may p = chain file may (suc (length file)) p

-- ---- the header

-- a state and no other value
abbrev pub state_if : Plain → Option Plain
state_if v = if is_none (state_limit v) then Some v else None

-- the place of the first gate behind the bytes of a state
abbrev pub first_place : Format → List ℕ → Option Place
first_place format bytes = do
  v ← whole (value_at bytes)
  first ← state_if v
  Some (placed (header_spot format (length bytes)) (begun first))

-- a format, and a state behind its length: the place of the first gate, and what stands there
unfoldable pub header_at : List ℕ → Option (Place × List ℕ)
header_at [] = None
header_at (b ∷ bytes) = do
  format ← format_of b
  state ← sized_at bytes
  p ← first_place format state.0
  Some (p, state.1)

-- behind the file gate; a header that is not whole or not in the grammar shows at the byte 9
abbrev pub behind_header : List ℕ → Bool → Option (Place × List ℕ) → Reading
behind_header file may None = foreign 9
behind_header file may (Some x) = records_at file may x.0

-- the bytes behind the first eight: a file gate, and a header
abbrev pub behind_name : List ℕ → Bool → List ℕ → Reading
behind_name file may [] = unmade
behind_name file may (gate ∷ bytes) = if gate == 1 then behind_header file may (header_at bytes) else unmade

abbrev pub name : List ℕ
name = codes "STATEHST"

-- what a file is, and how far it was read, where a record of slots may be there or not
unfoldable pub reading : Bool → List ℕ → Reading
reading may file =
    if nat_le (length file) 9 then unmade else (
    if bytes_eq (take 8 file) name then behind_name file may (drop 8 file) else foreign 0)

-- ---- what it stands for

-- not made yet, of another making, or a durable history
pub data Class : Type 0 where
  Unmade : Class
  Foreign : ℕ → Class
  Holds : History → Class

abbrev pub class_of : Reading → Class
class_of unmade = Unmade
class_of (foreign at) = Foreign at
class_of (made p) = Holds p.history

-- the class of a file that may have slots
abbrev pub class : List ℕ → Class
class file = class_of (reading true file)

-- ---- files as they are made

-- a header up to its first gate
abbrev pub header_bytes : Format → Plain → List ℕ
header_bytes format v = name ++ 1 ∷ format_byte format ∷ text_bytes (value_bytes v)

-- the file is made, and this is its place, whose closed gate is its last byte
pub record StandsAt (p : Place) (file : List ℕ) : Type 0 where
  pub is : reading true file ≡ made p
  pub last : length file ≡ p.spot.gate + 1
