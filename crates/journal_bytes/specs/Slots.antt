-- The record of two slots: each is open or closed, has a number, and names the start of an area.
use Rattle.std.specs.Prelude.{ℕ, ◌+◌, ◌==◌, ◌%◌, Bool, true, false, ◌&&◌, List, [], ◌∷◌, ◌++◌, Option, Some, None, if◌then◌else◌}
use Rattle.std.specs.Int.{w64, to_be_bytes}
use Rattle.value_bytes_spec.specs.Reading.{◌>>=◌, number_at}

-- a slot: whether it is open, its number, and where its area starts
pub record Slot : Type 0 where
  pub opened : Bool
  pub number : ℕ
  pub start : ℕ

-- the gate of an open slot, or of a closed one
abbrev pub gate_byte : Bool → ℕ
gate_byte true = 1
gate_byte false = 0

-- a slot in 10 bytes
abbrev pub slot_bytes : Slot → List ℕ
slot_bytes s = gate_byte s.opened ∷ s.number ∷ to_be_bytes w64 s.start

-- a slot that was never used
abbrev pub no_slot : Slot
no_slot = record { opened = false; number = 0; start = 0 }

unfoldable pub slot_at : List ℕ → Option (Slot × List ℕ)
slot_at [] = None
slot_at (gate ∷ []) = None
slot_at (gate ∷ number ∷ bytes) = do
  start ← number_at w64 bytes
  Some (record { opened = gate == 1; number = number; start = start.0 }, start.1)

unfoldable pub slots_at : List ℕ → Option ((Slot × Slot) × List ℕ)
slots_at bytes = do
  one ← slot_at bytes
  two ← slot_at one.1
  Some ((one.0, two.0), two.1)

-- whether a slot's number is the other's successor
abbrev pub succeeds : Slot → Slot → Bool
succeeds a b = a.number == (b.number + 1) % 4

-- The present slot, and whether it is the second: the open one; of two open ones the other's successor. Of the slot that is not present neither
-- number nor start counts, where it is closed.
unfoldable pub present : Slot × Slot → Option (Bool × Slot)
present s =
    if s.0.opened && s.1.opened then (if succeeds s.0 s.1 then Some (false, s.0) else (if succeeds s.1 s.0 then Some (true, s.1) else None)) else (
    if s.0.opened then Some (false, s.0) else (if s.1.opened then Some (true, s.1) else None))
