-- A disk that stands, with a journal, for a history; a record that is ready for it; and when a checkpoint is due.
use Rattle.std.specs.Prelude.{◌≡◌, ◌⊎◌, ℕ, ◌+◌, ◌-◌, ◌≤◌, ◌<◌, ◌^◌, nat_lt, Bool, true, false, ◌&&◌, ◌||◌, IsTrue, List, [], ◌∷◌, ◌++◌, length, drop, Option, Some, None, IfSome}
use Rattle.disk_model.specs.Disk.{IsSettled}
use Rattle.values.specs.declared.patch.Pair.{Pair}
use Rattle.value_bytes_spec.specs.Spelling.{CanSpell}
use Rattle.journal_bytes.specs.declared.change.Change.{Change}
use Rattle.journal_bytes.specs.declared.change.Change.TheVariants.{Made, Undone, Redone}
use Rattle.journal_bytes.specs.declared.change.Format.{Format}
use Rattle.journal_bytes.specs.declared.change.Format.TheVariants.{One, Two}
use Rattle.journal_bytes.specs.declared.slots.Slots.{Slots}
use Rattle.journal_bytes.specs.History.{History, is_light}
use Rattle.journal_bytes.specs.Records.{record_bytes, CanRecord, fits}
use Rattle.journal_bytes.specs.Files.{Spot, Place, Holds, class, placed, next, StandsAt}

-- the disk tells its bytes, a crash now leaves them and nothing else, and they are a journal up to this place, whose closed gate is the last byte
pub record Stands {D : Type 0} (told : D → Option (List ℕ)) (may_leave : D → List ℕ → Type 0) (disk : D) (p : Place) : Type 0 where
  pub file : List ℕ
  pub tells : told disk ≡ Some file
  pub settled : IsSettled told may_leave disk
  pub place : StandsAt p file

-- the same of a disk that tells its bytes
abbrev pub StandsIfTold : {D : Type 0} → (D → Option (List ℕ)) → (D → List ℕ → Type 0) → D → Place → Type 0
StandsIfTold told may_leave disk p = IfSome (told disk) (λ _. Stands told may_leave disk p)

-- an image holds one of two histories
abbrev pub IsOneOf : History → History → List ℕ → Type 0
IsOneOf h k image = (class image ≡ Holds h) ⊎ (class image ≡ Holds k)

-- bytes behind a gate, a closed gate last: once the gate is open, they lead from one place to another
pub record LeadsTo (p : Place) (bytes : List ℕ) (q : Place) : Type 0 where
  pub body : List ℕ
  pub parts : bytes ≡ body ++ 0 ∷ []
  pub far : q.spot.gate ≡ p.spot.gate + 1 + length body
  pub leads : (front : List ℕ) → length front ≡ p.spot.gate → next (front ++ 1 ∷ bytes) true p ≡ Some q

-- a journal, and the bytes that are to be written behind its closed gate
pub record ReadyState : Type 0 where
  pub spot : Spot
  pub bytes : List ℕ

-- they are the record of a change, and a closed gate
pub record IsReady (r : ReadyState) (change : Change) : Type 0 where
  pub is : r.bytes ≡ record_bytes r.spot.format change ++ 0 ∷ []
  pub can : CanRecord r.spot.format change

-- a pair within its limit, and a name only where the format has them
pub record CanPackPair (format : Format) (pair : Pair) (by : Option (List ℕ)) : Type 0 where
  pub forward : CanSpell pair.forward
  pub inverse : CanSpell pair.inverse
  pub light : IsTrue (is_light pair)
  pub name : IsTrue (fits format by)

-- a change that may be packed
abbrev pub CanPack : Format → Change → Type 0
CanPack format (Made pair by) = CanPackPair format pair by
CanPack format Undone = Unit {0}
CanPack format Redone = Unit {0}

abbrev pub is_one : Format → Bool
is_one One = true
is_one Two = false

-- what the records are measured by: the bytes of the header's state, or the present area's length with its gate
abbrev pub base_of : Option Slots → ℕ → ℕ
base_of None first = first - 14
base_of (Some s) first = s.bytes

-- a checkpoint is due: the records take more than 2^20 bytes and more than that, or they are of format 1
abbrev pub is_due : Spot → Bool
is_due s = is_one s.format || (nat_lt (2 ^ 20) (s.gate - s.first) && nat_lt (base_of s.slots s.first) (s.gate - s.first))
