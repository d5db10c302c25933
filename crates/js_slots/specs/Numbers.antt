-- Numbers by tokens.
use Rattle.script_names.specs.Slots.{declarations, slots}
use Rattle.std.specs.Prelude.{◌≡◌, length, ℕ, if◌then◌else◌, ◌==◌, List, [], ◌∷◌, Option, Some, None}
use Rattle.std.specs.Ordering.{nat_cmp}
use Rattle.std.specs.BTreeMap.{BTreeMap, get}
use Rattle.js_slots.specs.declared.places.Places.{Places}
use Rattle.js_slots.specs.declared.slots.Slots.{Slots}

abbrev pub Map : Type 0
Map = BTreeMap ℕ ℕ

abbrev pub or_count : Option ℕ → ℕ → ℕ
or_count None n = n
or_count (Some k) n = k

-- the place of a declaration, and for others how many there are
abbrev pub place_in : Places → ℕ → ℕ
place_in p d = or_count (get nat_cmp p.numbers d) p.count

abbrev pub number_in : Slots → ℕ → Option ℕ
number_in s token = get nat_cmp s.numbers token

-- the first number that stands beside the token
abbrev pub slot_at : List (ℕ × ℕ) → ℕ → Option ℕ
slot_at [] token = None
slot_at (n ∷ ns) token = if n.0 == token then Some n.1 else slot_at ns token

-- the slots of a reducer whose names belong to these declarations
abbrev pub Numbers : List (ℕ × ℕ) → Slots → Type 0
Numbers found s = ((token : ℕ) → number_in s token ≡ slot_at (slots found) token) × (s.count ≡ length (declarations found))

-- the slots of each reducer
abbrev pub HaveSlots : List (List (ℕ × ℕ)) → List Slots → Type 0
HaveSlots [] [] = Unit {0}
HaveSlots (f ∷ fs) (s ∷ ss) = Numbers f s × HaveSlots fs ss
HaveSlots _ _ = ⊥
