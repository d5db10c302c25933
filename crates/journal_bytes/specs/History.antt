-- The durable history: what a journal keeps, and which changes are allowed on it.
use Rattle.std.specs.Prelude.{ℕ, ◌+◌, ◌^◌, nat_le, nat_lt, Bool, true, false, not, ◌&&◌, List, [], ◌∷◌, length, take, Option, Some, None, Result, Ok, Err, if◌then◌else◌}
use Rattle.std.specs.List.{list_all}
use Rattle.std.specs.Option.{is_none}
use Rattle.value_model.specs.Limits.{state_limit}
use Rattle.value_model.specs.Plain.{Plain}
use Rattle.values.specs.declared.patch.Patch.{Patch}
use Rattle.values.specs.declared.patch.Pair.{Pair}
use Rattle.patch_meaning.specs.Applying.{Fault, applied}
use Rattle.value_bytes_spec.specs.Reading.{◌>>=◌}
use Rattle.value_measures.specs.Same.{is_same}
use Rattle.value_measures.specs.Weights.{patches_weight}
use Rattle.script_text.specs.Lexical.{begins_word, in_word}
use Rattle.script_text.specs.Words.{reserved_of}
use Rattle.journal_bytes.specs.declared.change.Change.{Change}
use Rattle.journal_bytes.specs.declared.change.Change.TheVariants.{Made, Undone, Redone}

-- an entry: the patches of a change, there and back, and the name of its reducer, where one is kept
pub record Step : Type 0 where
  pub pair : Pair
  pub by : Option (List ℕ)

-- the plain state, the changes that undo and redo take, the next one first, and how many records led here
pub record History : Type 0 where
  pub state : Plain
  pub past : List Step
  pub future : List Step
  pub seq : ℕ

-- the history of a first state
abbrev pub begun : Plain → History
begun v = record { state = v; past = []; future = []; seq = 0 }

-- ---- what an entry may be

abbrev pub begins_name : List ℕ → Bool
begins_name [] = false
begins_name (b ∷ rest) = begins_word b

-- a word of scripts that is not reserved, of at most 2^20 bytes
unfoldable pub is_name : List ℕ → Bool
is_name name = nat_le (length name) (2 ^ 20) && begins_name name && list_all in_word name && is_none (reserved_of name)

-- a name, or none
abbrev pub is_name_or_none : Option (List ℕ) → Bool
is_name_or_none None = true
is_name_or_none (Some name) = is_name name

-- both lists together weigh at most 2^22
abbrev pub is_light : Pair → Bool
is_light pair = nat_le (patches_weight pair.forward + patches_weight pair.inverse) (2 ^ 22)

-- ---- where patches lead

-- the state that was reached, where it is one
abbrev pub accepted : Result Plain Fault → Option Plain
accepted (Err f) = None
accepted (Ok v) = if is_none (state_limit v) then Some v else None

-- the state that patches lead to
unfoldable pub led : List Patch → Plain → Option Plain
led patches v = accepted (applied patches v)

abbrev pub is_value : Plain → Result Plain Fault → Bool
is_value v (Ok w) = is_same v w
is_value v (Err f) = false

-- whether patches lead from one value to another
unfoldable pub leads_to : List Patch → Plain → Plain → Bool
leads_to patches v w = is_value w (applied patches v)

-- the list of an entry that leads back, or forward
abbrev pub list_of : Bool → Step → List Patch
list_of true e = e.pair.inverse
list_of false e = e.pair.forward

-- the state that an entry leads to, back or forward, where it also leads here again, and is within its limits
unfoldable pub stepped : Bool → Step → Plain → Option Plain
stepped back e v = do
  w ← led (list_of back e) v
  if leads_to (list_of (not back) e) w v && is_light e.pair && is_name_or_none e.by then Some w else None

-- ---- what a change makes of a history

-- the newest change, on the state that it led to: at most 100 past entries stay
abbrev pub with_change : Step → History → Plain → History
with_change e h v = record { state = v; past = take 100 (e ∷ h.past); future = []; seq = h.seq + 1 }

-- the next entry is taken back
abbrev pub undone : List Step → History → Option History
undone [] h = None
undone (e ∷ past) h = do
  v ← led e.pair.inverse h.state
  Some (record { state = v; past = past; future = e ∷ h.future; seq = h.seq + 1 })

-- the next entry is made again
abbrev pub redone : List Step → History → Option History
redone [] h = None
redone (e ∷ future) h = do
  v ← led e.pair.forward h.state
  Some (record { state = v; past = e ∷ h.past; future = future; seq = h.seq + 1 })

-- a change is made where its patches lead to a state and back, within their limit
abbrev pub done : Change → History → Option History
done (Made pair by) h = do
  v ← stepped false (record { pair = pair; by = by }) h.state
  Some (with_change (record { pair = pair; by = by }) h v)
done Undone h = undone h.past h
done Redone h = redone h.future h

-- the history after a change, where it is allowed; the sequence number stays at most 2^36
unfoldable pub changed : Change → History → Option History
changed change h = if nat_lt h.seq (2 ^ 36) then done change h else None

-- ---- what holds of every history that a journal keeps

-- the test holds of what was reached
abbrev pub holds_of : (Plain → Bool) → Option Plain → Bool
holds_of test None = false
holds_of test (Some v) = test v

-- outward from a state each entry leads to a state, and from there back
unfoldable pub leads_out : Bool → List Step → Plain → Bool
leads_out back [] v = true
leads_out back (e ∷ es) v = holds_of (leads_out back es) (stepped back e v)

-- a state, at most 100 entries that lead outward from it, and a sequence number of at most 2^36
unfoldable pub is_sound : History → Bool
is_sound h = is_none (state_limit h.state) && nat_le h.seq (2 ^ 36) && nat_le (length h.past + length h.future) 100 && leads_out true h.past h.state && leads_out false h.future h.state
