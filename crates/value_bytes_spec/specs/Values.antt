-- A value that is read is spelled by the bytes that it was read from, and what a value spells is read again.
use Rattle.std.proofs.Common.{◌≡◌, ℕ, zero, suc, ◌^◌, ◌<◌, ◌≤◌, List, [], ◌++◌, Option, Some}
use Rattle.std.specs.Prelude.{IsTrue}
use Rattle.value_model.specs.declared.key.Key.{Key}
use Rattle.value_model.specs.declared.kind.Kind.{Kind}
use Rattle.value_model.specs.Plain.{Plain, entry, entries, weight, depth, deepest}
use Rattle.value_model.specs.Well.{fits, all_fit, well, all_well}
use Rattle.value_bytes_spec.specs.Numbers.{IsBytes}
use Rattle.value_bytes_spec.specs.Spelling.{is_word, all_words, all_words_in, place_bytes, value_bytes}
use Rattle.value_bytes_spec.specs.Reading.{entry_at}
use Rattle.value_bytes_spec.specs.Chains.{chain}
use Rattle.value_bytes_spec.specs.Fields.{Takes}

-- ---- what each reader of values keeps

-- in order and within the limits of primitives, and at most n levels deep
pub record IsNested (n : ℕ) (v : Plain) : Type 0 where
  pub in_order : IsTrue (well v)
  pub words : IsTrue (all_words v)
  pub levels : depth v ≤ n

pub record IsExact (read : List ℕ → Option (Plain × List ℕ)) (n : ℕ) : Type 0 where
  pub takes : (bytes : List ℕ) (v : Plain) (rest : List ℕ) → IsBytes bytes → read bytes ≡ Some (v, rest) → Takes bytes (value_bytes v) rest × IsNested n v
  pub again : (v : Plain) (rest : List ℕ) → IsNested n v → weight v < 2 ^ 32 → read (value_bytes v ++ rest) ≡ Some (v, rest)

-- ---- entries

-- an entry that was read, or is written
pub record IsEntry (kind : Kind) (n : ℕ) (e : Key × Plain) : Type 0 where
  pub fit : IsTrue (fits kind e.0 e.1)
  pub word : IsTrue (is_word e.0)
  pub value : IsNested n e.1

abbrev pub entry_bytes : Kind → Key × Plain → List ℕ
entry_bytes kind e = place_bytes kind e.0 ++ value_bytes e.1

-- what is read again, where the value is as large as it may be
abbrev pub Again : Kind → (List ℕ → Option (Plain × List ℕ)) → List ℕ → Key × Plain → Type 0
Again kind inner rest e = entry_at kind inner (entry_bytes kind e ++ rest) ≡ Some (e, rest)

-- ---- the entries of a container

pub record AreEntries (kind : Kind) (n : ℕ) (before : Option Key) (es : List (Key × Plain)) : Type 0 where
  pub chained : IsTrue (chain kind before es)
  pub fit : IsTrue (all_fit kind (entries es))
  pub words : IsTrue (all_words_in (entries es))
  pub in_order : IsTrue (all_well (entries es))
  pub levels : deepest (entries es) ≤ n
