-- A change that may be packed has a record.
use Rattle.std.proofs.Common.{◌≡◌, ℕ, List, Option, sym, subst}
use Rattle.values.specs.declared.patch.Pair.{Pair}
use Rattle.value_bytes_spec.specs.Spelling.{IsPair}
use Rattle.journal_bytes.specs.declared.change.Change.{Change}
use Rattle.journal_bytes.specs.declared.change.Change.TheVariants.{Made}
use Rattle.journal_bytes.specs.declared.change.Format.{Format}
use Rattle.journal_bytes.specs.Records.{CanHold, CanRecord}
use Rattle.journal_bytes.proofs.Sizes.{step_short}
use Rattle.patch_journal.specs.Journal.{CanPack, CanPackPair}

can_hold : (format : Format) (pair : Pair) (by : Option (List ℕ)) → CanPackPair format pair by → IsPair pair → CanHold format (record { pair = pair; by = by })
can_hold format pair by can lists = record { lists = lists; name = can.name; short = step_short format (record { pair = pair; by = by }) can.light can.name }

pub can_record : (format : Format) (change : Change) (pair : Pair) (by : Option (List ℕ)) → change ≡ Made pair by → CanPack format change → IsPair pair → CanRecord format change
can_record format change pair by is can lists = subst (CanRecord format) (sym is) (can_hold format pair by (subst (CanPack format) is can) lists)
