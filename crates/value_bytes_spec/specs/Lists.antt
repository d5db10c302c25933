-- Paths, patches, patch lists and pairs: what is read is spelled so, and what is spelled is read again.
use Rattle.std.proofs.Common.{zero, suc, []}
use Rattle.std.specs.Prelude.{IsTrue}
use Rattle.value_model.specs.declared.key.Key.{Key}
use Rattle.value_bytes_spec.specs.Spelling.{is_word}

abbrev pub IsWord : Key → Type 0
IsWord k = IsTrue (is_word k)
