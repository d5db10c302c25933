use Rattle.std.specs.Prelude.{List}
use Rattle.value_model.specs.Plain.{Plain}
use Rattle.values.specs.declared.patch.Patch.{Patch}
use Rattle.value_bytes_spec.proofs.Formats.{value_format, patches_format, no_prefix}
use Rattle.value_bytes_spec.specs.Reading.{value_at, patches_at}
use Rattle.value_bytes_spec.specs.Spelling.{value_bytes, patches_bytes, IsValue, IsPatches}
use Rattle.value_bytes.proofs.laws.law_no_prefix.Goals as goal

pub returns-clause-values : goal.returns-clause-values
returns-clause-values c v w rest p q e = no_prefix Plain value_bytes IsValue value_at value_format v w rest p q e

pub returns-clause-patches : goal.returns-clause-patches
returns-clause-patches c v w rest p q e = no_prefix (List Patch) patches_bytes IsPatches patches_at patches_format v w rest p q e
