use Rattle.std.specs.Prelude.{List}
use Rattle.value_model.specs.Plain.{Plain}
use Rattle.values.specs.declared.patch.Patch.{Patch}
use Rattle.value_bytes_spec.proofs.Formats.{value_format, patches_format, one_front}
use Rattle.value_bytes_spec.specs.Reading.{value_at, patches_at}
use Rattle.value_bytes_spec.specs.Spelling.{value_bytes, patches_bytes, IsValue, IsPatches}
use Rattle.value_bytes.proofs.laws.law_one_front.Goals as goal

pub returns-clause-values : goal.returns-clause-values
returns-clause-values c v w more rest p q e = one_front Plain value_bytes IsValue value_at value_format v w more rest p q e

pub returns-clause-patches : goal.returns-clause-patches
returns-clause-patches c v w more rest p q e = one_front (List Patch) patches_bytes IsPatches patches_at patches_format v w more rest p q e
