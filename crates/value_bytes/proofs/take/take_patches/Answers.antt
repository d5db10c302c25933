use Rattle.std.proofs.Common.{List, Some, arith}
use Rattle.values.specs.declared.patch.Patch.{Patch}
use Rattle.value_bytes_spec.proofs.Formats.{patches_format}
use Rattle.value_bytes_spec.specs.Numbers.{IsBytes}
use Rattle.value_bytes_spec.specs.Reading.{patches_at}
use Rattle.value_bytes_spec.specs.Spelling.{patches_bytes, IsPatches}
use Rattle.value_bytes.proofs.Fronts.{front, front_again, not_nothing, no_front}
use Rattle.value_bytes.proofs.take.take_patches.Goals as goal

pub overflow_sub-result : goal.overflow_sub-result
overflow_sub-result c =
    let fits : IsBytes c.args.bytes.now = λ i. omega (arith, c.type_inv.bytes i) in
    (front (List Patch) patches_bytes IsPatches patches_at patches_format c.args.bytes.now c.in-Ok.patches c.in-Ok.rest.now fits c.in-Ok.ensures).shorter

pub returns-in-Ok-clause-found : goal.returns-in-Ok-clause-found
returns-in-Ok-clause-found c =
    let fits : IsBytes c.args.bytes.now = λ i. omega (arith, c.type_inv.bytes i) in
    let f = front (List Patch) patches_bytes IsPatches patches_at patches_format c.args.bytes.now c.in-Ok.patches c.in-Ok.rest.now fits c.in-Ok.ensures in
    (omega arith, record { is = f.is; patches = f.ok })

pub returns-in-Ok-clause-again : goal.returns-in-Ok-clause-again
returns-in-Ok-clause-again c ps rest ok e =
    let fits : IsBytes c.args.bytes.now = λ i. omega (arith, c.type_inv.bytes i) in
    let same = front_again (List Patch) patches_bytes IsPatches patches_at patches_format c.args.bytes.now c.in-Ok.patches c.in-Ok.rest.now fits c.in-Ok.ensures ps rest ok e in
    λ i. Some (same.0 i, same.1 i)

pub returns-in-Err-NoSpelling-clause-none : goal.returns-in-Err-NoSpelling-clause-none
returns-in-Err-NoSpelling-clause-none c nothing ps n spells = no_front (List Patch) patches_bytes IsPatches patches_at patches_format c.args.bytes.now (rw c.in-Err-NoSpelling.field-0-is at c.in-Err-NoSpelling.ensures) ps n spells.patches spells.is

pub returns-in-Err-NoSpelling-clause-again : goal.returns-in-Err-NoSpelling-clause-again
returns-in-Err-NoSpelling-clause-again c ps rest ok e = absurd (not_nothing (List Patch) patches_bytes IsPatches patches_at patches_format c.args.bytes.now (rw c.in-Err-NoSpelling.field-0-is at c.in-Err-NoSpelling.ensures) ps rest ok e)
