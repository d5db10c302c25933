use Rattle.std.proofs.Common.{Some, arith}
use Rattle.value_model.specs.Plain.{Plain}
use Rattle.value_bytes_spec.proofs.Formats.{value_format}
use Rattle.value_bytes_spec.specs.Numbers.{IsBytes}
use Rattle.value_bytes_spec.specs.Reading.{value_at}
use Rattle.value_bytes_spec.specs.Spelling.{value_bytes, IsValue}
use Rattle.value_bytes.proofs.Fronts.{front, front_again, not_nothing, no_front}
use Rattle.value_bytes.proofs.take.take_value.Goals as goal

pub overflow_sub-result : goal.overflow_sub-result
overflow_sub-result c =
    let fits : IsBytes c.args.bytes.now = λ i. omega (arith, c.type_inv.bytes i) in
    (front Plain value_bytes IsValue value_at value_format c.args.bytes.now c.in-Ok.value c.in-Ok.rest.now fits c.in-Ok.ensures).shorter

pub returns-in-Ok-clause-found : goal.returns-in-Ok-clause-found
returns-in-Ok-clause-found c =
    let fits : IsBytes c.args.bytes.now = λ i. omega (arith, c.type_inv.bytes i) in
    let f = front Plain value_bytes IsValue value_at value_format c.args.bytes.now c.in-Ok.value c.in-Ok.rest.now fits c.in-Ok.ensures in
    (omega arith, record { is = f.is; value = f.ok })

pub returns-in-Ok-clause-again : goal.returns-in-Ok-clause-again
returns-in-Ok-clause-again c v rest ok e =
    let fits : IsBytes c.args.bytes.now = λ i. omega (arith, c.type_inv.bytes i) in
    let same = front_again Plain value_bytes IsValue value_at value_format c.args.bytes.now c.in-Ok.value c.in-Ok.rest.now fits c.in-Ok.ensures v rest ok e in
    λ i. Some (same.0 i, same.1 i)

pub returns-in-Err-NoSpelling-clause-none : goal.returns-in-Err-NoSpelling-clause-none
returns-in-Err-NoSpelling-clause-none c nothing v n spells = no_front Plain value_bytes IsValue value_at value_format c.args.bytes.now (rw c.in-Err-NoSpelling.field-0-is at c.in-Err-NoSpelling.ensures) v n spells.value spells.is

pub returns-in-Err-NoSpelling-clause-again : goal.returns-in-Err-NoSpelling-clause-again
returns-in-Err-NoSpelling-clause-again c v rest ok e = absurd (not_nothing Plain value_bytes IsValue value_at value_format c.args.bytes.now (rw c.in-Err-NoSpelling.field-0-is at c.in-Err-NoSpelling.ensures) v rest ok e)
