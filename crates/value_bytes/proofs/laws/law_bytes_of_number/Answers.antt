use Rattle.value_bytes_spec.proofs.Numbers.{bytes_of_number}
use Rattle.value_bytes.proofs.laws.law_bytes_of_number.Goals as goal

pub returns : goal.returns
returns c n xs fits h = bytes_of_number n xs fits h
