use Rattle.new_numbers.proofs.OwnLaws.{own_number, new_number}
use Rattle.new_numbers.proofs.law_own_numbers.Goals as goal

pub returns-clause-apart : goal.returns-clause-apart
returns-clause-apart c = λ ts h f m n t u p q e. own_number ts h f m n t u p q e

pub returns-clause-new : goal.returns-clause-new
returns-clause-new c = λ ts h f n t p. new_number ts h f n t p
