use Rattle.host_shell.proofs.LineLaws.{holds_nothing}
use Rattle.host_shell.proofs.line.Line.new.Goals as goal

pub returns-clause-line : goal.returns-clause-line
returns-clause-line c = rw c.new.ensures.items holds_nothing
