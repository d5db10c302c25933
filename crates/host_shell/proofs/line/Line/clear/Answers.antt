use Rattle.host_shell.proofs.LineLaws.{holds_nothing}
use Rattle.host_shell.proofs.line.Line.clear.Goals as goal

pub returns-clause-line : goal.returns-clause-line
returns-clause-line c = rw c.clear.ensures.items holds_nothing
