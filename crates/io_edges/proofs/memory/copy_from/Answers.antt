use Rattle.io_edges.proofs.Reading.{left_after}
use Rattle.io_edges.proofs.memory.copy_from.Goals as goal

pub returns-clause-copied : goal.returns-clause-copied
returns-clause-copied c = left_after _ _ _ _ c.copy_front.ensures.copied
