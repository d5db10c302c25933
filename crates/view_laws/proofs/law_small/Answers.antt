use Rattle.view_laws.proofs.ViewLaws.{small}
use Rattle.view_laws.proofs.law_small.Goals as goal

pub returns : goal.returns
returns c path w v h = small path w v h
