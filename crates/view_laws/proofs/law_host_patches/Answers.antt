use Rattle.view_laws.proofs.HostLaws.{differences_in_place}
use Rattle.view_laws.proofs.law_host_patches.Goals as goal

pub returns : goal.returns
returns c old new es = differences_in_place old new es
