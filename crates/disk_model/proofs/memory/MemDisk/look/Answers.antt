use Rattle.disk_model.specs.declared.call.DiskCall.TheVariants.{Looked}
use Rattle.disk_model.proofs.Kept.{outcome, looked_bytes, looked_images, outcome_time, kept_cause, kept_fails}
use Rattle.disk_model.proofs.memory.MemDisk.look.Goals as goal

pub returns-clause-same : goal.returns-clause-same
returns-clause-same c = looked_bytes _ _ (outcome _ _ Looked Looked _ c.pass.ensures)

pub returns-clause-images : goal.returns-clause-images
returns-clause-images c = looked_images _ _ (outcome _ _ Looked Looked _ c.pass.ensures)

pub returns-clause-time : goal.returns-clause-time
returns-clause-time c = outcome_time _ _ Looked Looked (outcome _ _ Looked Looked _ c.pass.ensures)

pub returns-clause-cause : goal.returns-clause-cause
returns-clause-cause c = kept_cause _ _ Looked Looked _ c.pass.ensures

pub returns-clause-fails : goal.returns-clause-fails
returns-clause-fails c = kept_fails _ _ Looked Looked _ c.pass.ensures
