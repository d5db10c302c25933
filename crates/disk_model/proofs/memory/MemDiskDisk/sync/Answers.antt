use Rattle.disk_model.specs.declared.call.DiskCall.TheVariants.{Looked, Synced}
use Rattle.disk_model.proofs.Kept.{outcome, synced_settled, synced_told, synced_images, outcome_time, kept_cause, kept_fails}
use Rattle.disk_model.proofs.memory.MemDiskDisk.sync.Goals as goal

pub returns-clause-done : goal.returns-clause-done
returns-clause-done c = synced_settled _ _ _ c.pass.ensures

pub returns-clause-bytes : goal.returns-clause-bytes
returns-clause-bytes c = synced_told _ _ (outcome _ _ Synced Looked _ c.pass.ensures)

pub returns-clause-images : goal.returns-clause-images
returns-clause-images c = synced_images _ _ (outcome _ _ Synced Looked _ c.pass.ensures)

pub returns-clause-time : goal.returns-clause-time
returns-clause-time c = outcome_time _ _ _ _ (outcome _ _ Synced Looked _ c.pass.ensures)

pub returns-clause-cause : goal.returns-clause-cause
returns-clause-cause c = kept_cause _ _ Synced Looked _ c.pass.ensures

pub returns-clause-fails : goal.returns-clause-fails
returns-clause-fails c = kept_fails _ _ Synced Looked _ c.pass.ensures
