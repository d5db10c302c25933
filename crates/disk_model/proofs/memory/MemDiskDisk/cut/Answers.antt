use Rattle.std.proofs.Common.{refl}
use Rattle.disk_model.specs.declared.call.DiskCall.TheVariants.{CutOff, CutFailed}
use Rattle.disk_model.proofs.Kept.{outcome, done_told, failed_told, cut_images, outcome_time, kept_cause, kept_fails}
use Rattle.disk_model.proofs.memory.MemDiskDisk.cut.Goals as goal

pub returns-clause-done : goal.returns-clause-done
returns-clause-done c = done_told _ _ (CutOff c.args.end) (CutFailed c.args.end) _ c.cut_off.ensures

pub returns-clause-failed : goal.returns-clause-failed
returns-clause-failed c = failed_told _ _ (CutOff c.args.end) (CutFailed c.args.end) _ (λ bytes. refl) c.cut_off.ensures

pub returns-clause-images : goal.returns-clause-images
returns-clause-images c = cut_images _ _ c.args.end (outcome _ _ (CutOff c.args.end) (CutFailed c.args.end) _ c.cut_off.ensures)

pub returns-clause-time : goal.returns-clause-time
returns-clause-time c = outcome_time _ _ _ _ (outcome _ _ (CutOff c.args.end) (CutFailed c.args.end) _ c.cut_off.ensures)

pub returns-clause-cause : goal.returns-clause-cause
returns-clause-cause c = kept_cause _ _ (CutOff c.args.end) (CutFailed c.args.end) _ c.cut_off.ensures

pub returns-clause-fails : goal.returns-clause-fails
returns-clause-fails c = kept_fails _ _ (CutOff c.args.end) (CutFailed c.args.end) _ c.cut_off.ensures
