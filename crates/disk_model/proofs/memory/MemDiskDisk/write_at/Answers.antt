use Rattle.std.proofs.Common.{length, refl}
use Rattle.disk_model.specs.declared.call.DiskCall.TheVariants.{Wrote, WriteFailed}
use Rattle.disk_model.proofs.Kept.{outcome, done_told, failed_told, wrote_images, outcome_time, kept_cause, kept_fails}
use Rattle.disk_model.proofs.memory.MemDiskDisk.write_at.Goals as goal

pub returns-clause-done : goal.returns-clause-done
returns-clause-done c = done_told _ _ (Wrote c.args.at c.args.piece.now) (WriteFailed c.args.at (length c.args.piece.now)) _ c.put.ensures

pub returns-clause-failed : goal.returns-clause-failed
returns-clause-failed c = failed_told _ _ (Wrote c.args.at c.args.piece.now) (WriteFailed c.args.at (length c.args.piece.now)) _ (λ bytes. refl) c.put.ensures

pub returns-clause-images : goal.returns-clause-images
returns-clause-images c = wrote_images _ _ c.args.at c.args.piece.now (outcome _ _ (Wrote c.args.at c.args.piece.now) (WriteFailed c.args.at (length c.args.piece.now)) _ c.put.ensures)

pub returns-clause-time : goal.returns-clause-time
returns-clause-time c = outcome_time _ _ _ _ (outcome _ _ (Wrote c.args.at c.args.piece.now) (WriteFailed c.args.at (length c.args.piece.now)) _ c.put.ensures)

pub returns-clause-cause : goal.returns-clause-cause
returns-clause-cause c = kept_cause _ _ (Wrote c.args.at c.args.piece.now) (WriteFailed c.args.at (length c.args.piece.now)) _ c.put.ensures

pub returns-clause-fails : goal.returns-clause-fails
returns-clause-fails c = kept_fails _ _ (Wrote c.args.at c.args.piece.now) (WriteFailed c.args.at (length c.args.piece.now)) _ c.put.ensures
