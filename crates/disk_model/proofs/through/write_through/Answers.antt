use Rattle.std.proofs.Common.{length}
use Rattle.disk_model.specs.Disk.{Torn}
use Rattle.disk_model.specs.Images.{torn_same}
use Rattle.disk_model.proofs.Moments.{started_settled, goes_on_settled, goes_on_quiet}
use Rattle.disk_model.proofs.through.write_through.Goals as goal

-- the write leaves the range torn
pub returns-in_err-write_at-clause-any_moment : goal.returns-in_err-write_at-clause-any_moment
returns-in_err-write_at-clause-any_moment g c bytes holds settled =
    let d = g.D.Disk in
    let P = Torn c.args.at (length c.args.piece.now) in
    let begun = started_settled d.moment d.left_since d.may_leave d.told _ (P bytes) bytes (g.met.D.Disk.only_now _) settled holds (torn_same _ _ bytes) in
    goes_on_settled d.moment d.left_since d.may_leave d.told _ _ _ (P bytes) P bytes begun settled holds c.write_at.ensures.images c.write_at.ensures.time (λ image torn. torn)

-- and the sync adds no image
pub returns-clause-any_moment : goal.returns-clause-any_moment
returns-clause-any_moment g c bytes holds settled =
    let d = g.D.Disk in
    let P = Torn c.args.at (length c.args.piece.now) in
    let begun = started_settled d.moment d.left_since d.may_leave d.told _ (P bytes) bytes (g.met.D.Disk.only_now _) settled holds (torn_same _ _ bytes) in
    let wrote = goes_on_settled d.moment d.left_since d.may_leave d.told _ _ _ (P bytes) P bytes begun settled holds c.write_at.ensures.images c.write_at.ensures.time (λ image torn. torn) in
    goes_on_quiet d.moment d.left_since d.may_leave _ _ _ (P bytes) wrote c.sync.ensures.images c.sync.ensures.time
