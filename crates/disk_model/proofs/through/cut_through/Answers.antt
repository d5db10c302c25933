use Rattle.disk_model.specs.Disk.{Cut}
use Rattle.disk_model.specs.Images.{cut_same}
use Rattle.disk_model.proofs.Moments.{started_settled, goes_on_settled, goes_on_quiet}
use Rattle.disk_model.proofs.through.cut_through.Goals as goal

-- the cut leaves some end between
pub returns-in_err-cut-clause-any_moment : goal.returns-in_err-cut-clause-any_moment
returns-in_err-cut-clause-any_moment g c bytes holds settled =
    let d = g.D.Disk in
    let P = Cut c.args.end in
    let begun = started_settled d.moment d.left_since d.may_leave d.told _ (P bytes) bytes (g.met.D.Disk.only_now _) settled holds (cut_same _ bytes) in
    goes_on_settled d.moment d.left_since d.may_leave d.told _ _ _ (P bytes) P bytes begun settled holds c.cut.ensures.images c.cut.ensures.time (λ image cut. cut)

-- and the sync adds no image
pub returns-clause-any_moment : goal.returns-clause-any_moment
returns-clause-any_moment g c bytes holds settled =
    let d = g.D.Disk in
    let P = Cut c.args.end in
    let begun = started_settled d.moment d.left_since d.may_leave d.told _ (P bytes) bytes (g.met.D.Disk.only_now _) settled holds (cut_same _ bytes) in
    let shortened = goes_on_settled d.moment d.left_since d.may_leave d.told _ _ _ (P bytes) P bytes begun settled holds c.cut.ensures.images c.cut.ensures.time (λ image cut. cut) in
    goes_on_quiet d.moment d.left_since d.may_leave _ _ _ (P bytes) shortened c.sync.ensures.images c.sync.ensures.time
