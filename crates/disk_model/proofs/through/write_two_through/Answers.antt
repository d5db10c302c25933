use Rattle.std.proofs.Common.{length}
use Rattle.disk_model.specs.Disk.{TornTwice}
use Rattle.disk_model.proofs.Moments.{goes_on_quiet}
use Rattle.disk_model.proofs.Twice.{within_written, after_first, after_second}
use Rattle.disk_model.proofs.through.write_two_through.Goals as goal

pub write_at-requires-2-clause-begins : goal.write_at-requires-2-clause-begins
write_at-requires-2-clause-begins g c = within_written _ _ c.args.first_at c.args.first.now c.args.second_at c.in_ok-write_at.ensures.done c.requires.second_begins

pub returns-in_err-write_at-clause-any_moment : goal.returns-in_err-write_at-clause-any_moment
returns-in_err-write_at-clause-any_moment g c bytes holds settled =
    let d = g.D.Disk in
    after_first d.told d.moment d.left_since d.may_leave c.args.disk.now c.write_at.new.self bytes c.args.first_at (length c.args.first.now) c.args.second_at (length c.args.second.now) (g.met.D.Disk.only_now _) settled holds c.write_at.ensures.images c.write_at.ensures.time

pub returns-in_err-write_at-2-clause-any_moment : goal.returns-in_err-write_at-2-clause-any_moment
returns-in_err-write_at-2-clause-any_moment g c bytes holds settled =
    let d = g.D.Disk in
    after_second d.told d.moment d.left_since d.may_leave c.args.disk.now c.write_at.new.self bytes c.args.first_at (length c.args.first.now) c.args.second_at (length c.args.second.now) (g.met.D.Disk.only_now _) settled holds c.write_at.ensures.images c.write_at.ensures.time
    c.write_at-2.new.self c.write_at-2.ensures.images c.write_at-2.ensures.time

pub returns-clause-any_moment : goal.returns-clause-any_moment
returns-clause-any_moment g c bytes holds settled =
    let d = g.D.Disk in
    let both = after_second d.told d.moment d.left_since d.may_leave c.args.disk.now c.write_at.new.self bytes c.args.first_at (length c.args.first.now) c.args.second_at (length c.args.second.now) (g.met.D.Disk.only_now _) settled holds c.write_at.ensures.images c.write_at.ensures.time
    c.write_at-2.new.self c.write_at-2.ensures.images c.write_at-2.ensures.time in
    goes_on_quiet d.moment d.left_since d.may_leave _ _ _ (TornTwice c.args.first_at (length c.args.first.now) c.args.second_at (length c.args.second.now) bytes) both c.sync.ensures.images c.sync.ensures.time
