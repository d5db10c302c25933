use Rattle.patch_journal.proofs.Appends.{first_at, second_at, stands_at}
use Rattle.patch_journal.proofs.write.append_at.Goals as goal

-- the bytes are written behind the closed gate
pub returns-in_err-write_through-clause-any_moment : goal.returns-in_err-write_through-clause-any_moment
returns-in_err-write_through-clause-any_moment g c p q e st l =
    let d = g.D.Disk in
    let mid = c.write_through.new.disk in
    first_at d.told d.moment d.left_since d.may_leave c.args.disk.now mid mid p q c.args.bytes.now st l c.args.gate e c.write_through.ensures.any_moment

-- and the gate is opened
pub returns-in_err-write_through-2-clause-any_moment : goal.returns-in_err-write_through-2-clause-any_moment
returns-in_err-write_through-2-clause-any_moment g c p q e st l =
    let d = g.D.Disk in
    second_at d.told d.moment d.left_since d.may_leave c.args.disk.now c.write_through.new.disk c.write_through-2.new.disk p q c.args.bytes.now st l c.args.gate e
    c.write_through.ensures.any_moment c.in_ok-write_through.ensures.done c.in_ok-write_through.ensures.lasts c.write_through-2.ensures.any_moment

pub returns-clause-any_moment : goal.returns-clause-any_moment
returns-clause-any_moment g c p q e st l =
    let d = g.D.Disk in
    second_at d.told d.moment d.left_since d.may_leave c.args.disk.now c.write_through.new.disk c.write_through-2.new.disk p q c.args.bytes.now st l c.args.gate e
    c.write_through.ensures.any_moment c.in_ok-write_through.ensures.done c.in_ok-write_through.ensures.lasts c.write_through-2.ensures.any_moment

pub returns-clause-lasts : goal.returns-clause-lasts
returns-clause-lasts g c p q e st l =
    let d = g.D.Disk in
    stands_at d.told d.moment d.left_since d.may_leave c.args.disk.now c.write_through.new.disk c.write_through-2.new.disk p q c.args.bytes.now st l c.args.gate e
    c.in_ok-write_through.ensures.done c.in_ok-write_through-2.ensures.done c.in_ok-write_through-2.ensures.lasts
