use Rattle.std.proofs.Common.{◌≡◌, ap, sym, subst, ◌∙◌, rules, length}
use Rattle.journal_bytes.specs.Files.{Spot, placed, behind, behind_change}
use Rattle.patch_journal.specs.Journal.{Stands}
use Rattle.patch_journal.proofs.Appends.{ready_leads, ready_size}
use Rattle.patch_journal.proofs.ready.Ready.append.Goals as goal

pub returns-in_err-append_at-clause-any_moment : goal.returns-in_err-append_at-clause-any_moment
returns-in_err-append_at-clause-any_moment g c h k change st r allowed =
    let gate : c.args.self.spot.gate ≡ c.place.result = search rules in
    let bytes : c.as_slice.result.now ≡ c.args.self.bytes = search rules in
    c.append_at.ensures.any_moment (placed c.args.self.spot h) (placed (behind_change c.args.self.spot change) k) gate st (ready_leads c.args.self change h k c.as_slice.result.now bytes r allowed)

pub returns-clause-any_moment : goal.returns-clause-any_moment
returns-clause-any_moment g c h k change st r allowed =
    let gate : c.args.self.spot.gate ≡ c.place.result = search rules in
    let bytes : c.as_slice.result.now ≡ c.args.self.bytes = search rules in
    c.append_at.ensures.any_moment (placed c.args.self.spot h) (placed (behind_change c.args.self.spot change) k) gate st (ready_leads c.args.self change h k c.as_slice.result.now bytes r allowed)

pub returns-clause-lasts : goal.returns-clause-lasts
returns-clause-lasts g c h k change st r allowed =
    let gate : c.args.self.spot.gate ≡ c.place.result = search rules in
    let bytes : c.as_slice.result.now ≡ c.args.self.bytes = search rules in
    let stands = c.in_ok-append_at.ensures.lasts (placed c.args.self.spot h) (placed (behind_change c.args.self.spot change) k) gate st (ready_leads c.args.self change h k c.as_slice.result.now bytes r allowed) in
    let count : c.len.result ≡ length c.args.self.bytes = search rules in
    let moved : c.behind.result ≡ behind c.args.self.spot c.len.result = search rules in
    let there : c.behind.result ≡ behind_change c.args.self.spot change = moved ∙ ap (behind c.args.self.spot) count ∙ ready_size c.args.self change r in
    subst (λ (s : Spot). Stands g.D.Disk.told g.D.Disk.may_leave c.append_at.new.disk (placed s k)) (sym there) stands

pub returns-clause-spot : goal.returns-clause-spot
returns-clause-spot g c change r =
    let count : c.len.result ≡ length c.args.self.bytes = search rules in
    let moved : c.behind.result ≡ behind c.args.self.spot c.len.result = search rules in
    moved ∙ ap (behind c.args.self.spot) count ∙ ready_size c.args.self change r
