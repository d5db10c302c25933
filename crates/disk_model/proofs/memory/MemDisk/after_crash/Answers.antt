use Rattle.std.proofs.Common.{◌≡◌, ◌∙◌, sym, ap, take, List}
use Rattle.disk_model.specs.Memory.{DiskState}
use Rattle.disk_model.specs.Crash.{crashed}
use Rattle.disk_model.specs.declared.call.DiskCall.{DiskCall}
use Rattle.disk_model.proofs.Crashed.{begins_on_image}
use Rattle.disk_model.proofs.memory.MemDisk.after_crash.Goals as goal

pub returns-clause-allowed : goal.returns-clause-allowed
returns-clause-allowed c =
    let s = c.args.self.now in
    let n = c.args.calls in
    let first_is : c.deref-2.result.now ≡ s.first = c.deref-2.ensures.value ∙ ap (λ (d : DiskState). d.first) c.self.view_is in
    let calls_are : take c.first_of-count.result c.deref-3.result.now ≡ take n s.calls =
    ap (λ (cs : List DiskCall). take c.first_of-count.result cs) (c.deref-3.ensures.value) ∙
    ap (λ (cs : List DiskCall). take c.first_of-count.result cs) (sym c.deref.ensures.value) ∙
    c.first_of-count.ensures.same ∙
    ap (λ (cs : List DiskCall). take n cs) (c.deref.ensures.value ∙ ap (λ (d : DiskState). d.calls) c.self.view_is) in
    begins_on_image c.new.result c.args.kind s.first (take n s.calls) c.deref-4.result.now
    (c.deref-4.ensures.value ∙ c.in_ok-image.ensures ∙ (λ i. crashed c.args.kind (first_is i) (calls_are i)))
    c.new.ensures.first
