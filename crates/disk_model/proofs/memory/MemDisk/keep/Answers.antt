use Rattle.std.proofs.Common.{◌∙◌, sym, ap, List}
use Rattle.disk_model.specs.Memory.{after_calls}
use Rattle.disk_model.specs.declared.call.DiskCall.{DiskCall}
use Rattle.disk_model.proofs.Kept.{after_calls-push}
use Rattle.disk_model.proofs.memory.MemDisk.keep.Goals as goal

pub invariant_of-self-2 : goal.invariant_of-self-2
invariant_of-self-2 c =
    c.self.invariant ∙ sym (c.requires _) ∙ sym (after_calls-push c.self.inside.first.items c.self.inside.calls.items c.args.call) ∙ ap (λ (calls : List DiskCall). after_calls c.self.inside.first.items calls) (sym c.in_ok-push.ensures.items)
