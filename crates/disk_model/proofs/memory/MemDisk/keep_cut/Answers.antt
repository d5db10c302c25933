use Rattle.std.proofs.Common.{◌∙◌, sym, ap, List, ℕ, take}
use Rattle.disk_model.specs.Memory.{after_calls}
use Rattle.disk_model.specs.declared.call.DiskCall.{DiskCall}
use Rattle.disk_model.specs.declared.call.DiskCall.TheVariants.{CutOff}
use Rattle.disk_model.proofs.Kept.{after_calls-push}
use Rattle.disk_model.proofs.memory.MemDisk.keep_cut.Goals as goal

pub invariant_of-self-2 : goal.invariant_of-self-2
invariant_of-self-2 c =
    c.truncate.ensures.items ∙ ap (λ (bytes : List ℕ). take c.args.end bytes) c.self.invariant ∙ sym (after_calls-push c.self.inside.first.items c.self.inside.calls.items (CutOff c.args.end)) ∙ ap (λ (calls : List DiskCall). after_calls c.self.inside.first.items calls) (sym c.in_ok-push.ensures.items)
