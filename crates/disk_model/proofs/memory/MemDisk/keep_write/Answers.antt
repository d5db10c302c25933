use Rattle.std.proofs.Common.{◌≡◌, ◌∙◌, sym, ap, List, ℕ, [], ◌∷◌, ◌++◌}
use Rattle.disk_model.specs.Disk.{written}
use Rattle.disk_model.specs.Memory.{after_calls}
use Rattle.disk_model.specs.declared.call.DiskCall.{DiskCall}
use Rattle.disk_model.specs.declared.call.DiskCall.TheVariants.{Wrote}
use Rattle.disk_model.proofs.Kept.{after_calls-push}
use Rattle.disk_model.proofs.memory.MemDisk.keep_write.Goals as goal

pub invariant_of-self-2 : goal.invariant_of-self-2
invariant_of-self-2 c =
    let calls_are : c.push_reserved.new.self.items ≡ c.self.inside.calls.items ++ Wrote c.args.at c.args.piece.now ∷ [] =
    c.push_reserved.ensures.items ∙ (λ i. c.reserve.ensures.items i ++ Wrote c.args.at (c.in_ok-kept.ensures i) ∷ [])
    in
    c.in_ok-overwrite.ensures.ok ∙ ap (λ (bytes : List ℕ). written c.args.at c.args.piece.now bytes) c.self.invariant ∙ sym (after_calls-push c.self.inside.first.items c.self.inside.calls.items (Wrote c.args.at c.args.piece.now)) ∙ ap (λ (calls : List DiskCall). after_calls c.self.inside.first.items calls) (sym calls_are)
