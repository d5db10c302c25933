use Rattle.std.proofs.Common.{◌∙◌, ap, List, ℕ, length}
use Rattle.disk_model.specs.Memory.{DiskState, bytes_of}
use Rattle.disk_model.proofs.memory.MemDiskDisk.length.Goals as goal

pub returns-clause-answer : goal.returns-clause-answer
returns-clause-answer c =
    c.len.ensures ∙ c.self.inside.bytes.ok.0 ∙ ap (λ (xs : List ℕ). length xs) (c.self.invariant ∙ ap (λ (s : DiskState). bytes_of s) c.self.view_is ∙ c.look.ensures.same)
