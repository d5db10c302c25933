use Rattle.std.proofs.Common.{◌∙◌, ap, List, ℕ, length, take, drop}
use Rattle.disk_model.specs.Memory.{DiskState, bytes_of}
use Rattle.disk_model.proofs.memory.MemDiskDisk.read.Goals as goal

pub returns-clause-answer : goal.returns-clause-answer
returns-clause-answer c =
    let bytes_are = c.deref.ensures.value ∙ c.self.invariant ∙ ap (λ (s : DiskState). bytes_of s) c.self.view_is ∙ c.look.ensures.same in
    c.copy_from.ensures.copied ∙ ap (λ (xs : List ℕ). take (length c.copy_from.new.buf) (drop c.args.at xs)) bytes_are
