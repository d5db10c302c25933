use Rattle.std.proofs.Common.{◌∙◌, subst, IsTrue, length, Contains, ◌↔◌, List, ℕ}
use Rattle.disk_model.specs.Memory.{DiskState}
use Rattle.disk_model.proofs.memory.MemDisk.is_listed.Goals as goal

pub returns : goal.returns
returns c =
    let by_number = subst (λ (n : ℕ). IsTrue c.holds.result ↔ Contains c.deref.result.now n) (c.len.ensures ∙ c.self.inside.calls.ok.0) c.holds.ensures in
    let by_list = subst (λ (xs : List ℕ). IsTrue c.holds.result ↔ Contains xs (length c.self.inside.calls.items)) c.deref.ensures.value by_number in
    subst (λ (s : DiskState). IsTrue c.holds.result ↔ Contains s.listed (length s.calls)) c.self.view_is by_list
