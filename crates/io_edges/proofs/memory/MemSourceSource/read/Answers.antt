use Rattle.std.proofs.Common.{◌+◌, List, ℕ, ◌++◌, take, drop, ap, sym, ◌∙◌}
use Rattle.io_edges.proofs.memory.MemSourceSource.read.Goals as goal

pub returns-clause-bytes : goal.returns-clause-bytes
returns-clause-bytes c =
    let n = c.copy_from-count.result in
    let from = c.self.inside.at in
    let bytes_are = c.deref.ensures.value in (
      sym (ap (λ s. s.left) c.self.view_is) ∙ ap (λ (xs : List ℕ). drop from xs) (sym bytes_are) ∙ c.copy_from-count.ensures.copied ∙ ap (λ (xs : List ℕ). take n c.copy_from-count.new.buf ++ drop (from + n) xs) bytes_are,
      λ none room. ap (λ (xs : List ℕ). drop (from + n) xs) (sym bytes_are) ∙ c.copy_from-count.ensures.end c.self.invariant.1 none room,
    )
