use Rattle.node_store.specs.Paged.{states}
use Rattle.std.proofs.Common.{◌≡◌, ◌∙◌, ◌<◌, length, sym, subst, arith}
use Rattle.run_heap.specs.declared.value.Rv.{Rv}
use Rattle.run_heap.specs.Sound.{Owned}
use Rattle.draft_core.proofs.Kept.{ok_more}
use Rattle.draft_core.specs.Seen.{heap}
use Rattle.draft_runs.proofs.Held.{owned_at}
use Rattle.draft_runs.proofs.run.Run.answer.Goals as goal

pub returns-then-i-len : goal.returns-then-i-len
returns-then-i-len c =
    let h = heap (states c.args.self.now.store) c.args.self.now.scope in
    let vs = c.args.self.now.values in
    let d = c.index.result.now in
    let less = c.if-i-len.true in
    let len = c.len.ensures in
    let long = vs.ok.0 in
    let inside : c.args.i < length vs.items = omega (arith, less, len, long) in
    ok_more c.copy.result (λ (v : Rv). v ≡ d) (Owned h) c.copy.ensures (λ v is. subst (Owned h) (sym (is ∙ c.index.ensures)) (owned_at h vs.items c.args.i d c.requires inside))
