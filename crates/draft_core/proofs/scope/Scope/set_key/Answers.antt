use Rattle.node_store.specs.Paged.{states}
use Rattle.std.proofs.Common.{sym, subst}
use Rattle.std.specs.FinMap.Entries.{put}
use Rattle.value_model.specs.declared.key.Key.{Key}
use Rattle.value_model.specs.Order.{key_cmp}
use Rattle.draft_core.proofs.Keeping.{put_keeps, without_keeps}
use Rattle.draft_core.proofs.Kept.{object_owned}
use Rattle.draft_core.specs.Seen.{heap}
use Rattle.draft_core.specs.Writes.{KeepsTable}
use Rattle.draft_core.proofs.scope.Scope.set_key.Goals as goal

pub change-requires-clause-table : goal.change-requires-clause-table
change-requires-clause-table c =
    let h = heap (states c.args.store.now) c.args.self.now in
    let of = c.args.of.now in
    let m = rw c.in-Some.is at c.requires.stored in
    subst (λ (k : Key). KeepsTable h of (put key_cmp k c.in-Some.value)) (sym c.in_ok-key-in-Some.ensures) (put_keeps h of c.args.key.now c.in-Some.value c.requires.stands.sound (object_owned h of c.requires.object) m.0 m.1)

pub change-requires-in-None-clause-table : goal.change-requires-in-None-clause-table
change-requires-in-None-clause-table c =
    let h = heap (states c.args.store.now) c.args.self.now in
    without_keeps h c.args.of.now c.args.key.now c.requires.stands.sound (object_owned h c.args.of.now c.requires.object)
