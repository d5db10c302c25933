use Rattle.node_store.specs.Paged.{states}
use Rattle.std.proofs.Common.{◌≡◌, drop}
use Rattle.std.specs.Prelude.{IsTrue, ◌||◌}
use Rattle.patch_meaning.specs.Applying.{applied_from}
use Rattle.host_machine.specs.Flat.{are_flat}
use Rattle.host_machine.specs.Machine.{writes}
use Rattle.run_heap.specs.Operations.{is_marked}
use Rattle.host_engine.specs.Drafts.{IsFlatScope, root_in, state_in}
use Rattle.host_engine.proofs.edits.edit_all.Given as goal

abbrev pub invariant-loop-i : goal.invariant-loop-i
invariant-loop-i l = let rest = drop l.i l.patches in let now = root_in (states l.store) l.scope in let first = root_in (states l.store) l.initial.scope in record {
  scope : IsFlatScope (states l.store) l.scope;
  flat : IsTrue (are_flat rest);
  applied : applied_from l.i rest (state_in now) ≡ applied_from 0 l.patches (state_in first);
  wrote : (is_marked now || writes rest (state_in now)) ≡ (is_marked first || writes l.patches (state_in first));
}
