use Rattle.run_heap.specs.Operations.{putting}
use Rattle.std.specs.Prelude.{[], ◌∷◌}
use Rattle.draft_laws.proofs.WriteLaws.{edit_written}
use Rattle.draft_laws.proofs.writes.law_calls_write.Goals as goal

pub returns-clause-put : goal.returns-clause-put
returns-clause-put c k v h g of q = edit_written (putting k v) h g tt of (v ∷ []) q
