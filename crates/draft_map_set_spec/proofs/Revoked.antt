-- The calls on Maps and Sets are refused as revoked for references of other scopes alone.
use Rattle.std.proofs.Common.{◌≢◌, List, [], ◌∷◌, Bool, not, Result, Err}
use Rattle.value_model.specs.declared.key.Key.{Key}
use Rattle.value_model.specs.declared.kind.Kind.{Kind}
use Rattle.run_heap.specs.declared.value.Rv.{Rv}
use Rattle.run_heap.specs.declared.value.Rv.TheVariants.{Undefined, Prim, Obj, Frozen}
use Rattle.run_heap.specs.declared.fault.DraftFault.{DraftFault}
use Rattle.run_heap.specs.declared.fault.DraftFault.TheVariants as fault
use Rattle.run_heap.specs.declared.fault.DraftFault.TheVariants.{Revoked}
use Rattle.run_heap.specs.Foreign.{Revokes}
use Rattle.run_heap.proofs.Foreign.{edit_revokes, first_cause, ok_other, read_revokes}
use Rattle.run_heap.specs.Heap.{Heap}
use Rattle.run_heap.specs.Operations.{Rows, edited, read}
use Rattle.draft_map_set_spec.specs.MapSet.{by_key, clearing, deleting, is_there, of_kind}

pub by_other : {X : Type 0} (f : Key → Result X DraftFault) (k : Rv) → ((j : Key) → f j ≢ Err Revoked) → by_key f k ≢ Err Revoked
by_other f Undefined other = λ e. absurd (cc)
by_other f (Prim j) other = other j
by_other f (Obj r) other = λ e. absurd (cc)
by_other f (Frozen id) other = λ e. absurd (cc)

pub look_revokes : {X : Type 0} (takes : Kind → Bool) (f : Rows → Result X DraftFault) (h : Heap) (of : Rv) (others : List Rv) → ((t : Rows) → f t ≢ Err Revoked) → Revokes h (of ∷ others) (read (of_kind takes f) h of others)
look_revokes takes f h of others other = read_revokes (of_kind takes f) h of others (λ c. first_cause (not (takes c.kind)) fault.TypeMismatch (f c.table) (λ q. absurd (cc)) (other c.table))

pub has_revokes : (takes : Kind → Bool) (k : Rv) (h : Heap) (of : Rv) → Revokes h (of ∷ k ∷ []) (read (of_kind takes (is_there k)) h of (k ∷ []))
has_revokes takes k h of = look_revokes takes (is_there k) h of (k ∷ []) (λ t. by_other _ k (λ j. ok_other _))

pub delete_revokes : (takes : Kind → Bool) (k : Rv) (h : Heap) (of : Rv) → Revokes h (of ∷ k ∷ []) (edited (deleting takes k) h of (k ∷ []))
delete_revokes takes k h of = edit_revokes (deleting takes k) h of (k ∷ []) (λ _ t. by_other _ k (λ j. ok_other _))

pub clear_revokes : (takes : Kind → Bool) (h : Heap) (of : Rv) → Revokes h (of ∷ []) (edited (clearing takes) h of [])
clear_revokes takes h of = edit_revokes (clearing takes) h of [] (λ _ t. ok_other _)
