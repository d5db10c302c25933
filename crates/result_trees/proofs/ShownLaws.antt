-- What a value is read as, by levels: the laws of readings for it.
use Rattle.std.proofs.Common.{◌≡◌, ℕ, ◌≤◌, ap, sym, ◌∙◌, subst, false, Some, None}
use Rattle.std.specs.Prelude.{◌^◌}
use Rattle.value_model.specs.Limits.{value_limit}
use Rattle.value_model.specs.Plain.{depth, weight}
use Rattle.numbered.specs.Store.{tree_at}
use Rattle.numbered.specs.Tree.{plain}
use Rattle.run_heap.specs.declared.value.Rv.{Rv}
use Rattle.run_heap.specs.declared.value.Rv.TheVariants.{Prim, Obj, Frozen}
use Rattle.run_heap.specs.Heap.{Heap}
use Rattle.run_heap.specs.Operations.{source_in}
use Rattle.run_heap.specs.Sound.{IsSound, IsStored}
use Rattle.result_trees.specs.Final.{Final, prim, frozen, object, plain_of, read_value, final, returned}
use Rattle.result_trees.specs.Written.{is_written, CopiesStand}
use Rattle.result_trees.proofs.KeptLaws.{kept_shown}
use Rattle.result_trees.proofs.OrderLaws.{accepted}
use Rattle.result_trees.proofs.Readings.{Reads, Shows, reads}

object_shown : (h : Heap) (n id : ℕ) (f : Final) → IsSound h → CopiesStand h → source_in (h.object n) ≡ Some id → Reads h f (Obj (record { scope = h.scope; slot = n })) → is_written h f ≡ false → plain_of f ≡ plain (tree_at h.states id)
object_shown h n id (prim k) s copies e r w = let q : Obj (record { scope = h.scope; slot = n }) ≡ Prim k = r in absurd (cc)
object_shown h n id (frozen t) s copies e r w = let q : Obj (record { scope = h.scope; slot = n }) ≡ Frozen r.0 = r.1 in absurd (cc)
object_shown h n id (object m of es) s copies e r w =
    let q : n ≡ m = r.0 in
    sym (kept_shown h s copies n of es id (subst (λ (i : ℕ). Shows h i of es) (sym q) r.1) (ap (λ (i : ℕ). is_written h (object i of es)) q ∙ w) e)

pub unwritten_shown : (h : Heap) (levels n id : ℕ) (f : Final) → IsSound h → CopiesStand h → source_in (h.object n) ≡ Some id → read_value levels h (Obj (record { scope = h.scope; slot = n })) ≡ Some f → is_written h f ≡ false → plain_of f ≡ plain (tree_at h.states id)
unwritten_shown h levels n id f s copies e r w = object_shown h n id f s copies e (reads levels h (Obj (record { scope = h.scope; slot = n })) f r) w

pub within_limits : (h : Heap) (v : Rv) (f : Final) → IsSound h → IsStored h (returned h v) → final h v ≡ Some f → depth (plain_of f) ≤ 32 → weight (plain_of f) ≤ 2 ^ 20 → value_limit (plain_of f) ≡ None
within_limits h v f s d e deep heavy = (accepted h s f (returned h v) d (reads h.next h (returned h v) f e) deep heavy).limit
