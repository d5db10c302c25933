-- The calls on lists are refused as revoked for references of other scopes alone.
use Rattle.std.proofs.Common.{◌≡◌, ◌≢◌, List, ◌∷◌, not, Result, Ok, Err, ap}
use Rattle.std.specs.List.{list_any}
use Rattle.run_heap.specs.declared.value.Rv.{Rv}
use Rattle.run_heap.specs.declared.fault.DraftFault.{DraftFault}
use Rattle.run_heap.specs.declared.fault.DraftFault.TheVariants as fault
use Rattle.run_heap.specs.declared.fault.DraftFault.TheVariants.{Revoked}
use Rattle.run_heap.specs.Foreign.{Revokes}
use Rattle.run_heap.proofs.Foreign.{edit_revokes, first_cause, ok_other, read_revokes}
use Rattle.run_heap.specs.Heap.{Heap}
use Rattle.run_heap.specs.Operations.{edited, is_undefined}
use Rattle.value_model.specs.Kinds.{is_list}
use Rattle.array_ops_spec.specs.Calls.{answer_list, elements, on_list, read_list, read_shown, storing, with_items}

pub storing_other : {X : Type 0} (vs : List Rv) (x : X) → (let r : Result X DraftFault = storing vs (Ok x) in r) ≢ Err Revoked
storing_other vs x = first_cause (list_any is_undefined vs) fault.UndefinedWrite (Ok x) (λ q. absurd (cc)) (ok_other x)

with_other : {X : Type 0} (r : Result (List Rv × X) DraftFault) → r ≢ Err Revoked → with_items r ≢ Err Revoked
with_other (Ok left) other = λ e. absurd (cc)
with_other (Err x) other = λ e. let q : x ≡ Revoked = cc in other (λ i. Err (q i))

pub write_revokes : {X : Type 0} (f : List Rv → Result (List Rv × X) DraftFault) (h : Heap) (of : Rv) (others : List Rv) → ((xs : List Rv) → f xs ≢ Err Revoked) → Revokes h (of ∷ others) (edited (on_list f) h of others)
write_revokes f h of others other = edit_revokes (on_list f) h of others (λ k t. with_other (f (elements t)) (other (elements t)))

pub look_revokes : {X : Type 0} (f : List Rv → X) (h : Heap) (of : Rv) (others : List Rv) → Revokes h (of ∷ others) (read_list f h of others)
look_revokes f h of others = read_revokes (read_shown f) h of others (λ c. first_cause (not (is_list c.kind)) fault.TypeMismatch (Ok (f (elements c.table))) (λ q. absurd (cc)) (ok_other (f (elements c.table))))

answer_refused : (r : Result (Heap × List Rv) DraftFault) → answer_list r ≡ Err Revoked → r ≡ Err Revoked
answer_refused (Ok left) e = absurd (cc)
answer_refused (Err x) e = let q : x ≡ Revoked = cc in λ i. Err (q i)

pub answer_revokes : (h : Heap) (vs : List Rv) (r : Result (Heap × List Rv) DraftFault) → Revokes h vs r → Revokes h vs (answer_list r)
answer_revokes h vs r w = (λ e. w.0 (answer_refused r e), λ f. ap answer_list (w.1 f))
