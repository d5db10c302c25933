use Rattle.std.proofs.Common.{List, [], ◌∷◌, length}
use Rattle.std.specs.List.{list_any, position}
use Rattle.run_heap.specs.declared.value.Rv.{Rv}
use Rattle.run_heap.specs.declared.fault.DraftFault.TheVariants as fault
use Rattle.run_heap.proofs.Foreign.{first_cause, list_revokes, ok_other}
use Rattle.run_heap.specs.Operations.{edited}
use Rattle.run_heap.specs.Values.{same}
use Rattle.array_ops_spec.specs.Calls.{cut_to, index_or, is_past, items, on_list, popped, pushed, read_list, shifted, sliced, spliced_at, turned, unshifted}
use Rattle.array_ops_spec.proofs.Revoked.{answer_revokes, look_revokes, storing_other, write_revokes}
use Rattle.array_ops_spec.proofs.laws.law_revoked_lists.Goals as goal

pub returns-clause-push : goal.returns-clause-push
returns-clause-push c = λ vs h of. write_revokes (pushed vs) h of vs (λ xs. storing_other vs _)

pub returns-clause-unshift : goal.returns-clause-unshift
returns-clause-unshift c = λ vs h of. write_revokes (unshifted vs) h of vs (λ xs. storing_other vs _)

pub returns-clause-pop : goal.returns-clause-pop
returns-clause-pop c = λ h of. write_revokes popped h of [] (λ xs. ok_other _)

pub returns-clause-shift : goal.returns-clause-shift
returns-clause-shift c = λ h of. write_revokes shifted h of [] (λ xs. ok_other _)

pub returns-clause-splice : goal.returns-clause-splice
returns-clause-splice c = λ start count vs h of. answer_revokes h (of ∷ vs) (edited (on_list (spliced_at start count vs)) h of vs) (write_revokes (spliced_at start count vs) h of vs (λ xs. storing_other vs _))

pub returns-clause-reverse : goal.returns-clause-reverse
returns-clause-reverse c = λ h of. write_revokes turned h of [] (λ xs. ok_other _)

pub returns-clause-set_length : goal.returns-clause-set_length
returns-clause-set_length c = λ n h of. write_revokes (cut_to n) h of [] (λ xs. first_cause (is_past n (length xs)) fault.Hole _ (λ q. absurd (cc)) (ok_other _))

pub returns-clause-slice : goal.returns-clause-slice
returns-clause-slice c = λ start end h of.
    let look : List Rv → _ = λ xs. items (sliced start end xs) in
    list_revokes h (of ∷ []) (read_list look h of []) (look_revokes look h of [])

pub returns-clause-index_of : goal.returns-clause-index_of
returns-clause-index_of c = λ v h of. look_revokes (λ xs. index_or (position (λ x. same x v) xs)) h of (v ∷ [])

pub returns-clause-includes : goal.returns-clause-includes
returns-clause-includes c = λ v h of. look_revokes (λ xs. list_any (λ x. same x v) xs) h of (v ∷ [])
