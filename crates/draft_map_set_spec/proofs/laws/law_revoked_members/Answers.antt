use Rattle.std.proofs.Common.{List, [], ◌∷◌, length, Ok, Result, ℕ}
use Rattle.run_heap.specs.declared.fault.DraftFault.{DraftFault}
use Rattle.run_heap.specs.declared.fault.DraftFault.TheVariants as fault
use Rattle.run_heap.proofs.Foreign.{edit_revokes, first_cause, list_revokes, ok_other}
use Rattle.run_heap.specs.Operations.{Rows, is_undefined, keys_of, listed, read}
use Rattle.draft_map_set_spec.specs.MapSet.{adding, is_long, is_map_or_set, of_kind, setting, value_of}
use Rattle.value_model.specs.Kinds.{is_map, is_set}
use Rattle.draft_map_set_spec.proofs.Revoked.{by_other, clear_revokes, delete_revokes, has_revokes, look_revokes}
use Rattle.draft_map_set_spec.proofs.laws.law_revoked_members.Goals as goal

pub returns-clause-map_get : goal.returns-clause-map_get
returns-clause-map_get c = λ k h of. look_revokes is_map (value_of k) h of (k ∷ []) (λ t. by_other _ k (λ j. ok_other _))

pub returns-clause-map_has : goal.returns-clause-map_has
returns-clause-map_has c = λ k h of. has_revokes is_map k h of

pub returns-clause-map_set : goal.returns-clause-map_set
returns-clause-map_set c = λ k v h of. edit_revokes (setting k v) h of (k ∷ v ∷ []) (λ _ t.
    first_cause (is_long k) fault.KeyTooLong _ (λ q. absurd (cc))
    (first_cause (is_undefined v) fault.UndefinedWrite _ (λ q. absurd (cc)) (by_other _ k (λ j. ok_other _))))

pub returns-clause-map_delete : goal.returns-clause-map_delete
returns-clause-map_delete c = λ k h of. delete_revokes is_map k h of

pub returns-clause-map_clear : goal.returns-clause-map_clear
returns-clause-map_clear c = λ h of. clear_revokes is_map h of

pub returns-clause-set_has : goal.returns-clause-set_has
returns-clause-set_has c = λ k h of. has_revokes is_set k h of

pub returns-clause-set_add : goal.returns-clause-set_add
returns-clause-set_add c = λ k h of. edit_revokes (adding k) h of (k ∷ []) (λ _ t. first_cause (is_long k) fault.KeyTooLong _ (λ q. absurd (cc)) (by_other _ k (λ j. ok_other _)))

pub returns-clause-set_delete : goal.returns-clause-set_delete
returns-clause-set_delete c = λ k h of. delete_revokes is_set k h of

pub returns-clause-set_clear : goal.returns-clause-set_clear
returns-clause-set_clear c = λ h of. clear_revokes is_set h of

pub returns-clause-size : goal.returns-clause-size
returns-clause-size c = λ h of.
    let look : Rows → Result ℕ DraftFault = λ t. Ok (length t) in
    look_revokes is_map_or_set look h of [] (λ t. ok_other _)

pub returns-clause-member_keys : goal.returns-clause-member_keys
returns-clause-member_keys c = λ h of.
    let look : Rows → Result Rows DraftFault = λ t. Ok (listed (keys_of t)) in
    list_revokes h (of ∷ []) (read (of_kind is_map_or_set look) h of []) (look_revokes is_map_or_set look h of [] (λ t. ok_other _))
