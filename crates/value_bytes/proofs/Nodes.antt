-- A container that was written piece by piece is spelled, and in order.
use Rattle.std.proofs.Common.{◌≡◌, ℕ, ◌≤◌, List, [], ◌∷◌, ◌++◌, map, length, true, sym, ap, subst, ◌∙◌, append_assoc, arith}
use Rattle.std.specs.Prelude.{IsTrue}
use Rattle.std.specs.Int.{w32, to_be_bytes}
use Rattle.std.proofs.lemmas.List.{length-map}
use Rattle.std.proofs.lemmas.Bool.{and_from}
use Rattle.value_model.specs.declared.key.Key.{Key}
use Rattle.value_model.specs.declared.kind.Kind.{Kind}
use Rattle.value_model.specs.Places.{ascends_at}
use Rattle.value_model.specs.Plain.{Plain, node, entries, list_of, weights}
use Rattle.value_model.proofs.Steps.{list_of_entries}
use Rattle.value_model.specs.Well.{all_fit, well, all_well}
use Rattle.value_bytes_spec.specs.Spelling.{kind_byte, value_bytes, entries_bytes}
use Rattle.value_bytes_spec.proofs.Values.{count_le_weights}

module _ {X : Type 0} (f : X → Key × Plain) (kind : Kind) (xs : List X) where
  listed : length (list_of (entries (map f xs))) ≡ length xs
  listed = ap (λ (es : List (Key × Plain)). length es) (list_of_entries (map f xs)) ∙ length-map xs f

  pub few : length xs ≤ weights kind (entries (map f xs))
  few = omega (arith, count_le_weights kind (entries (map f xs)), listed)

  pub spelled_node : (old mid head new : List ℕ) (shown : List X) (n : ℕ) (v : Plain) → node kind (entries (map f xs)) ≡ v → n ≡ length xs → shown ≡ xs
      → mid ≡ old ++ kind_byte kind ∷ [] → head ≡ mid ++ to_be_bytes w32 n → new ≡ head ++ entries_bytes kind (entries (map f shown)) → new ≡ old ++ value_bytes v
  spelled_node old mid head new shown n v v-is n-is shown-is a b c =
      let body = entries_bytes kind (entries (map f xs)) in
      let count : n ≡ length (list_of (entries (map f xs))) = n-is ∙ sym listed in
      let m = length (list_of (entries (map f xs))) in
      let d : new ≡ ((old ++ kind_byte kind ∷ []) ++ to_be_bytes w32 m) ++ body =
      c ∙ ap (λ (ys : List X). head ++ entries_bytes kind (entries (map f ys))) shown-is ∙ ap (λ (h : List ℕ). h ++ body) (b ∙ ap (λ (k : ℕ). mid ++ to_be_bytes w32 k) count ∙ ap (λ (h : List ℕ). h ++ to_be_bytes w32 m) a) in
      let e : ((old ++ kind_byte kind ∷ []) ++ to_be_bytes w32 m) ++ body ≡ old ++ value_bytes (node kind (entries (map f xs))) =
      append_assoc (old ++ kind_byte kind ∷ []) (to_be_bytes w32 m) body ∙ append_assoc old (kind_byte kind ∷ []) (to_be_bytes w32 m ++ body) in
      d ∙ e ∙ ap (λ (w : Plain). old ++ value_bytes w) v-is

  pub well_node : (shown : List X) (v : Plain) → node kind (entries (map f xs)) ≡ v → shown ≡ xs → IsTrue (ascends_at kind (map f xs)) → IsTrue (all_fit kind (entries (map f xs))) → IsTrue (all_well (entries (map f shown))) → IsTrue (well v)
  well_node shown v v-is shown-is ascends fit more =
      let inside : all_well (entries (map f xs)) ≡ true = subst (λ (ys : List X). all_well (entries (map f ys)) ≡ true) shown-is more in
      let order : ascends_at kind (list_of (entries (map f xs))) ≡ true = rw (list_of_entries (map f xs)) ascends in
      subst (λ (w : Plain). well w ≡ true) v-is (and_from _ _ (and_from _ _ order fit) inside)
