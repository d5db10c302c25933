-- What stands under a name, from the place where the search for it ends.
use Rattle.std.proofs.Common.{◌≡◌, ℕ, zero, suc, ◌<◌, ◌≤◌, ◌+◌, List, [], ◌∷◌, map, length, Some, None, IsTrue, refl, arith, get_or, Equal, Greater, cond, true, false, Err}
use Rattle.std.specs.FinMap.Entries.{find, is_sorted}
use Rattle.value_model.specs.declared.key.Key.{Key}
use Rattle.std.specs.Ordering.{eq_by_cmp}
use Rattle.value_checks.proofs.Members.{not_placed}
use Rattle.value_model.specs.declared.key.Key.TheVariants.{Null}
use Rattle.value_model.specs.Plain.{Plain, prim}
use Rattle.value_model.specs.Order.{key_cmp}
use Rattle.value_model.specs.Search.{Past, IsPlace}
use Rattle.guards_views_spec.specs.Shapes.{checks, broken, shapes, shapes_named}
use Rattle.shapes.specs.declared.shape.Named.{Named}
use Rattle.shapes.specs.Seen.{of_names, placed, NamesAscend}

tail_past : (k : Key) (n : Named) (ns : List Named) (i : ℕ) → Past placed k (suc i) (n ∷ ns) → Past placed k i ns
tail_past k n ns i p j d h = p (suc j) d (omega arith)

pub found : (k : Key) (ns : List Named) (i : ℕ) (d : Named) → Past placed k i ns → i < length ns → key_cmp k (placed (get_or ns i d)).0 ≡ Equal → find key_cmp k (checks (of_names ns)) ≡ Some (broken (get_or ns i d).shape)
found k [] i d p h e = absurd (omega arith)
found k (n ∷ ns) zero d p h e = rw e refl
found k (n ∷ ns) (suc i) d p h e = let here = p 0 d (omega arith) in rw here (found k ns i d (tail_past k n ns i p) (omega arith) e)

pub smaller : (ns : List Named) (i : ℕ) (d : Named) → i < length ns → shapes (get_or ns i d).shape < shapes_named (of_names ns)
smaller [] i d h = absurd (omega arith)
smaller (n ∷ ns) zero d h = omega arith
smaller (n ∷ ns) (suc i) d h = let rest = smaller ns i d (omega arith) in omega arith

-- the shapes of the names are looked at where a place of a name is looked for
same_absent : (k : Key) (ns : List Named) → find key_cmp k (map placed ns) ≡ None → find key_cmp k (checks (of_names ns)) ≡ None
same_absent k [] h = refl
same_absent k (n ∷ ns) h =
    elim (eq_by_cmp key_cmp k (placed n).0) as (λ b. cond b (Some (prim Null)) (find key_cmp k (map placed ns)) ≡ None → cond b (Some (broken n.shape)) (find key_cmp k (checks (of_names ns))) ≡ None) [
      | true ↦ λ e. absurd (cc)
      | false ↦ λ e. same_absent k ns e
    ] h

pub absent : (k : Key) (ns : List Named) (i : ℕ) → IsPlace placed k ns (Err i) → NamesAscend ns → find key_cmp k (checks (of_names ns)) ≡ None
absent k ns i h s = same_absent k ns (not_placed placed k ns i h s)
