-- What is shown of a table's entries, as values: laws.
use Rattle.std.proofs.Common.{◌≡◌, ◌+◌, ◌≤◌, ◌<◌, ◌-◌, ℕ, zero, suc, List, [], ◌∷◌, ◌++◌, length, get_or, drop, take, map, refl, ap, sym, ◌∙◌, subst, arith, true, Less, Equal, Greater}
use Rattle.std.specs.Prelude.{IsTrue}
use Rattle.std.specs.Ordering.{is_eq}
use Rattle.std.specs.declared.cmp.Ordering.{Ordering}
use Rattle.std.specs.FinMap.Entries.{is_sorted}
use Rattle.std.proofs.lemmas.List.{append-nil, append_assoc, drop_more}
use Rattle.value_model.specs.declared.key.Key.{Key}
use Rattle.value_model.specs.declared.key.Key.TheVariants as key
use Rattle.value_model.specs.declared.kind.Kind.{Kind}
use Rattle.value_model.specs.declared.kind.Kind.TheVariants as kind
use Rattle.value_model.specs.Order.{key_cmp, key_exact}
use Rattle.value_model.specs.Places.{ascends_at}
use Rattle.value_model.specs.Search.{left_true, right_true}
use Rattle.value_model.specs.Well.{fits, all_fit, well}
use Rattle.value_model.proofs.Steps.{list_of_entries}
use Rattle.value_model.specs.Plain as plain_value
use Rattle.value_model.specs.Plain.{Plain, Entries, entries, list_of, values, values_in}
use Rattle.numbered.specs.Tree.{Tree, prim, node, plain, plains, branches_of}
use Rattle.numbered.specs.Store.{IsNumber, tree_at, IsNext, IsStore}
use Rattle.numbered.specs.Laws.{well_at, state_at}
use Rattle.page_tables.specs.declared.cell.Cell.{Cell}
use Rattle.node_store.specs.Nodes.{cell_tree, branches, kind_of}
use Rattle.node_store.specs.Unfolds.{shown, row_value, row_key, IsText}

-- ---- a state and the entries that it has
pub record IsUnfolding (us : List Tree) (t : Tree) (of : Kind) (rs : List (Key × Cell)) : Type 0 where
  pub value : plain t ≡ plain_value.node of (plains (branches us rs))
  pub ascends : IsTrue (ascends_at of (list_of (plains (branches us rs))))
  pub fit : all_fit of (plains (branches us rs)) ≡ true

of_node : (us ts : List Tree) (t : Tree) (of : Kind) (rs : List (Key × Cell)) → IsNext ts t → IsTrue (well (plain t)) → kind_of t ≡ of → branches_of t ≡ branches us rs → IsUnfolding us t of rs
of_node us ts (prim k) of rs h w e b = absurd h
of_node us ts (node id j es) of rs h w e b =
    let same : plain_value.node j (plains es) ≡ plain_value.node of (plains (branches us rs)) = λ i. plain_value.node (e i) (plains (b i)) in
    let v : IsTrue (well (plain_value.node of (plains (branches us rs)))) = subst (λ u. IsTrue (well u)) same w in
    record { value = same; ascends = left_true _ _ (left_true _ _ v); fit = right_true _ _ (left_true _ _ v) }

pub unfolded : (us : List Tree) (id : ℕ) (of : Kind) (rs : List (Key × Cell)) → IsStore us → IsNumber us id → kind_of (tree_at us id) ≡ of → branches_of (tree_at us id) ≡ branches us rs → IsUnfolding us (tree_at us id) of rs
unfolded us id of rs s n e b = of_node us (take (id - 1) us) (tree_at us id) of rs (state_at us id s n) (well_at us id s n) e b

-- ---- its entries as values
entries_shown : (us : List Tree) (rs : List (Key × Cell)) → entries (map (shown us) rs) ≡ plains (branches us rs)
entries_shown us [] = refl
entries_shown us (r ∷ rs) = ap (plain_value.entry r.0 (plain (cell_tree us r.1))) (entries_shown us rs)

-- in a list all keys are null
null_key : (k : Key) (v : Plain) → fits kind.List k v ≡ true → k ≡ key.Null
null_key key.Null v h = refl
null_key (key.Bool b) v h = absurd (cc)
null_key (key.Int n) v h = absurd (cc)
null_key (key.Text s) v h = absurd (cc)

items_shown : (us : List Tree) (rs : List (Key × Cell)) → all_fit kind.List (plains (branches us rs)) ≡ true → entries (map (λ v. let e : Key × Plain = (key.Null, v) in e) (map (row_value us) rs)) ≡ plains (branches us rs)
items_shown us [] f = refl
items_shown us (r ∷ rs) f =
    let k = null_key r.0 (row_value us r) (left_true _ _ f) in
    let rest = items_shown us rs (right_true _ _ f) in
    λ i. plain_value.entry (sym k i) (row_value us r) (rest i)

same_of_test : (o : Ordering) → is_eq o ≡ true → o ≡ Equal
same_of_test Less h = absurd (cc)
same_of_test Equal h = refl
same_of_test Greater h = absurd (cc)

-- in a Set each value is its key
member_is : (k : Key) (v : Plain) → fits kind.Set k v ≡ true → v ≡ plain_value.prim k
member_is k (plain_value.prim j) h = ap (λ (x : Key). plain_value.prim x) (sym (key_exact k j (same_of_test _ h)))
member_is k (plain_value.node of es) h = absurd (cc)

members_shown : (us : List Tree) (rs : List (Key × Cell)) → all_fit kind.Set (plains (branches us rs)) ≡ true → entries (map (λ k. let e : Key × Plain = (k, plain_value.prim k) in e) (map row_key rs)) ≡ plains (branches us rs)
members_shown us [] f = refl
members_shown us (r ∷ rs) f =
    let v = member_is r.0 (row_value us r) (left_true _ _ f) in
    let rest = members_shown us rs (right_true _ _ f) in
    λ i. plain_value.entry r.0 (sym v i) (rest i)

sorted_from : (rs : Entries) (es : List (Key × Plain)) → entries es ≡ rs → IsTrue (is_sorted key_cmp (list_of rs)) → IsTrue (is_sorted key_cmp es)
sorted_from rs es e h = ap (is_sorted key_cmp) (sym (list_of_entries es) ∙ ap list_of e) ∙ h

-- ---- the value of a container, from its entries, and the order of its keys
module _ (us : List Tree) (t : Tree) (rs : List (Key × Cell)) where
  pub obj_value : (es : List (Key × Plain)) → IsUnfolding us t kind.Obj rs → es ≡ map (shown us) rs → plain_value.node kind.Obj (entries es) ≡ plain t
  obj_value es u e = ap (λ (ds : List (Key × Plain)). plain_value.node kind.Obj (entries ds)) e ∙ ap (plain_value.node kind.Obj) (entries_shown us rs) ∙ sym u.value

  pub map_value : (es : List (Key × Plain)) → IsUnfolding us t kind.Map rs → es ≡ map (shown us) rs → plain_value.node kind.Map (entries es) ≡ plain t
  map_value es u e = ap (λ (ds : List (Key × Plain)). plain_value.node kind.Map (entries ds)) e ∙ ap (plain_value.node kind.Map) (entries_shown us rs) ∙ sym u.value

  pub list_value : (vs : List Plain) → IsUnfolding us t kind.List rs → vs ≡ map (row_value us) rs → plain_value.node kind.List (entries (map (λ v. let e : Key × Plain = (key.Null, v) in e) vs)) ≡ plain t
  list_value vs u e = ap (λ (ws : List Plain). plain_value.node kind.List (entries (map (λ v. let e : Key × Plain = (key.Null, v) in e) ws))) e ∙ ap (plain_value.node kind.List) (items_shown us rs u.fit) ∙ sym u.value

  pub set_value : (js : List Key) → IsUnfolding us t kind.Set rs → js ≡ map row_key rs → plain_value.node kind.Set (entries (map (λ k. let e : Key × Plain = (k, plain_value.prim k) in e) js)) ≡ plain t
  set_value js u e = ap (λ (qs : List Key). plain_value.node kind.Set (entries (map (λ k. let e : Key × Plain = (k, plain_value.prim k) in e) qs))) e ∙ ap (plain_value.node kind.Set) (members_shown us rs u.fit) ∙ sym u.value

  pub obj_order : (es : List (Key × Plain)) → IsUnfolding us t kind.Obj rs → es ≡ map (shown us) rs → IsTrue (is_sorted key_cmp es)
  obj_order es u e = sorted_from (plains (branches us rs)) es (ap entries e ∙ entries_shown us rs) u.ascends

  pub map_order : (es : List (Key × Plain)) → IsUnfolding us t kind.Map rs → es ≡ map (shown us) rs → IsTrue (is_sorted key_cmp es)
  map_order es u e = sorted_from (plains (branches us rs)) es (ap entries e ∙ entries_shown us rs) u.ascends

  pub set_order : (js : List Key) → IsUnfolding us t kind.Set rs → js ≡ map row_key rs → IsTrue (is_sorted key_cmp (map (λ k. let e : Key × Plain = (k, plain_value.prim k) in e) js))
  set_order js u e = sorted_from (plains (branches us rs)) (map (λ k. let e : Key × Plain = (k, plain_value.prim k) in e) js) (ap (λ (qs : List Key). entries (map (λ k. let e : Key × Plain = (k, plain_value.prim k) in e) qs)) e ∙ members_shown us rs u.fit) u.ascends

-- ---- one entry of it
texts_fit : (us : List Tree) (rs : List (Key × Cell)) (i : ℕ) (d : Key × Cell) → all_fit kind.Obj (plains (branches us rs)) ≡ true → i < length rs → IsText (get_or rs i d).0
texts_fit us [] i d f l = absurd (omega (arith, l))
texts_fit us (r ∷ rs) zero d f l = text_fits r.0 (row_value us r) (left_true _ _ f)
  where
    text_fits : (k : Key) (v : Plain) → fits kind.Obj k v ≡ true → IsText k
    text_fits (key.Text s) v h = tt
    text_fits key.Null v h = absurd (cc)
    text_fits (key.Bool b) v h = absurd (cc)
    text_fits (key.Int n) v h = absurd (cc)
texts_fit us (r ∷ rs) (suc i) d f l = texts_fit us rs i d (right_true _ _ f) (omega (arith, l))

pub text_at : (us : List Tree) (t : Tree) (rs : List (Key × Cell)) (i : ℕ) (d : Key × Cell) → IsUnfolding us t kind.Obj rs → i < length rs → IsText (get_or rs i d).0
text_at us t rs i d u l = texts_fit us rs i d u.fit l

one_in : (us : List Tree) (rs : List (Key × Cell)) (i : ℕ) (d : Key × Cell) → i < length rs → values (row_value us (get_or rs i d)) ≤ values_in (plains (branches us rs))
one_in us [] i d l = absurd (omega (arith, l))
one_in us (r ∷ rs) zero d l = omega arith
one_in us (r ∷ rs) (suc i) d l = omega (arith, one_in us rs i d (omega (arith, l)))

-- it has fewer values than the whole
pub fewer_at : (us : List Tree) (t : Tree) (of : Kind) (rs : List (Key × Cell)) (i : ℕ) (d : Key × Cell) → IsUnfolding us t of rs → i < length rs → 1 + values (row_value us (get_or rs i d)) ≤ values (plain t)
fewer_at us t of rs i d u l = let one = one_in us rs i d l in let all = ap values u.value in omega (arith, one, all)

-- a turn of a loop over the entries
pub turn : {A : Type 0} (f : Key × Cell → A) (rs : List (Key × Cell)) (i : ℕ) (d : Key × Cell) (out next : List A) (x : A) → i < length rs → out ++ map f (drop i rs) ≡ map f rs → next ≡ out ++ x ∷ [] → x ≡ f (get_or rs i d) → next ++ map f (drop (i + 1) rs) ≡ map f rs
turn f rs i d out next x l h e g =
    (λ j. e j ++ map f (drop (i + 1) rs))
    ∙ append_assoc out (x ∷ []) (map f (drop (i + 1) rs))
    ∙ (λ j. out ++ g j ∷ map f (drop (i + 1) rs))
    ∙ ap (λ qs. out ++ map f qs) (sym (drop_more rs i d l))
    ∙ h

-- and its end
past_drop : {A : Type 0} (xs : List A) (i : ℕ) → length xs ≤ i → drop i xs ≡ []
past_drop [] zero h = refl
past_drop [] (suc i) h = refl
past_drop (x ∷ xs) zero h = absurd (omega (arith, h))
past_drop (x ∷ xs) (suc i) h = past_drop xs i (omega (arith, h))

pub ended : {A : Type 0} (f : Key × Cell → A) (rs : List (Key × Cell)) (i : ℕ) (out : List A) → length rs ≤ i → out ++ map f (drop i rs) ≡ map f rs → out ≡ map f rs
ended f rs i out l h = sym (append-nil out) ∙ ap (λ qs. out ++ map f qs) (sym (past_drop rs i l)) ∙ h
