-- The walk, a step at a time.
use Rattle.std.proofs.Common.{◌≡◌, ℕ, suc, ◌+◌, ◌<◌, ◌≤◌, List, [], ◌∷◌, ◌++◌, map, length, drop, get_or, add-one, drop-cons, Bool, true, false, ◌&&◌, cond, Option, Some, Result, Ok, Err, refl, ap, sym, ◌∙◌, subst, Ordering, Less, Equal, Greater, String, Global, string_bytes, string_cmp, nat_cmp, nat_lt, ◌^◌, arith}
use Rattle.std.specs.Cmp.Lexicographic.{slice_cmp}
use Rattle.std.proofs.lemmas.Grind.{common_steps}
use Rattle.std.proofs.lemmas.Bool.{and_from}
use Rattle.std.specs.Prelude.{is_some}
use Rattle.std.specs.BTreeMap.{insert_entry, is_at}
use Rattle.std.specs.Map.{lookup, keys_of}
use Rattle.std.specs.List.{AllByRecursion}
use Rattle.std.specs.List.Sorted.{IsStrictlySortedBy}
use Rattle.std.specs.FinMap.Entries.{find, put, is_sorted, below_all, by_order}
use Rattle.std.specs.Ordering.{is_eq, is_lt, on, match_ordering}
use Rattle.serde_json.specs.Data.{Data, Items, item}
use Rattle.serde_json.specs.View.{view, items_view, members_view}
use Rattle.serde_json.specs.declared.value.Value.{Value}
use Rattle.serde_json.proofs.Views.{Entry as NameValue}
use Rattle.value_model.specs.declared.key.Key.{Key}
use Rattle.value_model.specs.declared.key.Key.TheVariants as key
use Rattle.value_model.specs.Order.{key_cmp, key_exact}
use Rattle.value_model.specs.Plain.{Plain, Entries, prim, node, none, entry, entries}
use Rattle.value_model.specs.declared.kind.Kind.TheVariants as kind
use Rattle.values.specs.Seen.{of_item, of_field}
use Rattle.values.specs.declared.val.Field.{Field}
use Rattle.value_json_spec.specs.Answers.{and_then, result_map}
use Rattle.value_json_spec.specs.Reading.{Table, all_from, walked, elements, with_element, with_field, fields, text_from, object_in, pair_in, with_pair, key_from, new_key, new_key_from, set_members}
use Rattle.value_json_spec.specs.declared.why.JsonWhy.TheVariants as why
use Rattle.value_json_spec.specs.declared.why.JsonWhy.{JsonWhy}
use Rattle.value_json.specs.Gives.{Fails}
use Rattle.value_json.specs.Ranks.{of_pairs, of_marks, of_pair, of_mark}
use Rattle.value_json.specs.declared.fault.JsonFault.{JsonFault}
use Rattle.value_json.specs.declared.ranked.Ranked.{Ranked}
use Rattle.value_json.proofs.Passed.{passed_map, passed_then}

abbrev pub rank_cmp : Ranked → Ranked → Ordering
rank_cmp = on (λ r. r.key) key_cmp

-- ---- tables of keys
pub found_pairs : (k : Ranked) (es : List (Ranked × Plain)) → lookup (is_at (rank_cmp k)) es ≡ find key_cmp k.key (of_pairs es)
found_pairs k [] = refl
found_pairs k (e ∷ es) = ap (cond (is_eq (key_cmp k.key e.0.key)) (Some e.1)) (found_pairs k es)

either : (b : Bool) (x : Unit {0}) (v : Plain) (o : Option (Unit {0})) (p : Option Plain) → is_some o ≡ is_some p → is_some (cond b (Some x) o) ≡ is_some (cond b (Some v) p)
either true x v o p h = refl
either false x v o p h = h

pub found_marks : (k : Ranked) (es : List (Ranked × Unit {0})) → is_some (lookup (is_at (rank_cmp k)) es) ≡ is_some (find key_cmp k.key (of_marks es))
found_marks k [] = refl
found_marks k (e ∷ es) = either (is_eq (key_cmp k.key e.0.key)) e.1 (prim e.0.key) (lookup (is_at (rank_cmp k)) es) (find key_cmp k.key (of_marks es)) (found_marks k es)

pub insert_pairs : (k : Ranked) (v : Plain) (es : List (Ranked × Plain)) → of_pairs (insert_entry rank_cmp es k v) ≡ put key_cmp k.key v (of_pairs es)
insert_pairs k v [] = refl
insert_pairs k v (e ∷ es) =
    let later = insert_pairs k v es in
    elim (key_cmp k.key e.0.key) as (λ o. of_pairs (match_ordering o ((k, v) ∷ e ∷ es) ((e.0, v) ∷ es) (e ∷ insert_entry rank_cmp es k v)) ≡ by_order o ((k.key, v) ∷ of_pairs (e ∷ es)) ((e.0.key, v) ∷ of_pairs es) (of_pair e ∷ put key_cmp k.key v (of_pairs es))) [
      | Less ↦ refl
      | Equal ↦ refl
      | Greater ↦ ap (λ (ds : List (Key × Plain)). of_pair e ∷ ds) later
    ]

pub insert_marks : (k : Ranked) (u : Unit {0}) (es : List (Ranked × Unit {0})) → of_marks (insert_entry rank_cmp es k u) ≡ put key_cmp k.key (prim k.key) (of_marks es)
insert_marks k u [] = refl
insert_marks k u (e ∷ es) =
    let later = insert_marks k u es in
    elim (key_cmp k.key e.0.key) as (λ o. key_cmp k.key e.0.key ≡ o → of_marks (match_ordering o ((k, u) ∷ e ∷ es) ((e.0, u) ∷ es) (e ∷ insert_entry rank_cmp es k u)) ≡ by_order o ((k.key, prim k.key) ∷ of_marks (e ∷ es)) ((e.0.key, prim k.key) ∷ of_marks es) (of_mark e ∷ put key_cmp k.key (prim k.key) (of_marks es))) [
      | Less ↦ λ h. refl
      | Equal ↦ λ h. ap (λ (j : Key). (e.0.key, prim j) ∷ of_marks es) (sym (key_exact k.key e.0.key h))
      | Greater ↦ λ h. ap (λ (ds : List (Key × Plain)). of_mark e ∷ ds) later
    ] refl

below_pairs : (k : Ranked) (es : List (Ranked × Plain)) → AllByRecursion (λ y. rank_cmp k y ≡ Less) (keys_of es) → below_all key_cmp k.key (of_pairs es) ≡ true
below_pairs k [] h = refl
below_pairs k (e ∷ es) h = and_from _ _ (ap is_lt h.0) (below_pairs k es h.1)

pub pairs_sorted : (es : List (Ranked × Plain)) → IsStrictlySortedBy rank_cmp (keys_of es) → is_sorted key_cmp (of_pairs es) ≡ true
unfolding IsStrictlySortedBy
pairs_sorted [] h = refl
pairs_sorted (e ∷ es) h = and_from _ _ (below_pairs e.0 es h.0) (pairs_sorted es h.1)

below_marks : (k : Ranked) (es : List (Ranked × Unit {0})) → AllByRecursion (λ y. rank_cmp k y ≡ Less) (keys_of es) → below_all key_cmp k.key (of_marks es) ≡ true
below_marks k [] h = refl
below_marks k (e ∷ es) h = and_from _ _ (ap is_lt h.0) (below_marks k es h.1)

pub marks_sorted : (es : List (Ranked × Unit {0})) → IsStrictlySortedBy rank_cmp (keys_of es) → is_sorted key_cmp (of_marks es) ≡ true
unfolding IsStrictlySortedBy
marks_sorted [] h = refl
marks_sorted (e ∷ es) h = and_from _ _ (below_marks e.0 es h.0) (marks_sorted es h.1)

-- ---- entries that are read from the front
abbrev pub joined : List (Key × Plain) → Entries → Entries
joined [] rest = rest
joined (e ∷ es) rest = entry e.0 e.1 (joined es rest)

pub joined_none : (es : List (Key × Plain)) → joined es none ≡ entries es
joined_none [] = refl
joined_none (e ∷ es) = ap (entry e.0 e.1) (joined_none es)

module _ {X : Type 0} (f : X → Key × Plain) where
  joined_push : (out : List X) (x : X) (rest : Entries) → joined (map f (out ++ x ∷ [])) rest ≡ joined (map f out) (entry (f x).0 (f x).1 rest)
  joined_push [] x rest = refl
  joined_push (y ∷ out) x rest = ap (entry (f y).0 (f y).1) (joined_push out x rest)

  pub pushed : (out : List X) (x : X) (r : Result Entries JsonWhy) → result_map (joined (map f out)) (result_map (entry (f x).0 (f x).1) r) ≡ result_map (joined (map f (out ++ x ∷ []))) r
  pushed out x (Ok es) = ap Ok (sym (joined_push out x es))
  pushed out x (Err w) = refl

elements_at : (vs : List Value) (i : ℕ) (v : Value) → i < length vs → v ≡ get_or vs i v → elements (items_view (drop i vs)) ≡ with_element (walked (view v)) (elements (items_view (drop (i + 1) vs)))
elements_at vs i v h is =
    let next : drop i vs ≡ v ∷ drop (i + 1) vs = rw (add-one, drop-cons vs i v h) (λ k. sym is k ∷ drop (suc i) vs) in
    ap (λ (ws : List Value). elements (items_view ws)) next

pub elements_next : (vs : List Value) (i : ℕ) (v : Value) (out : List Plain) (p : Plain) → i < length vs → v ≡ get_or vs i v → walked (view v) ≡ Ok p
    → elements (items_view vs) ≡ result_map (joined (map of_item out)) (elements (items_view (drop i vs)))
    → elements (items_view vs) ≡ result_map (joined (map of_item (out ++ p ∷ []))) (elements (items_view (drop (i + 1) vs)))
elements_next vs i v out p h is found so_far =
    so_far ∙ ap (result_map (joined (map of_item out))) (elements_at vs i v h is ∙ ap (λ w. with_element w (elements (items_view (drop (i + 1) vs)))) found)
    ∙ pushed of_item out p (elements (items_view (drop (i + 1) vs)))

pub elements_fail : (vs : List Value) (i : ℕ) (v : Value) (g : Entries → Entries) (e : JsonFault) → i < length vs → v ≡ get_or vs i v
    → elements (items_view vs) ≡ result_map g (elements (items_view (drop i vs))) → Fails e (walked (view v)) → Fails e (elements (items_view vs))
elements_fail vs i v g e h is so_far failed =
    let rest = elements (items_view (drop (i + 1) vs)) in
    subst (Fails e) (sym (so_far ∙ ap (result_map g) (elements_at vs i v h is)))
    (passed_map g e (with_element (walked (view v)) rest) (passed_then (λ p. result_map (entry key.Null p) rest) e (walked (view v)) failed))

-- ---- shapes of data
-- a key that isn't there yet, or is
pub new_key_done : (d : Data) (found : Table) (k : Key) → key_from d ≡ Ok k → is_some (find key_cmp k found) ≡ false → new_key_from d found ≡ Ok k
new_key_done d found k e f = ap (and_then (new_key found)) e ∙ ap (λ (c : Bool). cond c (Err why.DuplicateKey) (Ok k)) f

pub new_key_twice : (d : Data) (found : Table) (k : Key) → key_from d ≡ Ok k → is_some (find key_cmp k found) ≡ true → new_key_from d found ≡ Err why.DuplicateKey
new_key_twice d found k e f = ap (and_then (new_key found)) e ∙ ap (λ (c : Bool). cond c (Err why.DuplicateKey) (Ok k)) f

-- a number of items other than two is no pair
pub no_pair : (vs : List Value) (found : Table) → (length vs ≡ 2 → ⊥) → pair_in (items_view vs) found ≡ Err why.BadTag
no_pair [] found h = refl
no_pair (v ∷ []) found h = refl
no_pair (v ∷ w ∷ []) found h = absurd (h refl)
no_pair (v ∷ w ∷ x ∷ vs) found h = refl

-- ---- members of a Set, one after another
items_at : (vs : List Value) (i : ℕ) (v : Value) → i < length vs → v ≡ get_or vs i v → items_view (drop i vs) ≡ item (view v) (items_view (drop (i + 1) vs))
items_at vs i v h is =
    let next : drop i vs ≡ v ∷ drop (i + 1) vs = rw (add-one, drop-cons vs i v h) (λ k. sym is k ∷ drop (suc i) vs) in
    ap items_view next

new_key_by : (d : Data) (found : Table) (k : Key) (b : Bool) → key_from d ≡ Ok k → is_some (find key_cmp k found) ≡ b → new_key_from d found ≡ cond b (Err why.DuplicateKey) (Ok k)
new_key_by d found k b e f = ap (and_then (new_key found)) e ∙ ap (λ (c : Bool). cond c (Err why.DuplicateKey) (Ok k)) f

pub set_next : (vs : List Value) (i : ℕ) (v : Value) (found : Table) (k : Key) (all : Result Table JsonWhy) → i < length vs → v ≡ get_or vs i v
    → key_from (view v) ≡ Ok k → is_some (find key_cmp k found) ≡ false → set_members (items_view (drop i vs)) found ≡ all
    → set_members (items_view (drop (i + 1) vs)) (put key_cmp k (prim k) found) ≡ all
set_next vs i v found k all h is e f so_far =
    let rest = items_view (drop (i + 1) vs) in
    sym (ap (and_then (λ (j : Key). set_members rest (put key_cmp j (prim j) found))) (new_key_by (view v) found k false e f)) ∙ sym (ap (λ (ds : Items). set_members ds found) (items_at vs i v h is)) ∙ so_far

pub set_twice : (vs : List Value) (i : ℕ) (v : Value) (found : Table) (k : Key) (all : Result Table JsonWhy) → i < length vs → v ≡ get_or vs i v
    → key_from (view v) ≡ Ok k → is_some (find key_cmp k found) ≡ true → set_members (items_view (drop i vs)) found ≡ all → all ≡ Err why.DuplicateKey
set_twice vs i v found k all h is e f so_far =
    let rest = items_view (drop (i + 1) vs) in
    sym so_far ∙ ap (λ (ds : Items). set_members ds found) (items_at vs i v h is) ∙ ap (and_then (λ (j : Key). set_members rest (put key_cmp j (prim j) found))) (new_key_by (view v) found k true e f)

no_more : (xs : Table) → xs ++ [] ≡ xs
no_more [] = refl
no_more (x ∷ xs) = ap (λ (ys : Table). x ∷ ys) (no_more xs)

-- what was moved over is the whole table, where nothing is left
pub moved_sorted : (xs ys all : Table) → xs ++ ys ≡ all → ys ≡ [] → is_sorted key_cmp all ≡ true → is_sorted key_cmp xs ≡ true
moved_sorted xs ys all moved over sorted =
    let whole : xs ≡ all = sym (no_more xs) ∙ ap (λ (zs : Table). xs ++ zs) (sym over) ∙ moved in
    ap (is_sorted key_cmp) whole ∙ sorted

-- ---- pairs of a Map
pub in_pair : (vs : List Value) (a b : Value) (found : Table) → length vs ≡ 2 → a ≡ get_or vs 0 a → b ≡ get_or vs 1 b → pair_in (items_view vs) found ≡ with_pair (view a) (walked (view b)) found
in_pair [] a b found h p q = absurd (omega arith)
in_pair (v ∷ []) a b found h p q = absurd (omega arith)
in_pair (v ∷ w ∷ []) a b found h p q = λ i. with_pair (view (sym p i)) (walked (view (sym q i))) found
in_pair (v ∷ w ∷ x ∷ vs) a b found h p q = absurd (omega arith)

pub pair_done : (k : Data) (value : Result Plain JsonWhy) (found : Table) (j : Key) (p : Plain) → new_key_from k found ≡ Ok j → value ≡ Ok p → with_pair k value found ≡ Ok (put key_cmp j p found)
pair_done k value found j p fresh done =
    ap (and_then (λ (i : Key). result_map (λ (x : Plain). put key_cmp i x found) value)) fresh ∙ ap (result_map (λ (x : Plain). put key_cmp j x found)) done

-- ---- fields of an object
-- members other than one are no tag
pub untagged : (es : List NameValue) → (length es ≡ 1 → ⊥) → object_in (members_view es) ≡ result_map (node kind.Obj) (fields (members_view es))
untagged [] h = refl
untagged (e ∷ []) h = absurd (h refl)
untagged (e ∷ f ∷ es) h = refl

pub fields_next : (here next : List NameValue) (name : String Global) (j : Value) (out : List Field) (k : List ℕ) (p : Plain) (f : Field) (all : Result Entries JsonWhy)
    → here ≡ (name, j) ∷ next → f.key ≡ k → f.value ≡ p → text_from (string_bytes name) ≡ Ok k → walked (view j) ≡ Ok p
    → all ≡ result_map (joined (map of_field out)) (fields (members_view here))
    → all ≡ result_map (joined (map of_field (out ++ f ∷ []))) (fields (members_view next))
fields_next here next name j out k p f all step fk fp named found so_far =
    let rest = fields (members_view next) in
    let one : with_field (string_bytes name) (walked (view j)) rest ≡ result_map (entry (key.Text f.key) f.value) rest =
    (λ i. with_field (string_bytes name) (found i) rest) ∙ ap (and_then (λ (s : List ℕ). result_map (entry (key.Text s) p) rest)) named ∙ (λ i. result_map (entry (key.Text (sym fk i)) (sym fp i)) rest) in
    so_far ∙ ap (λ (es : List NameValue). result_map (joined (map of_field out)) (fields (members_view es))) step
    ∙ ap (result_map (joined (map of_field out))) one ∙ pushed of_field out f rest

kept : (b : Bool) (s k : List ℕ) → cond b (Err why.TextTooLong) (Ok s) ≡ Ok k → s ≡ k
kept true s k h = absurd (cc)
kept false s k h = cc

-- a text that is read stays
pub text_is : (s k : List ℕ) → text_from s ≡ Ok k → s ≡ k
text_is s k h = kept (nat_lt (2 ^ 20) (length s)) s k h

abbrev pub names : List NameValue → List (List ℕ)
names es = map (λ (e : NameValue). string_bytes e.0) es

abbrev pub keys : List Field → List (List ℕ)
keys fs = map (λ (f : Field). f.key) fs

abbrev above : List ℕ → List (List ℕ) → Bool
above l [] = true
above l (k ∷ ks) = is_lt (slice_cmp nat_cmp l k) && above l ks

abbrev rising : List (List ℕ) → Bool
rising [] = true
rising (k ∷ ks) = above k ks && rising ks

above_keys : (l : List ℕ) (fs : List Field) → below_all key_cmp (key.Text l) (map of_field fs) ≡ above l (keys fs)
above_keys l [] = refl
above_keys l (f ∷ fs) = ap (λ b. is_lt (slice_cmp nat_cmp l f.key) && b) (above_keys l fs)

rising_keys : (fs : List Field) → is_sorted key_cmp (map of_field fs) ≡ rising (keys fs)
rising_keys [] = refl
rising_keys (f ∷ fs) = rw (above_keys f.key fs, rising_keys fs)

above_names : (name : String Global) (es : List NameValue) → AllByRecursion (λ y. string_cmp name y ≡ Less) (keys_of es) → above (string_bytes name) (names es) ≡ true
above_names name [] h = refl
above_names name (e ∷ es) h = and_from _ _ (ap is_lt h.0) (above_names name es h.1)

rising_names : (es : List NameValue) → IsStrictlySortedBy string_cmp (keys_of es) → rising (names es) ≡ true
unfolding IsStrictlySortedBy
rising_names [] h = refl
rising_names (e ∷ es) h = and_from _ _ (above_names e.0 es h.0) (rising_names es h.1)

nothing_more : (xs : List (List ℕ)) → xs ++ [] ≡ xs
nothing_more [] = refl
nothing_more (x ∷ xs) = ap (λ (ys : List (List ℕ)). x ∷ ys) (nothing_more xs)

pushed_key : (out : List Field) (f : Field) (rest : List (List ℕ)) → keys (out ++ f ∷ []) ++ rest ≡ keys out ++ f.key ∷ rest
pushed_key [] f rest = refl
pushed_key (g ∷ out) f rest = ap (λ (ks : List (List ℕ)). g.key ∷ ks) (pushed_key out f rest)

pub names_next : (here next : List NameValue) (name : String Global) (j : Value) (out : List Field) (k : List ℕ) (f : Field) (all : List (List ℕ))
    → here ≡ (name, j) ∷ next → f.key ≡ k → text_from (string_bytes name) ≡ Ok k → keys out ++ names here ≡ all → keys (out ++ f ∷ []) ++ names next ≡ all
names_next here next name j out k f all step fk named so_far =
    let same : f.key ≡ string_bytes name = fk ∙ sym (text_is (string_bytes name) k named) in
    pushed_key out f (names next) ∙ (λ i. keys out ++ same i ∷ names next) ∙ ap (λ (es : List NameValue). keys out ++ names es) (sym step) ∙ so_far

pub fields_sorted : (es rest : List NameValue) (out : List Field) → IsStrictlySortedBy string_cmp (keys_of es) → keys out ++ names rest ≡ names es → rest ≡ [] → is_sorted key_cmp (map of_field out) ≡ true
fields_sorted es rest out sorted moved over =
    let whole : keys out ≡ names es = sym (nothing_more (keys out)) ∙ ap (λ (ds : List NameValue). keys out ++ names ds) (sym over) ∙ moved in
    rising_keys out ∙ ap rising whole ∙ rising_names es sorted

-- ---- what a reader says of each element in turn
module _ {A : Type 0} (f : Data → Result A JsonWhy) where
  abbrev pub Along : List A → List Value → List Value → Type 0
  Along out rest vs = all_from f (items_view vs) ≡ result_map (λ (xs : List A). out ++ xs) (all_from f (items_view rest))

  put_on : (out : List A) (a : A) (xs : List A) → out ++ a ∷ xs ≡ (out ++ a ∷ []) ++ xs
  put_on [] a xs = refl
  put_on (o ∷ out) a xs = ap (λ (ys : List A). o ∷ ys) (put_on out a xs)

  one_on : (out : List A) (a : A) (r : Result (List A) JsonWhy) → result_map (λ (xs : List A). out ++ xs) (result_map (λ (xs : List A). a ∷ xs) r) ≡ result_map (λ (xs : List A). (out ++ a ∷ []) ++ xs) r
  one_on out a (Ok xs) = ap Ok (put_on out a xs)
  one_on out a (Err w) = refl

  all_at : (vs : List Value) (i : ℕ) (v : Value) → i < length vs → v ≡ get_or vs i v → all_from f (items_view (drop i vs)) ≡ and_then (λ (a : A). result_map (λ (xs : List A). a ∷ xs) (all_from f (items_view (drop (i + 1) vs)))) (f (view v))
  all_at vs i v h is = ap (all_from f) (items_at vs i v h is)

  pub all_next : (vs : List Value) (i : ℕ) (v : Value) (out : List A) (a : A) → i < length vs → v ≡ get_or vs i v → f (view v) ≡ Ok a → Along out (drop i vs) vs → Along (out ++ a ∷ []) (drop (i + 1) vs) vs
  all_next vs i v out a h is found so_far =
      let rest = all_from f (items_view (drop (i + 1) vs)) in
      so_far ∙ ap (result_map (λ (xs : List A). out ++ xs)) (all_at vs i v h is ∙ ap (and_then (λ (b : A). result_map (λ (xs : List A). b ∷ xs) rest)) found) ∙ one_on out a rest

  pub all_fail : (vs : List Value) (i : ℕ) (v : Value) (out : List A) (e : JsonFault) → i < length vs → v ≡ get_or vs i v → Fails e (f (view v)) → Along out (drop i vs) vs → Fails e (all_from f (items_view vs))
  all_fail vs i v out e h is failed so_far =
      let rest = all_from f (items_view (drop (i + 1) vs)) in
      let next : Result A JsonWhy → Result (List A) JsonWhy = and_then (λ (b : A). result_map (λ (xs : List A). b ∷ xs) rest) in
      subst (Fails e) (sym (so_far ∙ ap (result_map (λ (xs : List A). out ++ xs)) (all_at vs i v h is)))
      (passed_map (λ (xs : List A). out ++ xs) e (next (f (view v))) (passed_then (λ (b : A). result_map (λ (xs : List A). b ∷ xs) rest) e (f (view v)) failed))

  ended : (out : List A) → out ++ [] ≡ out
  ended [] = refl
  ended (o ∷ out) = ap (λ (ys : List A). o ∷ ys) (ended out)

  past : (vs : List Value) (i : ℕ) → length vs ≤ i → drop i vs ≡ []
  past vs i h = grind (arith, common_steps)

  pub all_done : (vs : List Value) (i : ℕ) (out : List A) → length vs ≤ i → Along out (drop i vs) vs → all_from f (items_view vs) ≡ Ok out
  all_done vs i out h so_far = so_far ∙ ap (λ (ws : List Value). result_map (λ (xs : List A). out ++ xs) (all_from f (items_view ws))) (past vs i h) ∙ ap Ok (ended out)
