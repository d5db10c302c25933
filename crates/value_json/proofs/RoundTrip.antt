-- What is printed is read back as the same value.
use Rattle.std.proofs.Common.{◌≡◌, ℕ, ◌+◌, ◌*◌, ◌≤◌, ◌^◌, ℤ, pos, negsuc, List, [], ◌∷◌, ◌++◌, length, Bool, true, false, cond, ◌&&◌, ◌||◌, Option, Some, None, Result, Ok, refl, sym, ap, ◌∙◌, arith, Less, Equal, Greater, Ordering, leb-true, ltb-false}
use Rattle.std.proofs.lemmas.Bool.Decides.{nat_tests}
use Rattle.std.specs.Prelude.{is_some, nat_le, nat_lt, codes}
use Rattle.std.specs.Str.{bytes_eq}
use Rattle.std.specs.FinMap.Entries.{find, put, is_sorted, below_all}
use Rattle.std.specs.Ordering.{is_eq, is_lt, ordering_reverse}
use Rattle.serde_json.specs.Data.{Data, object, Members, no_members, member, depth, items_depth, members_depth}
use Rattle.serde_json.specs.Find.{of_integer}
use Rattle.value_model.specs.declared.key.Key.{Key}
use Rattle.value_model.specs.declared.key.Key.TheVariants as key
use Rattle.value_model.specs.declared.kind.Kind.TheVariants as kind
use Rattle.value_model.specs.declared.limit.Limit.{Limit}
use Rattle.value_model.specs.declared.limit.Limit.TheVariants as limit
use Rattle.value_model.specs.Limits.{value_limit}
use Rattle.value_model.specs.Order.{key_cmp, key_total, key_exact, letters}
use Rattle.value_model.specs.Plain as plain
use Rattle.value_model.specs.Plain.{Plain, Entries, prim, node, none, entry, entries, list_of, deepest, weight}
use Rattle.value_model.proofs.Steps.{entries-list_of}
use Rattle.value_model.specs.Well.{all_fit, fits}
use Rattle.value_model.specs.Search.{left_true, right_true}
use Rattle.value_json_spec.specs.Answers.{and_then, result_map}
use Rattle.value_json_spec.specs.Printing.{key_data, is_tag, is_tagged, object_data, keys_data, val_data, fields_data, elements_data, pairs_data}
use Rattle.value_json_spec.specs.Reading.{Table, safe_of, key_from, text_from, is_primitive, are_primitive, new_key_from, set_members, with_pair, walked, elements, fields, map_pairs, by_tag, limited, limited_by, val_from}
use Rattle.value_json_spec.specs.declared.why.JsonWhy.{JsonWhy}
use Rattle.value_json.specs.Sound.{is_sound_key, is_sound, all_sound}

-- ---- keys
safe_is : (b : Bool) (y : ℤ) → is_some (cond b (Some y) None) ≡ true → cond b (Some y) None ≡ Some y
safe_is true y h = refl
safe_is false y h = absurd (cc)

safe_back : (z : ℤ) → is_some (safe_of (of_integer z)) ≡ true → safe_of (of_integer z) ≡ Some z
safe_back (pos n) h = safe_is _ (pos n) h
safe_back (negsuc n) h = safe_is _ (negsuc n) h

short : (s : List ℕ) → nat_le (length s) (2 ^ 20) ≡ true → nat_lt (2 ^ 20) (length s) ≡ false
short s h = let le : length s ≤ 2 ^ 20 = leb-true _ _ h in grind (arith, nat_tests)

text_back : (s : List ℕ) → nat_le (length s) (2 ^ 20) ≡ true → text_from s ≡ Ok s
text_back s h = rw (short s h)

pub key_back : (k : Key) → is_sound_key k ≡ true → key_from (key_data k) ≡ Ok k
key_back key.Null h = refl
key_back (key.Bool b) h = refl
key_back (key.Int (pos n)) h = rw (safe_back (pos n) h)
key_back (key.Int (negsuc n)) h = rw (safe_back (negsuc n) h)
key_back (key.Text s) h = ap (result_map key.Text) (text_back s h)

prim_walked : (k : Key) → walked (key_data k) ≡ result_map prim (key_from (key_data k))
prim_walked key.Null = refl
prim_walked (key.Bool b) = refl
prim_walked (key.Int (pos n)) = refl
prim_walked (key.Int (negsuc n)) = refl
prim_walked (key.Text s) = refl

primitive : (k : Key) → is_primitive (key_data k) ≡ true
primitive key.Null = refl
primitive (key.Bool b) = refl
primitive (key.Int z) = refl
primitive (key.Text s) = refl

primitives : (es : Entries) → are_primitive (keys_data es) ≡ true
primitives none = refl
primitives (entry k v es) = rw (primitive k, primitives es)

-- ---- a key above those of a table goes last
less : (o : Ordering) → is_lt o ≡ true → o ≡ Less
less Less h = refl
less Equal h = absurd (cc)
less Greater h = absurd (cc)

above_last : (j : Key) (found : Table) (k : Key) (v : Plain) (rest : Table) → below_all key_cmp j (found ++ (k, v) ∷ rest) ≡ true → key_cmp j k ≡ Less
above_last j [] k v rest h = less _ (left_true _ _ h)
above_last j (e ∷ found) k v rest h = above_last j found k v rest (right_true _ _ h)

pub find_last : (found : Table) (k : Key) (v : Plain) (rest : Table) → is_sorted key_cmp (found ++ (k, v) ∷ rest) ≡ true → find key_cmp k found ≡ None
find_last [] k v rest h = refl
find_last (e ∷ found) k v rest h =
    let up = above_last e.0 found k v rest (left_true _ _ h) in
    let down : key_cmp k e.0 ≡ Greater = key_total.antisymm k e.0 ∙ ap ordering_reverse up in
    rw down (find_last found k v rest (right_true _ _ h))

pub put_last : (found : Table) (k : Key) (v : Plain) (rest : Table) → is_sorted key_cmp (found ++ (k, v) ∷ rest) ≡ true → put key_cmp k v found ≡ found ++ (k, v) ∷ []
put_last [] k v rest h = refl
put_last (e ∷ found) k v rest h =
    let up = above_last e.0 found k v rest (left_true _ _ h) in
    let down : key_cmp k e.0 ≡ Greater = key_total.antisymm k e.0 ∙ ap ordering_reverse up in
    rw down (ap (λ (es : Table). e ∷ es) (put_last found k v rest (right_true _ _ h)))

regroup : (found : Table) (e : Key × Plain) (rest : Table) → (found ++ e ∷ []) ++ rest ≡ found ++ e ∷ rest
regroup [] e rest = refl
regroup (d ∷ found) e rest = ap (λ (es : Table). d ∷ es) (regroup found e rest)

fresh : (k : Key) (found : Table) → is_sound_key k ≡ true → find key_cmp k found ≡ None → new_key_from (key_data k) found ≡ Ok k
fresh k found sound new = rw (key_back k sound, new)

whole : (found : Table) → found ++ [] ≡ found
whole [] = refl
whole (e ∷ found) = ap (λ (es : Table). e ∷ es) (whole found)

tied : (o : Ordering) → is_eq o ≡ true → o ≡ Equal
tied Less h = absurd (cc)
tied Equal h = refl
tied Greater h = absurd (cc)

same_member : (k : Key) (v : Plain) → fits kind.Set k v ≡ true → v ≡ prim k
same_member k (prim j) h = ap prim (sym (key_exact k j (tied (key_cmp k j) h)))
same_member k (node kind.Obj es) h = absurd (cc)
same_member k (node kind.List es) h = absurd (cc)
same_member k (node kind.Map es) h = absurd (cc)
same_member k (node kind.Set es) h = absurd (cc)

members_back : (es : Entries) (found : Table) → all_fit kind.Set es ≡ true → all_sound es ≡ true → is_sorted key_cmp (found ++ list_of es) ≡ true → set_members (keys_data es) found ≡ Ok (found ++ list_of es)
members_back none found f s o = ap Ok (sym (whole found))
members_back (entry k v es) found f s o =
    let here : v ≡ prim k = same_member k v (left_true _ _ f) in
    let sound = left_true _ _ (left_true _ _ s) in
    let put_here : put key_cmp k (prim k) found ≡ found ++ (k, v) ∷ [] = ap (λ (w : Plain). put key_cmp k w found) (sym here) ∙ put_last found k v (list_of es) o in
    let group = regroup found (k, v) (list_of es) in
    ap (and_then (λ (j : Key). set_members (keys_data es) (put key_cmp j (prim j) found))) (fresh k found sound (find_last found k v (list_of es) o))
    ∙ ap (set_members (keys_data es)) put_here
    ∙ members_back es (found ++ (k, v) ∷ []) (right_true _ _ f) (right_true _ _ s) (ap (is_sorted key_cmp) group ∙ o)
    ∙ ap Ok group

-- ---- tags
untagged : {X : Type 0} (p q r : Bool) (a b c d : X) → (p || q || r) ≡ false → cond p a (cond q b (cond r c d)) ≡ d
untagged false false false a b c d h = refl
untagged true q r a b c d h = absurd (cc)
untagged false true r a b c d h = absurd (cc)
untagged false false true a b c d h = absurd (cc)

no_tag : {X : Type 0} (name : List ℕ) (a b c d : X) → is_tag name ≡ false → by_tag name a b c d ≡ d
no_tag name a b c d h = untagged (bytes_eq name (codes "$map")) (bytes_eq name (codes "$set")) (bytes_eq name (codes "$obj")) a b c d h

-- an object of one member, in a tag or not
one_back : (b : Bool) (name : List ℕ) (d : Data) (es : Entries) → is_tag name ≡ b → fields (member name d no_members) ≡ Ok es
    → walked (cond b (object (member (codes "$obj") (object (member name d no_members)) no_members)) (object (member name d no_members))) ≡ Ok (node kind.Obj es)
one_back true name d es t h = ap (result_map (node kind.Obj)) h
one_back false name d es t h = no_tag name _ _ _ _ t ∙ ap (result_map (node kind.Obj)) h

object_back : (es : Entries) → fields (fields_data es) ≡ Ok es → walked (object_data (fields_data es)) ≡ Ok (node kind.Obj es)
object_back none h = refl
object_back (entry k v none) h = one_back (is_tag (letters k)) (letters k) (val_data v) (entry k v none) refl h
object_back (entry k v (entry l w es)) h = ap (result_map (node kind.Obj)) h

mutual
  pub walked_back : (v : Plain) → is_sound v ≡ true → walked (val_data v) ≡ Ok v
  walked_back (prim k) h = prim_walked k ∙ ap (result_map prim) (key_back k h)
  walked_back (node kind.Obj es) h = object_back es (fields_back es (right_true _ _ (left_true _ _ h)) (right_true _ _ h))
  walked_back (node kind.List es) h = ap (result_map (node kind.List)) (elements_back es (left_true (all_fit kind.List es) (all_sound es) h) (right_true (all_fit kind.List es) (all_sound es) h))
  walked_back (node kind.Map es) h = ap (result_map (λ (t : Table). node kind.Map (entries t))) (pairs_back es [] (right_true _ _ h) (left_true _ _ (left_true _ _ h))) ∙ ap (λ (ds : Entries). Ok (node kind.Map ds)) (entries-list_of es)
  walked_back (node kind.Set es) h =
      rw (primitives es) (ap (result_map (λ (t : Table). node kind.Set (entries t))) (members_back es [] (right_true _ _ (left_true _ _ h)) (right_true _ _ h) (left_true _ _ (left_true _ _ h))) ∙ ap (λ (ds : Entries). Ok (node kind.Set ds)) (entries-list_of es))

  fields_back : (es : Entries) → all_fit kind.Obj es ≡ true → all_sound es ≡ true → fields (fields_data es) ≡ Ok es
  fields_back none f s = refl
  fields_back (entry key.Null v es) f s = absurd (cc)
  fields_back (entry (key.Bool b) v es) f s = absurd (cc)
  fields_back (entry (key.Int z) v es) f s = absurd (cc)
  fields_back (entry (key.Text t) v es) f s =
      let both : (is_sound_key (key.Text t) && is_sound v) ≡ true = left_true _ _ s in
      let named = text_back t (left_true _ _ both) in
      let value = walked_back v (right_true _ _ both) in
      let rest = fields_back es f (right_true _ _ s) in
      rw (named, value, rest)

  elements_back : (es : Entries) → all_fit kind.List es ≡ true → all_sound es ≡ true → elements (elements_data es) ≡ Ok es
  elements_back none f s = refl
  elements_back (entry key.Null v es) f s =
      let value = walked_back v (left_true (is_sound v) (all_sound es) s) in
      let rest = elements_back es f (right_true (is_sound v) (all_sound es) s) in
      rw (value, rest)
  elements_back (entry (key.Bool b) v es) f s = absurd (cc)
  elements_back (entry (key.Int z) v es) f s = absurd (cc)
  elements_back (entry (key.Text t) v es) f s = absurd (cc)

  pairs_back : (es : Entries) (found : Table) → all_sound es ≡ true → is_sorted key_cmp (found ++ list_of es) ≡ true → map_pairs (pairs_data es) found ≡ Ok (found ++ list_of es)
  pairs_back none found s o = ap Ok (sym (whole found))
  pairs_back (entry k v es) found s o =
      let value = walked_back v (right_true _ _ (left_true _ _ s)) in
      let group = regroup found (k, v) (list_of es) in
      let one : with_pair (key_data k) (walked (val_data v)) found ≡ Ok (found ++ (k, v) ∷ []) =
      ap (λ (w : Result Plain JsonWhy). with_pair (key_data k) w found) value
      ∙ ap (and_then (λ (j : Key). Ok (put key_cmp j v found))) (fresh k found (left_true _ _ (left_true _ _ s)) (find_last found k v (list_of es) o))
      ∙ ap Ok (put_last found k v (list_of es) o) in
      ap (and_then (map_pairs (pairs_data es))) one ∙ pairs_back es (found ++ (k, v) ∷ []) (right_true _ _ s) (ap (is_sorted key_cmp) group ∙ o) ∙ ap Ok group

-- ---- limits
no_limit : (o : Option Limit) (v : Plain) → o ≡ None → limited_by v o ≡ Ok v
no_limit None v h = refl
no_limit (Some l) v h = absurd (cc)

-- the value is read back, where it is accepted
pub val_back : (v : Plain) → is_sound v ≡ true → value_limit v ≡ None → val_from (val_data v) ≡ Ok v
unfolding val_from
val_back v h accepted = ap (and_then limited) (walked_back v h) ∙ no_limit (value_limit v) v accepted

-- ---- levels: a container is printed in at most three
flat_key : (k : Key) → depth (key_data k) ≡ 0
flat_key key.Null = refl
flat_key (key.Bool b) = refl
flat_key (key.Int z) = refl
flat_key (key.Text s) = refl

flat_keys : (es : Entries) → items_depth (keys_data es) ≡ 0
flat_keys none = refl
flat_keys (entry k v es) = omega (arith, flat_key k, flat_keys es)

tagged_depth : (b : Bool) (name : List ℕ) (ms : Members) → depth (cond b (object (member name (object ms) no_members)) (object ms)) ≤ 2 + members_depth ms
tagged_depth true name ms = omega arith
tagged_depth false name ms = omega arith

mutual
  levels : (v : Plain) → depth (val_data v) ≤ 3 * plain.depth v
  levels (prim k) = omega (arith, flat_key k)
  levels (node kind.Obj es) = omega (arith, tagged_depth (is_tagged (fields_data es)) (codes "$obj") (fields_data es), fields_levels es)
  levels (node kind.List es) = omega (arith, elements_levels es)
  levels (node kind.Map es) = omega (arith, pairs_levels es)
  levels (node kind.Set es) = omega (arith, flat_keys es)

  fields_levels : (es : Entries) → members_depth (fields_data es) ≤ 3 * deepest es
  fields_levels none = omega arith
  fields_levels (entry k v es) = omega (arith, levels v, fields_levels es)

  elements_levels : (es : Entries) → items_depth (elements_data es) ≤ 3 * deepest es
  elements_levels none = omega arith
  elements_levels (entry k v es) = omega (arith, levels v, elements_levels es)

  -- a pair is a level of its own
  pairs_levels : (es : Entries) → items_depth (pairs_data es) ≤ 1 + 3 * deepest es
  pairs_levels none = omega arith
  pairs_levels (entry k v es) = omega (arith, flat_key k, levels v, pairs_levels es)

deep : (b : Bool) (o : Option Limit) → cond b (Some limit.TooDeep) o ≡ None → b ≡ false
deep true o h = absurd (cc)
deep false o h = refl

-- an accepted value is printed within the levels that are read
pub accepted_levels : (v : Plain) → value_limit v ≡ None → depth (val_data v) ≤ 127
accepted_levels v h = let shallow : plain.depth v ≤ 32 = ltb-false 32 (plain.depth v) (deep _ _ h) in omega (arith, levels v)
