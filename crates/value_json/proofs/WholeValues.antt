-- What is printed for a sound value is read back.
use Rattle.std.proofs.Common.{◌≡◌, ℕ, ◌<◌, ◌≤◌, ◌^◌, ℤ, pos, negsuc, List, [], ◌∷◌, Bool, true, false, cond, ◌&&◌, Some, None, refl, sym, ap, ◌∙◌, arith, leb-true}
use Rattle.std.proofs.lemmas.Bool.Decides.{nat_tests}
use Rattle.std.proofs.lemmas.Bool.{and_from}
use Rattle.std.specs.Prelude.{nat_lt, nat_le, is_some, codes, int_lt}
use Rattle.std.specs.FinMap.Entries.{is_sorted, below_all}
use Rattle.serde_json.specs.Data.{Num, unsigned, negative, Data, object, Members, no_members, member}
use Rattle.serde_json.specs.Find.{of_integer}
use Rattle.value_model.specs.declared.key.Key.{Key}
use Rattle.value_model.specs.declared.key.Key.TheVariants as key
use Rattle.value_model.specs.declared.kind.Kind.TheVariants as kind
use Rattle.value_model.specs.Order.{key_cmp, letters}
use Rattle.value_model.specs.Plain.{Plain, Entries, prim, node, none, entry, list_of}
use Rattle.value_model.specs.Well.{all_fit}
use Rattle.value_model.specs.Search.{left_true, right_true}
use Rattle.value_json_spec.specs.Printing.{key_data, is_tagged, object_data, keys_data, val_data, fields_data, elements_data, pairs_data}
use Rattle.value_json_spec.specs.Reading.{safe_of}
use Rattle.value_json.specs.Sound.{is_sound_key, is_sound, all_sound}
use Rattle.value_json.specs.Whole.{is_small, is_whole, items_whole, members_whole, all_above, is_ascending}

tested : {X : Type 0} (b : Bool) (x : X) → is_some (cond b (Some x) None) ≡ true → b ≡ true
tested true x h = refl
tested false x h = absurd (cc)

small : (z : ℤ) → is_some (safe_of (of_integer z)) ≡ true → is_small (of_integer z) ≡ true
small (pos n) h = let le : n ≤ 9007199254740991 = leb-true _ _ (tested (nat_le n 9007199254740991) (pos n) h) in grind (arith, nat_tests)
small (negsuc n) h = let lt = tested (int_lt (negsuc 9007199254740991) (negsuc n)) (negsuc n) h in grind (arith, nat_tests)

whole_key : (k : Key) → is_sound_key k ≡ true → is_whole (key_data k) ≡ true
whole_key key.Null h = refl
whole_key (key.Bool b) h = refl
whole_key (key.Int z) h = small z h
whole_key (key.Text s) h = refl

whole_keys : (es : Entries) → all_sound es ≡ true → items_whole (keys_data es) ≡ true
whole_keys none h = refl
whole_keys (entry k v es) h = and_from _ _ (whole_key k (left_true _ _ (left_true _ _ h))) (whole_keys es (right_true _ _ h))

-- the names of an object ascend as its keys do
above : (l : List ℕ) (es : Entries) → all_fit kind.Obj es ≡ true → below_all key_cmp (key.Text l) (list_of es) ≡ true → all_above l (fields_data es) ≡ true
above l none f h = refl
above l (entry key.Null v es) f h = absurd (cc)
above l (entry (key.Bool b) v es) f h = absurd (cc)
above l (entry (key.Int z) v es) f h = absurd (cc)
above l (entry (key.Text t) v es) f h = and_from _ _ (left_true _ _ h) (above l es f (right_true _ _ h))

ascend : (es : Entries) → all_fit kind.Obj es ≡ true → is_sorted key_cmp (list_of es) ≡ true → is_ascending (fields_data es) ≡ true
ascend none f h = refl
ascend (entry key.Null v es) f h = absurd (cc)
ascend (entry (key.Bool b) v es) f h = absurd (cc)
ascend (entry (key.Int z) v es) f h = absurd (cc)
ascend (entry (key.Text t) v es) f h = and_from _ _ (above t es f (left_true _ _ h)) (ascend es f (right_true _ _ h))

alone_or : (b : Bool) (ms : Members) → is_whole (object ms) ≡ true → is_whole (cond b (object (member (codes "$obj") (object ms) no_members)) (object ms)) ≡ true
alone_or true ms h = and_from _ true h refl
alone_or false ms h = h

mutual
  pub whole : (v : Plain) → is_sound v ≡ true → is_whole (val_data v) ≡ true
  whole (prim k) h = whole_key k h
  whole (node kind.Obj es) h =
      let fit = right_true _ _ (left_true _ _ h) in
      alone_or (is_tagged (fields_data es)) (fields_data es) (and_from _ _ (ascend es fit (left_true _ _ (left_true _ _ h))) (whole_fields es (right_true _ _ h)))
  whole (node kind.List es) h = whole_elements es (right_true (all_fit kind.List es) (all_sound es) h)
  whole (node kind.Map es) h = and_from _ true (whole_pairs es (right_true _ _ h)) refl
  whole (node kind.Set es) h = and_from _ true (whole_keys es (right_true _ _ h)) refl

  whole_fields : (es : Entries) → all_sound es ≡ true → members_whole (fields_data es) ≡ true
  whole_fields none h = refl
  whole_fields (entry k v es) h = and_from _ _ (whole v (right_true _ _ (left_true _ _ h))) (whole_fields es (right_true _ _ h))

  whole_elements : (es : Entries) → all_sound es ≡ true → items_whole (elements_data es) ≡ true
  whole_elements none h = refl
  whole_elements (entry k v es) h = and_from _ _ (whole v (right_true _ _ (left_true _ _ h))) (whole_elements es (right_true _ _ h))

  whole_pairs : (es : Entries) → all_sound es ≡ true → items_whole (pairs_data es) ≡ true
  whole_pairs none h = refl
  whole_pairs (entry k v es) h =
      and_from _ _ (and_from _ _ (whole_key k (left_true _ _ (left_true _ _ h))) (and_from _ true (whole v (right_true _ _ (left_true _ _ h))) refl)) (whole_pairs es (right_true _ _ h))
