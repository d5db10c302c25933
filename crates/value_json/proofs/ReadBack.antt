-- The compact text of JSON data with small integers and ascending names is read as that data.
use Rattle.std.proofs.Common.{◌≡◌, ℕ, suc, ◌+◌, ◌<◌, ◌≤◌, ◌^◌, max, pos, negsuc, List, [], ◌∷◌, ◌++◌, Bool, true, false, ◌&&◌, Option, Some, option_map, option_and_then, decimal, refl, sym, ap, ap₂, ◌∙◌, arith, ltb-true, append-nil, Less, Equal, Greater, Ordering}
use Rattle.std.specs.Prelude.{nat_lt}
use Rattle.std.specs.Fmt.{signed_decimal}
use Rattle.std.specs.Cmp.Lexicographic.{slice_cmp}
use Rattle.std.specs.Ordering.{is_lt, nat_cmp, ordering_reverse}
use Rattle.std.proofs.lemmas.Cmp.{nat_list_cmp_total}
use Rattle.json.specs.Json as json
use Rattle.json.specs.Print.{IsNumber}
use Rattle.json.specs.Token.{Token}
use Rattle.json.specs.Tree as tree
use Rattle.json.proofs.Printed.Decimals.{IsNumber-decimal, IsNumber-signed_decimal}
use Rattle.json.proofs.Printed.Tokens.{tokens-print}
use Rattle.json.proofs.Printed.Trees.{ArePrintable-json_tokens, value-json_tokens}
use Rattle.serde_json.specs.Data.{Num, unsigned, negative, float, Data, null, boolean, number, string, array, object, Items, no_items, item, Members, no_members, member, put, depth, items_depth, members_depth}
use Rattle.serde_json.specs.Read.{max_depth, read, number_of, of_json, of_items, of_members}
use Rattle.serde_json.specs.Written.{number_text, outline, items_outline, members_outline, compact_text}
use Rattle.serde_json.proofs.Numbers.{number_of-decimal, number_of-negative}
use Rattle.serde_json.proofs.Texts.{print-outline}
use Rattle.value_model.specs.Search.{left_true, right_true}
use Rattle.value_json.specs.Whole.{is_small, is_whole, items_whole, members_whole, all_above, is_ascending}

-- ---- numbers
number_read : (n : Num) → is_small n ≡ true → number_of (number_text n) ≡ Some n
number_read (unsigned n) h = let small : n < 2 ^ 53 = ltb-true n _ h in number_of-decimal n (omega (arith, small))
number_read (negative (pos n)) h = absurd (cc)
number_read (negative (negsuc n)) h = let small : n < 2 ^ 53 = ltb-true n _ h in number_of-negative n (omega (arith, small))
number_read (float x) h = absurd (cc)

is_number : (n : Num) → is_small n ≡ true → IsNumber (number_text n)
is_number (unsigned n) h = let small : n < 2 ^ 53 = ltb-true n _ h in IsNumber-decimal n (omega (arith, small))
is_number (negative (pos n)) h = absurd (cc)
is_number (negative (negsuc n)) h = let small : n < 2 ^ 53 = ltb-true n _ h in IsNumber-signed_decimal (negsuc n) (omega (arith, small))
is_number (float x) h = absurd (cc)

mutual
  numbers : (d : Data) → is_whole d ≡ true → tree.HasNumbers (outline d)
  numbers null h = tt
  numbers (boolean b) h = tt
  numbers (number n) h = is_number n h
  numbers (string s) h = tt
  numbers (array ds) h = items_numbers ds h
  numbers (object ms) h = members_numbers ms (right_true _ _ h)

  items_numbers : (ds : Items) → items_whole ds ≡ true → tree.ItemsHaveNumbers (items_outline ds)
  items_numbers no_items h = tt
  items_numbers (item d ds) h = (numbers d (left_true _ _ h), items_numbers ds (right_true _ _ h))

  members_numbers : (ms : Members) → members_whole ms ≡ true → tree.MembersHaveNumbers (members_outline ms)
  members_numbers no_members h = tt
  members_numbers (member k d ms) h = (numbers d (left_true _ _ h), members_numbers ms (right_true _ _ h))

-- ---- levels
mutual
  levels : (d : Data) → tree.depth (outline d) ≡ depth d
  levels null = refl
  levels (boolean b) = refl
  levels (number n) = refl
  levels (string s) = refl
  levels (array ds) = ap suc (items_levels ds)
  levels (object ms) = ap suc (members_levels ms)

  items_levels : (ds : Items) → tree.items_depth (items_outline ds) ≡ items_depth ds
  items_levels no_items = refl
  items_levels (item d ds) = ap₂ max (levels d) (items_levels ds)

  members_levels : (ms : Members) → tree.members_depth (members_outline ms) ≡ members_depth ms
  members_levels no_members = refl
  members_levels (member k d ms) = ap₂ max (levels d) (members_levels ms)

-- ---- members: a name above those before it goes last
abbrev after : Members → Members → Members
after no_members ms = ms
after (member k d done) ms = member k d (after done ms)

after_none : (ms : Members) → after ms no_members ≡ ms
after_none no_members = refl
after_none (member k d ms) = ap (member k d) (after_none ms)

less : (o : Ordering) → is_lt o ≡ true → o ≡ Less
less Less h = refl
less Equal h = absurd (cc)
less Greater h = absurd (cc)

above_next : (l : List ℕ) (done rest : Members) (k : List ℕ) (d : Data) → all_above l (after done (member k d rest)) ≡ true → slice_cmp nat_cmp l k ≡ Less
above_next l no_members rest k d h = less _ (left_true _ _ h)
above_next l (member m e done) rest k d h = above_next l done rest k d (right_true _ _ h)

put_next : (done rest : Members) (k : List ℕ) (d : Data) → is_ascending (after done (member k d rest)) ≡ true → after (put k d done) rest ≡ after done (member k d rest)
put_next no_members rest k d h = refl
put_next (member l e done) rest k d h =
    let up = above_next l done rest k d (left_true _ _ h) in
    let down : slice_cmp nat_cmp k l ≡ Greater = nat_list_cmp_total.antisymm k l ∙ ap ordering_reverse up in
    rw down (ap (member l e) (put_next done rest k d (right_true _ _ h)))

mutual
  reads : (d : Data) → is_whole d ≡ true → of_json (outline d) ≡ Some d
  reads null h = refl
  reads (boolean b) h = refl
  reads (number n) h = ap (option_map number) (number_read n h)
  reads (string s) h = refl
  reads (array ds) h = ap (option_map array) (items_read ds h)
  reads (object ms) h = ap (option_map object) (members_read ms no_members (right_true _ _ h) (left_true _ _ h))

  items_read : (ds : Items) → items_whole ds ≡ true → of_items (items_outline ds) ≡ Some ds
  items_read no_items h = refl
  items_read (item d ds) h =
      ap (option_and_then (λ e. option_map (item e) (of_items (items_outline ds)))) (reads d (left_true _ _ h))
      ∙ ap (option_map (item d)) (items_read ds (right_true _ _ h))

  members_read : (ms found : Members) → members_whole ms ≡ true → is_ascending (after found ms) ≡ true → of_members (members_outline ms) found ≡ Some (after found ms)
  members_read no_members found h up = ap Some (sym (after_none found))
  members_read (member k d ms) found h up =
      let next = put_next found ms k d up in
      ap (option_and_then (λ e. of_members (members_outline ms) (put k e found))) (reads d (left_true _ _ h))
      ∙ members_read ms (put k d found) (right_true _ _ h) (ap is_ascending next ∙ up)
      ∙ ap Some next

-- the data of a text whose tokens are read as JSON
abbrev whole : Option (json.Json × List Token) → Option Data
whole read = option_and_then of_json (option_and_then (λ p. json.if_last p.0 p.1) read)

pub read_back : (d : Data) → is_whole d ≡ true → depth d ≤ max_depth → read (compact_text d) ≡ Some d
read_back d small shallow =
    let j = outline d in
    let printed = tokens-print (tree.json_tokens j) (ArePrintable-json_tokens j (numbers d small)) in
    ap read (sym (print-outline d))
    ∙ ap whole (ap (json.value max_depth) (printed ∙ sym (append-nil (tree.json_tokens j))) ∙ value-json_tokens j max_depth [] (omega (arith, levels d, shallow)))
    ∙ reads d small
