-- The objects of a plain value may be objects of the heap that they are added to: laws.
use Rattle.std.proofs.Common.{◌≡◌, ℕ, ◌+◌, ◌≤◌, ◌^◌, List, [], ◌∷◌, ◌++◌, length, map, refl, ap, sym, ◌∙◌, subst, arith, true, false}
use Rattle.std.proofs.lemmas.List.{map-append, length-map}
use Rattle.std.specs.Prelude.{◌&&◌, ◌||◌, None, Some, nat_lt, if◌then◌else◌}
use Rattle.std.specs.FinMap.Entries.{is_sorted, below_all}
use Rattle.std.specs.Ordering.{is_eq, is_lt}
use Rattle.value_model.specs.declared.key.Key.{Key}
use Rattle.value_model.specs.declared.key.Key.TheVariants as key
use Rattle.value_model.specs.declared.kind.Kind.{Kind}
use Rattle.value_model.specs.declared.kind.Kind.TheVariants as kind
use Rattle.value_model.specs.declared.limit.Limit.TheVariants as limit
use Rattle.value_model.specs.Limits.{is_long_key, is_long_text, is_reserved_text, has_long_key, any_long_key, has_reserved_key, any_reserved_key, value_limit}
use Rattle.value_model.specs.Order.{key_cmp}
use Rattle.value_model.specs.Places.{ascends_at}
use Rattle.value_model.specs.Plain as plain_value
use Rattle.value_model.specs.Plain.{Plain, Entries, list_of}
use Rattle.value_model.specs.Well.{well, all_fit, all_well}
use Rattle.value_model.specs.Search.{left_true, right_true}
use Rattle.numbered.proofs.Laws.{length_post, containers_numbered, places_le_values, values_le_weight}
use Rattle.numbered.specs.Loading.{places, places_in, numbered, numbered_in, post_order, post_orders}
use Rattle.numbered.specs.Tree.{Tree, node}
use Rattle.run_heap.specs.declared.value.Rv.{Rv}
use Rattle.run_heap.specs.declared.content.Content.{Content}
use Rattle.run_heap.specs.Heap.{Heap}
use Rattle.run_heap.specs.Laws.{AllContents, left_false, right_false, value_long, value_reserved}
use Rattle.run_heap.specs.Operations.{named_value, named_table, literal, literals, with_plain, plain_value as value_of}
use Rattle.draft_literals.specs.Making.{IsMade}
use Rattle.draft_core.specs.declared.scope.Scope.{Scope}
use Rattle.draft_core.proofs.Kept.{scope_is, next_is}
use Rattle.draft_core.specs.Seen.{heap}
use Rattle.run_heap.specs.Sound.{RowsStored, IsTable, all_stand, ascends}

-- ---- the keys of a literal are the value's
below_named : (scope : ℕ) (x : Key) (n : ℕ) (es : Entries) → below_all key_cmp x (named_table scope (numbered_in n es)) ≡ below_all key_cmp x (list_of es)
below_named scope x n plain_value.none = refl
below_named scope x n (plain_value.entry k v es) = ap (λ b. is_lt (key_cmp x k) && b) (below_named scope x (n + places v) es)

sorted_named : (scope n : ℕ) (es : Entries) → is_sorted key_cmp (named_table scope (numbered_in n es)) ≡ is_sorted key_cmp (list_of es)
sorted_named scope n plain_value.none = refl
sorted_named scope n (plain_value.entry k v es) = λ i. below_named scope k (n + places v) es i && sorted_named scope (n + places v) es i

ascends_named : (of : Kind) (scope n : ℕ) (es : Entries) → ascends_at of (list_of es) ≡ true → ascends of (named_table scope (numbered_in n es)) ≡ true
ascends_named kind.List scope n es h = refl
ascends_named kind.Obj scope n es h = sorted_named scope n es ∙ h
ascends_named kind.Map scope n es h = sorted_named scope n es ∙ h
ascends_named kind.Set scope n es h = sorted_named scope n es ∙ h

stand_named : (of : Kind) (scope n : ℕ) (es : Entries) → all_fit of es ≡ true → any_long_key es ≡ false → any_reserved_key of es ≡ false → all_stand of (named_table scope (numbered_in n es)) ≡ true
stand_named of scope n plain_value.none f l r = refl
stand_named kind.Obj scope n (plain_value.entry (key.Text s) v es) f l r =
    let a : is_long_text s ≡ false = left_false _ _ (left_false _ _ l) in
    let b : is_reserved_text s ≡ false = left_false _ _ (left_false _ _ r) in
    rw (a, b) (stand_named kind.Obj scope (n + places v) es f (right_false _ _ l) (right_false _ _ r))
stand_named kind.Obj scope n (plain_value.entry key.Null v es) f l r = absurd (cc)
stand_named kind.Obj scope n (plain_value.entry (key.Bool b) v es) f l r = absurd (cc)
stand_named kind.Obj scope n (plain_value.entry (key.Int i) v es) f l r = absurd (cc)
stand_named kind.List scope n (plain_value.entry key.Null v es) f l r = stand_named kind.List scope (n + places v) es f (right_false _ _ l) (right_false _ _ r)
stand_named kind.List scope n (plain_value.entry (key.Bool b) v es) f l r = absurd (cc)
stand_named kind.List scope n (plain_value.entry (key.Int i) v es) f l r = absurd (cc)
stand_named kind.List scope n (plain_value.entry (key.Text s) v es) f l r = absurd (cc)
stand_named kind.Map scope n (plain_value.entry k v es) f l r =
    let a : is_long_key k ≡ false = left_false _ _ (left_false _ _ l) in
    rw a (stand_named kind.Map scope (n + places v) es f (right_false _ _ l) (right_false _ _ r))
stand_named kind.Set scope n (plain_value.entry k (plain_value.prim j) es) f l r =
    let a : is_long_key k ≡ false = left_false (is_long_key k) false (left_false (is_long_key k || false) (any_long_key es) l) in
    let e : is_eq (key_cmp k j) ≡ true = left_true _ _ f in
    rw (a, e) (stand_named kind.Set scope (n + 0) es (right_true _ _ f) (right_false _ _ l) r)
stand_named kind.Set scope n (plain_value.entry k (plain_value.node of ds) es) f l r = absurd (cc)

stored_named : (h : Heap) (n : ℕ) (es : Entries) → n + places_in es ≤ h.next → RowsStored h (named_table h.scope (numbered_in n es))
stored_named h n plain_value.none le = tt
stored_named h n (plain_value.entry k (plain_value.prim j) es) le = (tt, stored_named h (n + 0) es (omega (arith, le)))
stored_named h n (plain_value.entry k (plain_value.node of ds) es) le = ((refl, omega (arith, le)), stored_named h (n + places (plain_value.node of ds)) es (omega (arith, le)))

-- ---- the objects
contents_append : (h : Heap) (cs ds : List Content) → AllContents h cs → AllContents h ds → AllContents h (cs ++ ds)
contents_append h [] ds a b = b
contents_append h (c ∷ cs) ds a b = (a.0, contents_append h cs ds a.1 b)

reserved_inside : (of : Kind) (k : Key) (v : Plain) (es : Entries) → any_reserved_key of (plain_value.entry k v es) ≡ false → has_reserved_key v ≡ false
reserved_inside kind.Obj k v es r = right_false _ _ (left_false _ _ r)
reserved_inside kind.List k v es r = left_false _ _ r
reserved_inside kind.Map k v es r = left_false _ _ r
reserved_inside kind.Set k v es r = left_false _ _ r

reserved_after : (of : Kind) (k : Key) (v : Plain) (es : Entries) → any_reserved_key of (plain_value.entry k v es) ≡ false → any_reserved_key of es ≡ false
reserved_after kind.Obj k v es r = right_false _ _ r
reserved_after kind.List k v es r = right_false _ _ r
reserved_after kind.Map k v es r = right_false _ _ r
reserved_after kind.Set k v es r = right_false _ _ r

mutual
  pub literals_stand : (h : Heap) (n : ℕ) (v : Plain) → well v ≡ true → has_long_key v ≡ false → has_reserved_key v ≡ false → n + places v ≤ h.next → AllContents h (map (literal h.scope) (post_order (numbered n v)))
  literals_stand h n (plain_value.prim k) w l r le = tt
  literals_stand h n (plain_value.node of es) w l r le =
      let bs = numbered_in n es in
      let own : IsTable h of (named_table h.scope bs) = record {
        ascends = ascends_named of h.scope n es (left_true _ _ (left_true _ _ w));
        stand = stand_named of h.scope n es (right_true _ _ (left_true _ _ w)) l r;
        stored = stored_named h n es (omega (arith, le));
      } in
      subst (AllContents h) (sym (map-append (literal h.scope) (post_orders bs) (node (n + places_in es) of bs ∷ [])))
      (contents_append h (map (literal h.scope) (post_orders bs)) _ (all_literals_stand h of n es (right_true _ _ w) l r (omega (arith, le))) ((own, tt), tt))

  all_literals_stand : (h : Heap) (of : Kind) (n : ℕ) (es : Entries) → all_well es ≡ true → any_long_key es ≡ false → any_reserved_key of es ≡ false → n + places_in es ≤ h.next → AllContents h (map (literal h.scope) (post_orders (numbered_in n es)))
  all_literals_stand h of n plain_value.none w l r le = tt
  all_literals_stand h of n (plain_value.entry k v es) w l r le =
      subst (AllContents h) (sym (map-append (literal h.scope) (post_order (numbered n v)) (post_orders (numbered_in (n + places v) es))))
      (contents_append h (map (literal h.scope) (post_order (numbered n v))) _
      (literals_stand h n v (left_true _ _ w) (right_false _ _ (left_false _ _ l)) (reserved_inside of k v es r) (omega (arith, le)))
      (all_literals_stand h of (n + places v) es (right_true _ _ w) (right_false _ _ l) (reserved_after of k v es r) (omega (arith, le))))

-- ---- a value that may be an object's
light_value : (v : Plain) → value_limit v ≡ None → plain_value.weight v ≤ 2 ^ 20
light_value v = elim (nat_lt 32 (plain_value.depth v)) as (λ a. (if a then Some limit.TooDeep else (if nat_lt (2 ^ 20) (plain_value.weight v) then Some limit.TooBig else (if has_long_key v then Some limit.KeyTooLong else (if has_reserved_key v then Some limit.ReservedKey else None)))) ≡ None → plain_value.weight v ≤ 2 ^ 20) [
  | true ↦ λ h. absurd (cc)
  | false ↦ elim (nat_lt (2 ^ 20) (plain_value.weight v)) as (λ a. nat_lt (2 ^ 20) (plain_value.weight v) ≡ a → (if a then Some limit.TooBig else (if has_long_key v then Some limit.KeyTooLong else (if has_reserved_key v then Some limit.ReservedKey else None))) ≡ None → plain_value.weight v ≤ 2 ^ 20) [
    | true ↦ λ p h. absurd (cc)
    | false ↦ λ p h. grind (arith, p)
  ] refl
]

pub few_places : (v : Plain) → value_limit v ≡ None → places v ≤ 2 ^ 20
few_places v h = let w = light_value v h in let a = places_le_values v in let b = values_le_weight v in omega (arith, w, a, b)

pub plain_contents : (h : Heap) (v : Plain) → well v ≡ true → value_limit v ≡ None → AllContents (with_plain v h) (literals h v)
plain_contents h v w l =
    let count : length (literals h v) ≡ places v = length-map (post_order (numbered h.next v)) (literal h.scope) ∙ length_post (numbered h.next v) ∙ containers_numbered h.next v in
    literals_stand (with_plain v h) h.next v w (value_long v l) (value_reserved v l) (omega (arith, count))

-- ---- what was made is what the table of operations says
pub made_literals : (ts : List Tree) (s : Scope) (first : ℕ) (v : Plain) (old new : List Content) (w : Rv) → first ≡ s.drafts + length s.later.items → old ≡ [] → IsMade s.number first v old new w → record { objects : new ≡ literals (heap ts s) v; value : w ≡ value_of (heap ts s) v }
made_literals ts s first v old new w f nothing m =
    let l = ap length nothing in
    let next = next_is ts s in
    let name : first + length old ≡ (heap ts s).next = omega (arith, f, l, next) in
    let scope = sym (scope_is ts s) in
    record {
      objects = m.0 ∙ (λ i. nothing i ++ map (literal (scope i)) (post_order (numbered (name i) v)));
      value = m.1 ∙ (λ i. named_value (scope i) (numbered (name i) v));
    }
