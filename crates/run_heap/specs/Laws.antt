-- What every heap of a run keeps.
use Rattle.std.proofs.Common.{◌≡◌, ℕ, zero, suc, ◌+◌, ◌-◌, ◌≤◌, List, [], ◌∷◌, refl, ap, ◌∙◌, subst, arith, Bool, true, false}
use Rattle.std.specs.Prelude.{◌&&◌, ◌||◌, ◌^◌, nat_lt, if◌then◌else◌, Some, None, ⊤}
use Rattle.std.specs.FinMap.Entries.{is_sorted, below_all}
use Rattle.std.specs.Ordering.{is_eq, is_lt}
use Rattle.value_model.specs.declared.key.Key.{Key}
use Rattle.value_model.specs.declared.key.Key.TheVariants as key
use Rattle.value_model.specs.declared.kind.Kind.{Kind}
use Rattle.value_model.specs.declared.kind.Kind.TheVariants as kind
use Rattle.value_model.specs.declared.limit.Limit.TheVariants as limit
use Rattle.value_model.specs.Limits.{is_long_key, is_long_text, is_reserved_text, has_long_key, any_long_key, has_reserved_key, any_reserved_key, value_limit, state_limit}
use Rattle.value_model.specs.Order.{key_cmp}
use Rattle.value_model.specs.Places.{ascends_at}
use Rattle.value_model.specs.Plain as plain_value
use Rattle.value_model.specs.Plain.{Plain, list_of}
use Rattle.value_model.specs.Well.{well, all_fit}
use Rattle.value_model.specs.Search.{left_true, right_true}
use Rattle.numbered.specs.Laws.{well_at, accepted_at}
use Rattle.numbered.specs.Store.{IsStore, IsOf}
use Rattle.numbered.specs.Tree.{Tree, Branches, prim, node, none, branch, plain, plains, containers, containers_in}
use Rattle.run_heap.specs.declared.value.Rv.TheVariants.{Obj}
use Rattle.run_heap.specs.declared.value.Given.{Given}
use Rattle.run_heap.specs.declared.value.Given.TheVariants as given
use Rattle.run_heap.specs.declared.content.Content.{Content}
use Rattle.run_heap.specs.Heap.{Heap, after, given_table, given_content, opened}
use Rattle.run_heap.specs.Operations.{source_in}
use Rattle.run_heap.specs.Sound.{RowsStored, all_stand, ascends, IsTable, IsContent, HasSource}

pub left_false : (a b : Bool) → (a || b) ≡ false → a ≡ false
left_false true b h = h
left_false false b h = refl

pub right_false : (a b : Bool) → (a || b) ≡ false → b ≡ false
right_false true b h = absurd (cc)
right_false false b h = h

-- ---- values and tables of a heap that goes on
pub record Onwards (g h : Heap) : Type 0 where
  pub scope : h.scope ≡ g.scope
  pub states : h.states ≡ g.states
  pub more : g.next ≤ h.next

-- ---- its tables
below_given : (g : Given) (x : Key) (es : Branches) → below_all key_cmp x (given_table g es) ≡ below_all key_cmp x (list_of (plains es))
below_given g x none = refl
below_given g x (branch k v es) = ap (λ b. is_lt (key_cmp x k) && b) (below_given (after g (containers v)) x es)

pub sorted_given : (g : Given) (es : Branches) → is_sorted key_cmp (given_table g es) ≡ is_sorted key_cmp (list_of (plains es))
sorted_given g none = refl
sorted_given g (branch k v es) = λ i. below_given (after g (containers v)) k es i && sorted_given (after g (containers v)) es i

pub ascends_given : (of : Kind) (g : Given) (es : Branches) → ascends_at of (list_of (plains es)) ≡ true → ascends of (given_table g es) ≡ true
ascends_given kind.List g es h = refl
ascends_given kind.Obj g es h = sorted_given g es ∙ h
ascends_given kind.Map g es h = sorted_given g es ∙ h
ascends_given kind.Set g es h = sorted_given g es ∙ h

pub stand_given : (of : Kind) (g : Given) (es : Branches) → all_fit of (plains es) ≡ true → any_long_key (plains es) ≡ false → any_reserved_key of (plains es) ≡ false → all_stand of (given_table g es) ≡ true
stand_given of g none f l r = refl
stand_given kind.Obj g (branch (key.Text s) v es) f l r =
    let a : is_long_text s ≡ false = left_false _ _ (left_false _ _ l) in
    let b : is_reserved_text s ≡ false = left_false _ _ (left_false _ _ r) in
    rw (a, b) (stand_given kind.Obj (after g (containers v)) es f (right_false _ _ l) (right_false _ _ r))
stand_given kind.Obj g (branch key.Null v es) f l r = absurd (cc)
stand_given kind.Obj g (branch (key.Bool b) v es) f l r = absurd (cc)
stand_given kind.Obj g (branch (key.Int n) v es) f l r = absurd (cc)
stand_given kind.List g (branch key.Null v es) f l r = stand_given kind.List (after g (containers v)) es f (right_false _ _ l) (right_false _ _ r)
stand_given kind.List g (branch (key.Bool b) v es) f l r = absurd (cc)
stand_given kind.List g (branch (key.Int n) v es) f l r = absurd (cc)
stand_given kind.List g (branch (key.Text s) v es) f l r = absurd (cc)
stand_given kind.Map g (branch k v es) f l r =
    let a : is_long_key k ≡ false = left_false _ _ (left_false _ _ l) in
    rw a (stand_given kind.Map (after g (containers v)) es f (right_false _ _ l) (right_false _ _ r))
stand_given kind.Set g (branch k (prim j) es) f l r =
    let a : is_long_key k ≡ false = left_false (is_long_key k) false (left_false (is_long_key k || false) (any_long_key (plains es)) l) in
    let e : is_eq (key_cmp k j) ≡ true = left_true _ _ f in
    rw (a, e) (stand_given kind.Set (after g 0) es (right_true _ _ f) (right_false _ _ l) r)
stand_given kind.Set g (branch k (node id of ds) es) f l r = absurd (cc)

pub stored_given : (h : Heap) (at : ℕ) (es : Branches) → at + containers_in es ≤ h.next → RowsStored h (given_table (given.From (record { scope = h.scope; slot = at })) es)
stored_given h at none le = tt
stored_given h at (branch k (prim j) es) le = (tt, stored_given h (at + 0) es (omega arith))
stored_given h at (branch k (node id of ds) es) le = ((refl, omega arith), stored_given h (at + containers (node id of ds)) es (omega arith))

-- ---- an accepted value's keys
pub value_long : (v : Plain) → value_limit v ≡ None → has_long_key v ≡ false
value_long v = elim (nat_lt 32 (plain_value.depth v)) as (λ a. (if a then Some limit.TooDeep else (if nat_lt (2 ^ 20) (plain_value.weight v) then Some limit.TooBig else (if has_long_key v then Some limit.KeyTooLong else (if has_reserved_key v then Some limit.ReservedKey else None)))) ≡ None → has_long_key v ≡ false) [
  | true ↦ λ h. absurd (cc)
  | false ↦ elim (nat_lt (2 ^ 20) (plain_value.weight v)) as (λ a. (if a then Some limit.TooBig else (if has_long_key v then Some limit.KeyTooLong else (if has_reserved_key v then Some limit.ReservedKey else None))) ≡ None → has_long_key v ≡ false) [
    | true ↦ λ h. absurd (cc)
    | false ↦ elim (has_long_key v) as (λ a. (if a then Some limit.KeyTooLong else (if has_reserved_key v then Some limit.ReservedKey else None)) ≡ None → a ≡ false) [
      | true ↦ λ h. absurd (cc)
      | false ↦ λ h. refl
    ]
  ]
]

pub value_reserved : (v : Plain) → value_limit v ≡ None → has_reserved_key v ≡ false
value_reserved v = elim (nat_lt 32 (plain_value.depth v)) as (λ a. (if a then Some limit.TooDeep else (if nat_lt (2 ^ 20) (plain_value.weight v) then Some limit.TooBig else (if has_long_key v then Some limit.KeyTooLong else (if has_reserved_key v then Some limit.ReservedKey else None)))) ≡ None → has_reserved_key v ≡ false) [
  | true ↦ λ h. absurd (cc)
  | false ↦ elim (nat_lt (2 ^ 20) (plain_value.weight v)) as (λ a. (if a then Some limit.TooBig else (if has_long_key v then Some limit.KeyTooLong else (if has_reserved_key v then Some limit.ReservedKey else None))) ≡ None → has_reserved_key v ≡ false) [
    | true ↦ λ h. absurd (cc)
    | false ↦ elim (has_long_key v) as (λ a. (if a then Some limit.KeyTooLong else (if has_reserved_key v then Some limit.ReservedKey else None)) ≡ None → has_reserved_key v ≡ false) [
      | true ↦ λ h. absurd (cc)
      | false ↦ elim (has_reserved_key v) as (λ a. (if a then Some limit.ReservedKey else None) ≡ None → a ≡ false) [
        | true ↦ λ h. absurd (cc)
        | false ↦ λ h. refl
      ]
    ]
  ]
]

-- ---- an opened object
module _ (h : Heap) (s : IsStore h.states) where
  pub table_opened : (n : ℕ) (u : Tree) → IsOf h.states u → n + containers u ≤ h.next → IsContent h (given_content (given.From (record { scope = h.scope; slot = n + 1 })) u)
  table_opened n (prim k) o l = tt
  table_opened n (node id of es) o l =
      let g = given.From (record { scope = h.scope; slot = n + 1 }) in
      let limits = subst (λ (t : Tree). state_limit (plain t) ≡ None) o.1 (accepted_at h.states id s o.0) in
      let w = subst (λ (t : Tree). well (plain t) ≡ true) o.1 (well_at h.states id s o.0) in
      let v = plain_value.node of (plains es) in
      record {
        ascends = ascends_given of g es (left_true _ _ (left_true _ _ w));
        stand = stand_given of g es (right_true _ _ (left_true _ _ w)) (value_long v limits) (value_reserved v limits);
        stored = stored_given h (n + 1) es (omega (arith, l));
      }

  pub source_opened : (g : Given) (u : Tree) → IsOf h.states u → HasSource h (source_in (given_content g u))
  source_opened g (prim k) o = tt
  source_opened g (node id of es) o = o.0

-- ---- new objects
-- each may be an object of the heap
abbrev pub AllContents : Heap → List Content → Type 0
AllContents h [] = ⊤
AllContents h (c ∷ cs) = (IsTable h c.kind c.table × HasSource h c.source) × AllContents h cs
