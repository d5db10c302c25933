-- Fresh objects of a value, made from a list of those before: laws.
use Rattle.std.proofs.Common.{◌≡◌, ℕ, zero, suc, ◌+◌, ◌<◌, ◌≤◌, ◌^◌, List, [], ◌∷◌, ◌++◌, length, map, drop, get_or, refl, ap, sym, ◌∙◌, subst, arith, true}
use Rattle.std.specs.Prelude.{IfOk, Result, Ok, Err}
use Rattle.std.proofs.lemmas.List.{append-nil, append_assoc, map-append, length-map}
use Rattle.std.proofs.lemmas.Grind.{common_steps}
use Rattle.value_model.specs.declared.key.Key.{Key}
use Rattle.value_model.specs.declared.kind.Kind.{Kind}
use Rattle.value_model.specs.Plain as plain_value
use Rattle.value_model.specs.Places.{ascends_at}
use Rattle.value_model.specs.Plain.{Plain, Entries, entry, entries, list_of, values_in}
use Rattle.value_model.specs.Well.{well, all_fit, all_well}
use Rattle.values.specs.Seen.{of_members}
use Rattle.numbered.proofs.Laws.{length_post, length_posts, containers_numbered, all_containers_numbered}
use Rattle.numbered.specs.Loading.{places, places_in, numbered, numbered_in, post_order, post_orders}
use Rattle.numbered.specs.Tree.{Tree}
use Rattle.run_heap.specs.declared.value.Rv.{Rv}
use Rattle.run_heap.specs.declared.value.Rv.TheVariants.{Prim, Obj}
use Rattle.run_heap.specs.declared.content.Content.{Content}
use Rattle.run_heap.specs.Heap.{fresh}
use Rattle.run_heap.specs.Operations.{Rows, named_table, literal}
use Rattle.draft_literals.specs.Making.{IsMade, AreMade, IsObjectMade, member, IsMaking}

-- ---- how many objects
made_length : (scope n : ℕ) (v : Plain) → length (map (literal scope) (post_order (numbered n v))) ≡ places v
made_length scope n v = length-map (post_order (numbered n v)) (literal scope) ∙ length_post (numbered n v) ∙ containers_numbered n v

all_length : (scope n : ℕ) (es : Entries) → length (map (literal scope) (post_orders (numbered_in n es))) ≡ places_in es
all_length scope n es = length-map (post_orders (numbered_in n es)) (literal scope) ∙ length_posts (numbered_in n es) ∙ all_containers_numbered n es

pub longer : (scope first : ℕ) (es : Entries) (old new : List Content) (t : Rows) → AreMade scope first es old new t → length new ≡ length old + places_in es
longer scope first es old new t m =
    let more = all_length scope (first + length old) es in
    ap length m.0 ∙ grind (arith, common_steps, more)

-- ---- a container, after what is in it
pub container_made : (scope first : ℕ) (kind : Kind) (es : Entries) (old mid new : List Content) (t : Rows) (w : Rv) → ascends_at kind (list_of es) ≡ true → all_fit kind es ≡ true → AreMade scope first es old mid t → IsObjectMade scope first kind t mid new w → IsMade scope first (plain_value.node kind es) old new w
container_made scope first kind es old mid new t w sorted fit m o =
    let bs = numbered_in (first + length old) es in
    let l = longer scope first es old mid t m in
    let name : first + length mid ≡ first + length old + places_in es = omega (arith, l) in (
      o.0
          ∙ ap (λ (cs : List Content). cs ++ fresh kind t ∷ []) m.0
          ∙ append_assoc old (map (literal scope) (post_orders bs)) (fresh kind t ∷ [])
          ∙ ap (λ (u : Rows). old ++ (map (literal scope) (post_orders bs) ++ fresh kind u ∷ [])) m.1
          ∙ ap (λ (cs : List Content). old ++ cs) (sym (map-append (literal scope) (post_orders bs) (Rattle.numbered.specs.Tree.node (first + length old + places_in es) kind bs ∷ []))),
      o.1 ∙ ap (λ (n : ℕ). Obj (record { scope = scope; slot = n })) name,
      rw (sorted, fit) m.2,
    )

pub making_step : (scope first : ℕ) (all : Entries) (old now next : List Content) (t u : Rows) (k : Key) (v : Plain) (rest : Entries) (w : Rv) → IsMaking scope first all old now t (entry k v rest) → IsMade scope first v now next w → u ≡ t ++ (k, w) ∷ [] → IsMaking scope first all old next u rest
making_step scope first all old now next t u k v rest w m o e =
    let n = first + length now in
    let more = made_length scope n v in
    let long : length next ≡ length now + places v = ap length o.0 ∙ grind (arith, common_steps, more) in
    let name : first + length next ≡ n + places v = omega (arith, long) in
    let room = m.room in
    let tail = post_orders (numbered_in (n + places v) rest) in
    record {
      objects = (λ i. o.0 i ++ map (literal scope) (post_orders (numbered_in (name i) rest)))
          ∙ append_assoc now (map (literal scope) (post_order (numbered n v))) (map (literal scope) tail)
          ∙ ap (λ (cs : List Content). now ++ cs) (sym (map-append (literal scope) (post_order (numbered n v)) tail))
          ∙ m.objects;
      table = (λ i. e i ++ named_table scope (numbered_in (name i) rest))
          ∙ append_assoc t ((k, w) ∷ []) (named_table scope (numbered_in (n + places v) rest))
          ∙ ap (λ (x : Rv). t ++ (k, x) ∷ named_table scope (numbered_in (n + places v) rest)) o.1
          ∙ m.table;
      room = omega (arith, long, room);
      well = λ h. m.well (rw o.2 h);
    }

pub making_end : (scope first : ℕ) (all : Entries) (old now : List Content) (t : Rows) → IsMaking scope first all old now t plain_value.none → AreMade scope first all old now t
making_end scope first all old now t m = (sym (append-nil now) ∙ m.objects, sym (append-nil t) ∙ m.table, m.well refl)

-- ---- the entries from an index on
module _ {X : Type 0} (f : X → Key × Plain) where
  pub next_entry : (xs : List X) (i : ℕ) (d : X) → i < length xs → entries (map f (drop i xs)) ≡ entry (f (get_or xs i d)).0 (f (get_or xs i d)).1 (entries (map f (drop (i + 1) xs)))
  next_entry [] i d l = absurd (omega arith)
  next_entry (x ∷ xs) zero d l = refl
  next_entry (x ∷ xs) (suc i) d l = let s : suc i + 1 ≡ suc (i + 1) = omega arith in rw s (next_entry xs i d (omega arith))

  pub no_entry : (xs : List X) (i : ℕ) → length xs ≤ i → entries (map f (drop i xs)) ≡ plain_value.none
  no_entry [] zero l = refl
  no_entry [] (suc i) l = refl
  no_entry (x ∷ xs) zero l = absurd (omega arith)
  no_entry (x ∷ xs) (suc i) l = no_entry xs i (omega arith)

-- ---- a Set's members
no_objects : (n : ℕ) (ks : List Key) → post_orders (numbered_in n (of_members ks)) ≡ []
no_objects n [] = refl
no_objects n (k ∷ ks) = no_objects (n + 0) ks

member_table : (scope n : ℕ) (ks : List Key) → named_table scope (numbered_in n (of_members ks)) ≡ map member ks
member_table scope n [] = refl
member_table scope n (k ∷ ks) = ap (λ (t : Rows). (k, Prim k) ∷ t) (member_table scope (n + 0) ks)

members_well : (ks : List Key) → all_well (of_members ks) ≡ true
members_well [] = refl
members_well (k ∷ ks) = members_well ks

pub members_made : (scope first : ℕ) (ks : List Key) (old : List Content) (t : Rows) → t ≡ map member ks → AreMade scope first (of_members ks) old old t
members_made scope first ks old t e = (sym (append-nil old) ∙ ap (λ (us : List Tree). old ++ map (literal scope) us) (sym (no_objects (first + length old) ks)), e ∙ sym (member_table scope (first + length old) ks), members_well ks)

-- ---- what the calls need, in one step
module _ {X : Type 0} (f : X → Key × Plain) where
  pub next_is : (xs ys : List X) (i : ℕ) (x : X) → ys ≡ xs → i < length ys → x ≡ get_or ys i x → entries (map f (drop i xs)) ≡ entry (f x).0 (f x).1 (entries (map f (drop (i + 1) xs)))
  next_is xs ys i x e l is =
      let there : x ≡ get_or xs i x = is ∙ ap (λ (zs : List X). get_or zs i x) e in
      let inside : i < length xs = subst (λ (zs : List X). i < length zs) e l in
      next_entry f xs i x inside ∙ ap (λ (y : X). entry (f y).0 (f y).1 (entries (map f (drop (i + 1) xs)))) (sym there)

  pub none_left : (xs ys : List X) (i : ℕ) → ys ≡ xs → length ys ≤ i → entries (map f (drop i xs)) ≡ plain_value.none
  none_left xs ys i e l = no_entry f xs i (subst (λ (zs : List X). length zs ≤ i) e l)

pub making_room : (scope first : ℕ) (all : Entries) (old now : List Content) (t : Rows) (k : Key) (v : Plain) (rest some : Entries) → some ≡ entry k v rest → IsMaking scope first all old now t some → first + length now + places v < 2 ^ 64
making_room scope first all old now t k v rest some e m = let room = m.room in let all_places = ap places_in e in omega (arith, room, all_places)

pub values_fall : (k : Key) (v : Plain) (rest some all : Entries) → some ≡ entry k v rest → values_in some ≤ values_in all → record { below : plain_value.values v ≤ values_in all; rest : values_in rest ≤ values_in all }
values_fall k v rest some all e l = let n = ap values_in e in record { below = omega (arith, n, l); rest = omega (arith, n, l) }

pub making_next : (scope first : ℕ) (all : Entries) (old now next : List Content) (t u : Rows) (k j : Key) (v : Plain) (rest some : Entries) (w : Rv) → some ≡ entry k v rest → IsMaking scope first all old now t some → IsMade scope first v now next w → j ≡ k → u ≡ t ++ (j, w) ∷ [] → IsMaking scope first all old next u rest
making_next scope first all old now next t u k j v rest some w e m o q p =
    making_step scope first all old now next t u k v rest w (subst (IsMaking scope first all old now t) e m) o (p ∙ ap (λ (x : Key). t ++ (x, w) ∷ []) q)

pub made_all : (scope first : ℕ) (all : Entries) (old now : List Content) (t : Rows) (rest : Entries) → rest ≡ plain_value.none → IsMaking scope first all old now t rest → AreMade scope first all old now t
made_all scope first all old now t rest e m = making_end scope first all old now t (subst (IsMaking scope first all old now t) e m)

pub container_ok : {E : Type 0} (r : Result Rv E) (scope first : ℕ) (kind : Kind) (es : Entries) (old mid new : List Content) (t : Rows) → ascends_at kind (list_of es) ≡ true → all_fit kind es ≡ true → AreMade scope first es old mid t → IfOk r (λ w. IsObjectMade scope first kind t mid new w) → IfOk r (λ w. IsMade scope first (plain_value.node kind es) old new w)
container_ok (Ok w) scope first kind es old mid new t s f m o = container_made scope first kind es old mid new t w s f m o
container_ok (Err e) scope first kind es old mid new t s f m o = tt

pub container_room : (scope first : ℕ) (es : Entries) (old mid : List Content) (t : Rows) → AreMade scope first es old mid t → first + length old + (1 + places_in es) < 2 ^ 64 → first + length mid < 2 ^ 64
container_room scope first es old mid t m room = let l = longer scope first es old mid t m in omega (arith, l, room)
