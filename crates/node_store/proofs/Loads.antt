-- Loading, step by step: what was loaded, and what the rest will add: laws.
use Rattle.std.proofs.Common.{◌≡◌, ℕ, zero, suc, ◌+◌, ◌-◌, ◌^◌, ◌<◌, ◌≤◌, List, [], ◌∷◌, ◌++◌, length, map, get_or, drop, refl, ap, sym, ◌∙◌, subst, arith, true, false, length-append}
use Rattle.std.specs.Prelude.{Bool, ◌||◌, None, Some, nat_lt, Ok, Err}
use Rattle.std.specs.List.{zip}
use Rattle.std.proofs.lemmas.List.{append_assoc, append-nil}
use Rattle.std.proofs.lemmas.Cmp.{tied_itself}
use Rattle.std.specs.FinMap.Entries.{is_sorted}
use Rattle.std.proofs.lemmas.Bool.{or_left, and_from, or_parts}
use Rattle.value_model.specs.declared.key.Key.{Key}
use Rattle.value_model.specs.declared.key.Key.TheVariants as key
use Rattle.value_model.specs.declared.kind.Kind.{Kind}
use Rattle.value_model.specs.declared.kind.Kind.TheVariants as kind
use Rattle.value_model.specs.declared.limit.Limit.TheVariants as limit
use Rattle.value_model.specs.Limits.{value_limit, state_limit, has_long_key, any_long_key, has_reserved_key, any_reserved_key, is_long_key, is_reserved_at}
use Rattle.value_model.specs.Order.{key_cmp, key_total}
use Rattle.value_model.specs.Plain as plain_value
use Rattle.value_model.specs.Plain.{Plain, Entries, list_of, entries}
use Rattle.value_model.specs.Well.{all_fit}
use Rattle.numbered.specs.Tree.{Tree, Branches, prim, node, none, branch, plain, plains}
use Rattle.numbered.specs.Store.{tree_at, is_full}
use Rattle.numbered.specs.Loading.{places, places_in, numbered, numbered_in, post_order, post_orders, loaded, any_full, load_full}
use Rattle.numbered.specs.Laws.{Extends}
use Rattle.numbered.proofs.Laws.{extends_refl, extends_then, extends_append, plain_numbered, plains_numbered, containers_numbered, all_containers_numbered, length_post, length_posts, full_append}
use Rattle.node_store.specs.declared.fault.StoreFault.{StoreFault}
use Rattle.node_store.specs.declared.fault.StoreFault.TheVariants.{Full, Memory}
use Rattle.page_tables.specs.declared.cell.Cell.{Cell}
use Rattle.node_store.specs.declared.node.Node.{Node}
use Rattle.page_tables.specs.declared.cell.Cell.TheVariants as cell
use Rattle.node_store.specs.Nodes.{cells_fit, ascending, is_node, rows, CellBelow, CellsBelow, cell_tree, branches, built}
use Rattle.node_store.proofs.Tables.{cells_more, same_branches, keys_again}
use Rattle.node_store.proofs.Shown.{sorted_alike, list_keys}
use Rattle.node_store.specs.Loads.{loaded_in, full_in, joined, AllWithin, IsLoaded, Refused, IsLoading, AreLoaded}

pub loading_start : (ts : List Tree) (es : Entries) → AllWithin es → IsLoading ts es ts [] es
loading_start ts es w = record { extends = extends_refl ts; below = tt; store = refl; room = refl; same = refl; within = w }

-- ---- one more
length_loaded : (ts : List Tree) (v : Plain) → length (loaded ts v) + 1 ≡ length ts + 1 + places v
length_loaded ts v =
    let t = numbered (length ts + 1) v in
    omega (arith, length-append ts (post_order t), length_post t, containers_numbered (length ts + 1) v)

branches_push : (us : List Tree) (rs : List (Key × Cell)) (r : Key × Cell) (ds : Branches) → joined (branches us (rs ++ r ∷ [])) ds ≡ joined (branches us rs) (branch r.0 (cell_tree us r.1) ds)
branches_push us [] r ds = refl
branches_push us (q ∷ rs) r ds = ap (branch q.0 (cell_tree us q.1)) (branches_push us rs r ds)

below_push : (us : List Tree) (rs : List (Key × Cell)) (r : Key × Cell) → CellsBelow us (map (λ q. q.1) rs) → CellBelow us r.1 → CellsBelow us (map (λ q. q.1) (rs ++ r ∷ []))
below_push us [] r b c = (c, tt)
below_push us (q ∷ rs) r b c = (b.0, below_push us rs r b.1 c)

-- the store after the first entry, and after the rest
rest_store : (us vs : List Tree) (k : Key) (v : Plain) (es : Entries) → vs ≡ loaded us v → loaded_in vs es ≡ loaded_in us (plain_value.entry k v es)
rest_store us vs k v es e =
    let n = length us + 1 in
    let long : length vs + 1 ≡ n + places v = ap (λ (ws : List Tree). length ws + 1) e ∙ length_loaded us v in
    ap (λ (m : ℕ). vs ++ post_orders (numbered_in m es)) long
    ∙ ap (λ (ws : List Tree). ws ++ post_orders (numbered_in (n + places v) es)) e
    ∙ append_assoc us (post_order (numbered n v)) (post_orders (numbered_in (n + places v) es))

or_false : (a b : Bool) → a ≡ false → (a || b) ≡ b
or_false a b h = rw h refl

rest_room : (us vs : List Tree) (k : Key) (v : Plain) (es : Entries) → vs ≡ loaded us v → load_full us v ≡ false → full_in vs es ≡ full_in us (plain_value.entry k v es)
rest_room us vs k v es e r =
    let n = length us + 1 in
    let long : length vs + 1 ≡ n + places v = ap (λ (ws : List Tree). length ws + 1) e ∙ length_loaded us v in
    let more = post_orders (numbered_in (n + places v) es) in
    ap (λ (m : ℕ). any_full vs (post_orders (numbered_in m es))) long
    ∙ ap (λ (ws : List Tree). any_full ws more) e
    ∙ sym (or_false (load_full us v) (any_full (loaded us v) more) r)
    ∙ sym (full_append us (post_order (numbered n v)) more)

pub loading_step : (ts : List Tree) (all : Entries) (us vs : List Tree) (rs : List (Key × Cell)) (k : Key) (v : Plain) (rest : Entries) (c : Cell) → IsLoading ts all us rs (plain_value.entry k v rest) → IsLoaded us vs v c → IsLoading ts all vs (rs ++ (k, c) ∷ []) rest
loading_step ts all us vs rs k v rest c l d =
    let n = length us + 1 in
    let e : Extends us vs = subst (Extends us) (sym d.store) (extends_append us (post_order (numbered n v))) in
    let long : length vs + 1 ≡ n + places v = ap (λ (ws : List Tree). length ws + 1) d.store ∙ length_loaded us v in
    let old = same_branches us vs rs e l.below in
    record {
      extends = extends_then ts us vs l.extends e;
      below = below_push vs rs (k, c) (cells_more us vs (map (λ r. r.1) rs) e l.below) d.below;
      store = rest_store us vs k v rest d.store ∙ l.store;
      room = rest_room us vs k v rest d.store d.room ∙ l.room;
      same = branches_push vs rs (k, c) (numbered_in (length vs + 1) rest)
          ∙ (λ i. joined (old i) (branch k (d.same i) (numbered_in (long i) rest)))
          ∙ l.same;
      within = l.within.1;
    }

-- a refusal in the first entry is one of the whole
pub loading_refused : (ts : List Tree) (all : Entries) (us vs : List Tree) (rs : List (Key × Cell)) (k : Key) (v : Plain) (rest : Entries) (e : StoreFault) → IsLoading ts all us rs (plain_value.entry k v rest) → Refused us vs (load_full us v) e → Refused ts vs (full_in ts all) e
loading_refused ts all us vs rs k v rest e l r =
    let n = length us + 1 in (
      extends_then ts us vs l.extends r.0,
      λ f. sym l.room ∙ full_append us (post_order (numbered n v)) (post_orders (numbered_in (n + places v) rest)) ∙ or_left (load_full us v) (any_full (loaded us v) (post_orders (numbered_in (n + places v) rest))) (r.1 f),
    )

joined_none : (es : Branches) → joined es none ≡ es
joined_none none = refl
joined_none (branch k v es) = ap (branch k v) (joined_none es)

pub loading_end : (ts : List Tree) (all : Entries) (us : List Tree) (rs : List (Key × Cell)) → IsLoading ts all us rs plain_value.none → AreLoaded ts all us rs
loading_end ts all us rs l = record {
  extends = l.extends;
  below = l.below;
  store = sym (append-nil us) ∙ l.store;
  room = sym l.room;
  same = sym (joined_none (branches us rs)) ∙ l.same;
}

-- ---- the container itself
nothing_more : (b : Bool) → (b || false) ≡ b
nothing_more true = refl
nothing_more false = refl

module _ (ts us : List Tree) (of : Kind) (es : Entries) (ks : List Key) (cs : List Cell) (s : us ≡ loaded_in ts es) (b : branches us (rows of ks cs) ≡ numbered_in (length ts + 1) es) where
  places_before : length us + 1 ≡ length ts + 1 + places_in es
  places_before =
      let t = numbered_in (length ts + 1) es in
      omega (arith, ap length s, length-append ts (post_orders t), length_posts t, all_containers_numbered (length ts + 1) es)

  -- it is the value's numbering
  pub root_state : built us of ks cs ≡ numbered (length ts + 1) (plain_value.node of es)
  root_state = λ i. node (places_before i) of (b i)

  pub root_value : plain (built us of ks cs) ≡ plain_value.node of es
  root_value = ap (λ (t : Tree). plain t) root_state ∙ plain_numbered (length ts + 1) (plain_value.node of es)

  pub root_store : us ++ built us of ks cs ∷ [] ≡ loaded ts (plain_value.node of es)
  root_store =
      let t = numbered (length ts + 1) (plain_value.node of es) in
      (λ i. s i ++ root_state i ∷ []) ∙ append_assoc ts (post_orders (numbered_in (length ts + 1) es)) (t ∷ [])

  pub root_room : full_in ts es ≡ false → is_full us (built us of ks cs) ≡ load_full ts (plain_value.node of es)
  root_room r =
      let t = numbered (length ts + 1) (plain_value.node of es) in
      (λ i. is_full (s i) (root_state i))
      ∙ sym (nothing_more (is_full (loaded_in ts es) t))
      ∙ sym (or_false (full_in ts es) (is_full (loaded_in ts es) t || false) r)
      ∙ sym (full_append ts (post_orders (numbered_in (length ts + 1) es)) (t ∷ []))

-- a refusal in the entries is one of the whole
pub refused_in : (ts us : List Tree) (of : Kind) (es : Entries) (e : StoreFault) → Refused ts us (full_in ts es) e → Refused ts us (load_full ts (plain_value.node of es)) e
refused_in ts us of es e r =
    let t = numbered (length ts + 1) (plain_value.node of es) in
    (r.0, λ f. full_append ts (post_orders (numbered_in (length ts + 1) es)) (t ∷ []) ∙ or_left (full_in ts es) (is_full (loaded_in ts es) t || false) (r.1 f))

-- ---- the node of a container whose entries were loaded
at_end : (us : List Tree) (t : Tree) → get_or (us ++ t ∷ []) (length us) (prim key.Null) ≡ t
at_end [] t = refl
at_end (u ∷ us) t = at_end us t

last_tree : (us : List Tree) (t : Tree) (id : ℕ) → id ≡ length us + 1 → tree_at (us ++ t ∷ []) id ≡ t
last_tree us t id e = let at : id - 1 ≡ length us = omega (arith, e) in rw at (at_end us t)

module _ (ts us : List Tree) (of : Kind) (es : Entries) (rs : List (Key × Cell)) (nk : Kind) (ks : List Key) (cs : List Cell) (a : AreLoaded ts es us rs) (k : nk ≡ of) (r : rows nk ks cs ≡ rs) where
  own_branches : branches us (rows nk ks cs) ≡ numbered_in (length ts + 1) es
  own_branches = ap (branches us) r ∙ a.same

  pub root_accepted : value_limit (plain_value.node of es) ≡ None → state_limit (plain (built us nk ks cs)) ≡ None
  root_accepted h = ap state_limit (root_value ts us nk es ks cs a.store own_branches ∙ ap (λ (j : Kind). plain_value.node j es) k) ∙ h

  pub root_loaded : (vs : List Tree) (id : ℕ) → is_full us (built us nk ks cs) ≡ false → id ≡ length vs → vs ≡ us ++ built us nk ks cs ∷ [] → IsLoaded ts vs (plain_value.node of es) (cell.Node id)
  root_loaded vs id f i v =
      let long : id ≡ length us + 1 = i ∙ ap length v ∙ length-append us (built us nk ks cs ∷ []) in
      subst (λ (j : Kind). IsLoaded ts vs (plain_value.node j es) (cell.Node id)) k (record {
        store = v ∙ root_store ts us nk es ks cs a.store own_branches;
        room = sym (root_room ts us nk es ks cs a.store own_branches a.room) ∙ f;
        below = (omega (arith, long), omega (arith, i));
        same = ap (λ (ws : List Tree). tree_at ws id) v ∙ last_tree us (built us nk ks cs) id long ∙ root_state ts us nk es ks cs a.store own_branches;
        last = i;
      })

  pub root_refused : (vs : List Tree) (e : StoreFault) → vs ≡ us → (e ≡ Full → is_full us (built us nk ks cs) ≡ true) → Refused ts vs (load_full ts (plain_value.node of es)) e
  root_refused vs e v f =
      subst (λ (j : Kind). Refused ts vs (load_full ts (plain_value.node j es)) e) k
      (subst (Extends ts) (sym v) a.extends, λ g. sym (root_room ts us nk es ks cs a.store own_branches a.room) ∙ f g)

-- where a test would refuse and nothing was refused, it fails
pub not_full : {X : Type 0} (b : Bool) (x : X) → (b ≡ true → Ok x ≡ Err Full) → b ≡ false
not_full true x h = absurd (let e = h refl in cc)
not_full false x h = refl

-- ---- tables of keys and cells
zip_back : (rs : List (Key × Cell)) → zip (map (λ r. r.0) rs) (map (λ r. r.1) rs) ≡ rs
zip_back [] = refl
zip_back (r ∷ rs) = ap (λ (qs : List (Key × Cell)). r ∷ qs) (zip_back rs)

pub obj_rows : (n : Node) (rs : List (Key × Cell)) → n.kind ≡ kind.Obj → n.keys ≡ map (λ r. r.0) rs → n.cells ≡ map (λ r. r.1) rs → rows n.kind n.keys n.cells ≡ rs
obj_rows n rs k a b = (λ i. rows (k i) (a i) (b i)) ∙ zip_back rs

pub map_rows : (n : Node) (rs : List (Key × Cell)) → n.kind ≡ kind.Map → n.keys ≡ map (λ r. r.0) rs → n.cells ≡ map (λ r. r.1) rs → rows n.kind n.keys n.cells ≡ rs
map_rows n rs k a b = (λ i. rows (k i) (a i) (b i)) ∙ zip_back rs

self_pairs : (ks : List Key) → map (λ e. e.0) (map (λ k. let e : Key × Key = (k, k) in e) ks) ≡ ks
self_pairs [] = refl
self_pairs (k ∷ ks) = ap (λ (js : List Key). k ∷ js) (self_pairs ks)

table_ascends : (us : List Tree) (rs : List (Key × Cell)) (es : Entries) → plains (branches us rs) ≡ es → is_sorted key_cmp (list_of es) ≡ true → ascending (map (λ r. r.0) rs) ≡ true
table_ascends us rs es e h =
    sorted_alike (map (λ k. let q : Key × Key = (k, k) in q) (map (λ r. r.0) rs)) (list_of es)
    (self_pairs (map (λ r. r.0) rs) ∙ sym (keys_again us rs) ∙ sym (list_keys (branches us rs)) ∙ ap (λ (ds : Entries). map (λ q. q.0) (list_of ds)) e) ∙ h

obj_cells : (us : List Tree) (rs : List (Key × Cell)) → all_fit kind.Obj (plains (branches us rs)) ≡ true → cells_fit kind.Obj (map (λ r. r.0) rs) (map (λ r. r.1) rs) ≡ true
obj_cells us [] h = refl
obj_cells us ((key.Text s, c) ∷ rs) h = obj_cells us rs h
obj_cells us ((key.Null, c) ∷ rs) h = absurd (cc)
obj_cells us ((key.Bool b, c) ∷ rs) h = absurd (cc)
obj_cells us ((key.Int m, c) ∷ rs) h = absurd (cc)

map_cells : (rs : List (Key × Cell)) → cells_fit kind.Map (map (λ r. r.0) rs) (map (λ r. r.1) rs) ≡ true
map_cells [] = refl
map_cells (r ∷ rs) = map_cells rs

pub obj_node : (ts : List Tree) (es : Entries) (us : List Tree) (rs : List (Key × Cell)) → AreLoaded ts es us rs → is_sorted key_cmp (list_of es) ≡ true → all_fit kind.Obj es ≡ true → is_node kind.Obj (map (λ r. r.0) rs) (map (λ r. r.1) rs) ≡ true
obj_node ts es us rs a s f =
    let e : plains (branches us rs) ≡ es = ap plains a.same ∙ plains_numbered (length ts + 1) es in
    and_from _ _ (table_ascends us rs es e s) (obj_cells us rs (ap (all_fit kind.Obj) e ∙ f))

pub map_node : (ts : List Tree) (es : Entries) (us : List Tree) (rs : List (Key × Cell)) → AreLoaded ts es us rs → is_sorted key_cmp (list_of es) ≡ true → is_node kind.Map (map (λ r. r.0) rs) (map (λ r. r.1) rs) ≡ true
map_node ts es us rs a s =
    let e : plains (branches us rs) ≡ es = ap plains a.same ∙ plains_numbered (length ts + 1) es in
    and_from _ _ (table_ascends us rs es e s) (map_cells rs)

-- ---- limits hold inside
within_limits : (v : Plain) → value_limit v ≡ None → (nat_lt 32 (plain_value.depth v) ≡ false) × (nat_lt (2 ^ 20) (plain_value.weight v) ≡ false) × (has_long_key v ≡ false) × (has_reserved_key v ≡ false)
within_limits v = elim (nat_lt 32 (plain_value.depth v)) as (λ a. nat_lt 32 (plain_value.depth v) ≡ a → value_limit v ≡ None → (a ≡ false) × (nat_lt (2 ^ 20) (plain_value.weight v) ≡ false) × (has_long_key v ≡ false) × (has_reserved_key v ≡ false)) [
  | true ↦ λ p h. absurd (let e : Some limit.TooDeep ≡ None = rw p at h in cc)
  | false ↦ λ p. elim (nat_lt (2 ^ 20) (plain_value.weight v)) as (λ b. nat_lt (2 ^ 20) (plain_value.weight v) ≡ b → value_limit v ≡ None → (false ≡ false) × (b ≡ false) × (has_long_key v ≡ false) × (has_reserved_key v ≡ false)) [
    | true ↦ λ q h. absurd (let e : Some limit.TooBig ≡ None = rw (p, q) at h in cc)
    | false ↦ λ q. elim (has_long_key v) as (λ c. has_long_key v ≡ c → value_limit v ≡ None → (false ≡ false) × (false ≡ false) × (c ≡ false) × (has_reserved_key v ≡ false)) [
      | true ↦ λ r h. absurd (let e : Some limit.KeyTooLong ≡ None = rw (p, q, r) at h in cc)
      | false ↦ λ r. elim (has_reserved_key v) as (λ d. has_reserved_key v ≡ d → value_limit v ≡ None → (false ≡ false) × (false ≡ false) × (false ≡ false) × (d ≡ false)) [
        | true ↦ λ t h. absurd (let e : Some limit.ReservedKey ≡ None = rw (p, q, r, t) at h in cc)
        | false ↦ λ t h. (refl, refl, refl, refl)
      ] refl
    ] refl
  ] refl
] refl

limit_from : (v : Plain) → nat_lt 32 (plain_value.depth v) ≡ false → nat_lt (2 ^ 20) (plain_value.weight v) ≡ false → has_long_key v ≡ false → has_reserved_key v ≡ false → value_limit v ≡ None
limit_from v a b c d = rw (a, b, c, d) refl

all_within_from : (of : Kind) (es : Entries) → nat_lt 32 (plain_value.deepest es) ≡ false → nat_lt (2 ^ 20) (plain_value.weights of es) ≡ false → any_long_key es ≡ false → any_reserved_key of es ≡ false → AllWithin es
all_within_from of plain_value.none a b c d = tt
all_within_from of (plain_value.entry k v es) a b c d = (
  limit_from v
      (grind (arith, a))
      (grind (arith, b))
      (or_parts (is_long_key k) (has_long_key v) (or_parts (is_long_key k || has_long_key v) (any_long_key es) c).0).1
      (or_parts (is_reserved_at of k) (has_reserved_key v) (or_parts (is_reserved_at of k || has_reserved_key v) (any_reserved_key of es) d).0).1,
  all_within_from of es
      (grind (arith, a))
      (grind (arith, b))
      (or_parts (is_long_key k || has_long_key v) (any_long_key es) c).1
      (or_parts (is_reserved_at of k || has_reserved_key v) (any_reserved_key of es) d).1,
)

-- what is in an accepted container is within the limits
pub all_within : (of : Kind) (es : Entries) → value_limit (plain_value.node of es) ≡ None → AllWithin es
all_within of es h =
    let w = within_limits (plain_value.node of es) h in
    let a : nat_lt 32 (1 + plain_value.deepest es) ≡ false = w.0 in
    let b : nat_lt (2 ^ 20) (1 + plain_value.weights of es) ≡ false = w.1 in
    all_within_from of es (grind (arith, a)) (grind (arith, b)) w.2 w.3

pub limit_of_state : (v : Plain) → state_limit v ≡ None → value_limit v ≡ None
limit_of_state (plain_value.prim k) h = absurd (cc)
limit_of_state (plain_value.node of es) h = h

-- the entries from one on
pub entries_step : {X : Type 0} (f : X → Key × Plain) (xs : List X) (i : ℕ) (x : X) → i < length xs → x ≡ get_or xs i x → entries (map f (drop i xs)) ≡ plain_value.entry (f x).0 (f x).1 (entries (map f (drop (i + 1) xs)))
entries_step f [] i x l e = absurd (omega arith)
entries_step f (y ∷ xs) zero x l e = λ j. plain_value.entry (f (sym e j)).0 (f (sym e j)).1 (entries (map f xs))
entries_step f (y ∷ xs) (suc i) x l e = let n : suc i + 1 ≡ suc (i + 1) = omega arith in rw n (entries_step f xs i x (omega arith) e)

-- no entries are left behind the last
pub entries_end : {X : Type 0} (f : X → Key × Plain) (xs : List X) (i : ℕ) → length xs ≤ i → entries (map f (drop i xs)) ≡ plain_value.none
entries_end f [] zero l = refl
entries_end f [] (suc i) l = refl
entries_end f (x ∷ xs) zero l = absurd (omega arith)
entries_end f (x ∷ xs) (suc i) l = entries_end f xs i (omega arith)

-- want of memory is no want of room
pub for_memory : (ts us : List Tree) (full : Bool) → Extends ts us → Refused ts us full Memory
for_memory ts us full e = (e, λ g. absurd (cc))

-- a list's rows with one more cell
pub list_push : (cs : List Cell) (c : Cell) → rows kind.List [] (cs ++ c ∷ []) ≡ rows kind.List [] cs ++ (key.Null, c) ∷ []
list_push [] c = refl
list_push (d ∷ cs) c = ap (λ (rs : List (Key × Cell)). (key.Null, d) ∷ rs) (list_push cs c)

-- ---- a Set's members are primitives: nothing is added for them
pub set_below : (us : List Tree) (ks : List Key) → CellsBelow us (map (λ k. cell.Prim k) ks)
set_below us [] = tt
set_below us (k ∷ ks) = (tt, set_below us ks)

set_rows_of : (js ks : List Key) → map (λ r. r.1) (rows kind.Set js (map (λ k. cell.Prim k) ks)) ≡ map (λ k. cell.Prim k) ks
set_rows_of js [] = refl
set_rows_of js (k ∷ ks) = ap (λ (cs : List Cell). cell.Prim k ∷ cs) (set_rows_of js ks)

pub set_rows : (ks : List Key) → map (λ r. r.1) (rows kind.Set ks (map (λ k. cell.Prim k) ks)) ≡ map (λ k. cell.Prim k) ks
set_rows ks = set_rows_of ks ks

set_branches : (us : List Tree) (n : ℕ) (js ks : List Key) → branches us (rows kind.Set js (map (λ k. cell.Prim k) ks)) ≡ numbered_in n (entries (map (λ k. let e : Key × Plain = (k, plain_value.prim k) in e) ks))
set_branches us n js [] = refl
set_branches us n js (k ∷ ks) = let m : n + 0 ≡ n = omega arith in rw m (ap (branch k (prim k)) (set_branches us n js ks))

set_posts : (n : ℕ) (ks : List Key) → post_orders (numbered_in n (entries (map (λ k. let e : Key × Plain = (k, plain_value.prim k) in e) ks))) ≡ []
set_posts n [] = refl
set_posts n (k ∷ ks) = let m : n + 0 ≡ n = omega arith in rw m (set_posts n ks)

pub set_loaded : (ts : List Tree) (ks : List Key) → AreLoaded ts (entries (map (λ k. let e : Key × Plain = (k, plain_value.prim k) in e) ks)) ts (rows kind.Set ks (map (λ k. cell.Prim k) ks))
set_loaded ts ks =
    let none = set_posts (length ts + 1) ks in
    record {
      extends = extends_refl ts;
      below = subst (CellsBelow ts) (sym (set_rows ks)) (set_below ts ks);
      store = sym (append-nil ts) ∙ ap (λ (us : List Tree). ts ++ us) (sym none);
      room = ap (any_full ts) none;
      same = set_branches ts (length ts + 1) ks ks;
    }

own_ascend : (ks : List Key) → map (λ e. e.0) (map (λ k. let e : Key × Plain = (k, plain_value.prim k) in e) ks) ≡ ks
own_ascend [] = refl
own_ascend (k ∷ ks) = ap (λ (js : List Key). k ∷ js) (own_ascend ks)

set_cells_fit : (ks : List Key) → cells_fit kind.Set ks (map (λ k. cell.Prim k) ks) ≡ true
set_cells_fit [] = refl
set_cells_fit (k ∷ ks) = rw (tied_itself key_total k) (set_cells_fit ks)

pub set_node : (ks : List Key) → is_sorted key_cmp (map (λ k. let e : Key × Plain = (k, plain_value.prim k) in e) ks) ≡ true → is_node kind.Set ks (map (λ k. cell.Prim k) ks) ≡ true
set_node ks s =
    and_from _ _
    (sorted_alike (map (λ k. let q : Key × Key = (k, k) in q) ks) (map (λ k. let e : Key × Plain = (k, plain_value.prim k) in e) ks) (self_pairs ks ∙ sym (own_ascend ks)) ∙ s)
    (set_cells_fit ks)
