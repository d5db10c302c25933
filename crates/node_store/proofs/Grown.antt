-- The states of the nodes that are held: laws.
use Rattle.std.proofs.Common.{◌≡◌, ℕ, zero, suc, ◌+◌, ◌-◌, ◌<◌, ◌≤◌, List, [], ◌∷◌, ◌++◌, length, get_or, map, take, refl, ap, sym, ◌∙◌, subst, arith}
use Rattle.std.proofs.lemmas.List.{append-nil, append_assoc, get_or-take, length-take-le}
use Rattle.std.proofs.lemmas.Grind.{common_steps}
use Rattle.value_model.specs.declared.key.Key.{Key}
use Rattle.value_model.specs.declared.key.Key.TheVariants as key
use Rattle.value_model.specs.Plain as plain_value
use Rattle.numbered.specs.Tree.{Tree, prim, node, plain, containers, own_weight}
use Rattle.numbered.specs.Store.{IsNumber, tree_at, used, AreNext, IsStore}
use Rattle.numbered.specs.Laws.{Extends}
use Rattle.numbered.proofs.Laws.{extends_take, used_append}
use Rattle.page_tables.specs.declared.cell.Cell.{Cell}
use Rattle.page_tables.specs.Pages as pages
use Rattle.page_tables.specs.Pages.{paged, joined, table, AllBelow, IsGrown}
use Rattle.page_tables.proofs.PageLaws.{paged_grown}
use Rattle.node_store.specs.declared.held.Held.{Held}
use Rattle.node_store.specs.declared.held.Listed.{Listed}
use Rattle.node_store.specs.Nodes.{formed}
use Rattle.node_store.specs.Paged.{Paged, standing, states, pages_after, first, IsLonger}
use Rattle.node_store.specs.Kept.{listed, picked, IsKept, Sound, InPages, IsHeld}
use Rattle.node_store.proofs.Tables.{same_branches, same_sums, cells_more}
use Rattle.node_store.specs.Grown.{IsAt}

-- ---- the nodes as they are listed
pub length_listed : (hs : List Held) → length (listed hs) ≡ length hs
length_listed [] = refl
length_listed (h ∷ hs) = ap suc (length_listed hs)

pub listed_push : (hs : List Held) (h : Held) → listed (hs ++ h ∷ []) ≡ listed hs ++ h.node ∷ []
listed_push [] h = refl
listed_push (g ∷ hs) h = ap (λ (ns : List Listed). g.node ∷ ns) (listed_push hs h)

pub listed_take : (n : ℕ) (hs : List Held) → listed (take n hs) ≡ take n (listed hs)
listed_take zero hs = refl
listed_take (suc n) [] = refl
listed_take (suc n) (h ∷ hs) = ap (λ (ns : List Listed). h.node ∷ ns) (listed_take n hs)

pub listed_get : (hs : List Held) (i : ℕ) (d : Held) (e : Listed) → i < length hs → get_or (listed hs) i e ≡ (get_or hs i d).node
listed_get [] i d e l = absurd (omega (arith, l))
listed_get (h ∷ hs) zero d e l = refl
listed_get (h ∷ hs) (suc i) d e l = listed_get hs i d e (omega (arith, l))

-- ---- the states that they add
pub standing_length : (ps : List (List (Key × Cell))) (ts : List Tree) (ns : List Listed) → length (standing ps ts ns) ≡ length ns
standing_length ps ts [] = refl
standing_length ps ts (n ∷ ns) = ap suc (standing_length ps (ts ++ formed ts n.kind (table ps n.names) ∷ []) ns)

pub are_next : (ps : List (List (Key × Cell))) (ts : List Tree) (hs : List Held) → Sound ps ts hs → AreNext ts (standing ps ts (listed hs))
are_next ps ts [] s = tt
are_next ps ts (h ∷ hs) s = (s.0.next, are_next ps (ts ++ formed ts h.node.kind (table ps h.node.names) ∷ []) hs s.1)

-- what is held is a store
pub is_store : (ps : List (List (Key × Cell))) (hs : List Held) → Sound ps [] hs → IsStore (standing ps [] (listed hs))
is_store ps hs s = are_next ps [] hs s

-- ---- cut
pub standing_take : (ps : List (List (Key × Cell))) (ts : List Tree) (ns : List Listed) (k : ℕ) → standing ps ts (take k ns) ≡ take k (standing ps ts ns)
standing_take ps ts ns zero = refl
standing_take ps ts [] (suc k) = refl
standing_take ps ts (n ∷ ns) (suc k) = let t = formed ts n.kind (table ps n.names) in ap (λ (us : List Tree). t ∷ us) (standing_take ps (ts ++ t ∷ []) ns k)

pub sound_take : (ps : List (List (Key × Cell))) (ts : List Tree) (hs : List Held) (k : ℕ) → Sound ps ts hs → Sound ps ts (take k hs)
sound_take ps ts hs zero s = tt
sound_take ps ts [] (suc k) s = tt
sound_take ps ts (h ∷ hs) (suc k) s = (s.0, sound_take ps (ts ++ formed ts h.node.kind (table ps h.node.names) ∷ []) hs k s.1)

pub used_take : (n : ℕ) (ts : List Tree) → used (take n ts) ≤ used ts
used_take zero ts = omega arith
used_take (suc n) [] = omega arith
used_take (suc n) (t ∷ ts) = omega (arith, used_take n ts)

-- ---- pages
pub in_pages_push : (most more m : ℕ) (ns : List Listed) (n : Listed) → InPages most m ns → most ≤ more → n.after ≡ more → AllBelow more n.names → InPages more m (ns ++ n ∷ [])
in_pages_push most more m [] n k l e b = (omega (arith, k, l, e), subst (λ j. AllBelow j n.names) (sym e) b, e)
in_pages_push most more m (o ∷ ns) n k l e b = (k.0, k.1, in_pages_push most more o.after ns n k.2 l e b)

pub in_pages_take : (most m : ℕ) (ns : List Listed) (k : ℕ) → InPages most m ns → k ≤ length ns → InPages (pages_after m ns k) m (take k ns)
in_pages_take most m ns zero h l = refl
in_pages_take most m [] (suc k) h l = absurd (omega (arith, l))
in_pages_take most m (n ∷ ns) (suc k) h l = (h.0, h.1, in_pages_take most n.after ns k h.2 (omega (arith, l)))

pub after_most : (most m : ℕ) (ns : List Listed) (k : ℕ) → InPages most m ns → pages_after m ns k ≤ most
after_most most m [] zero h = omega (arith, h)
after_most most m (n ∷ ns) zero h = let a = h.0 in let b = after_most most n.after ns zero h.2 in omega (arith, a, b)
after_most most m [] (suc k) h = omega (arith, h)
after_most most m (n ∷ ns) (suc k) h = after_most most n.after ns k h.2

pub after_all : (most m : ℕ) (ns : List Listed) → InPages most m ns → pages_after m ns (length ns) ≡ most
after_all most m [] h = h
after_all most m (n ∷ ns) h = after_all most n.after ns h.2

pub below_then : (m n : ℕ) (ks : List ℕ) → AllBelow m ks → m ≤ n → AllBelow n ks
below_then m n [] b l = tt
below_then m n (k ∷ ks) b l = (let x = b.0 in omega (arith, x, l), below_then m n ks b.1 l)

least : (most m : ℕ) (ns : List Listed) → InPages most m ns → m ≤ most
least most m ns h = after_most most m ns zero h

pub below_at : (most m : ℕ) (ns : List Listed) (i : ℕ) (d : Listed) → InPages most m ns → i < length ns → AllBelow most (get_or ns i d).names
below_at most m [] i d k l = absurd (omega (arith, l))
below_at most m (n ∷ ns) zero d k l = below_then n.after most n.names k.1 (least most n.after ns k.2)
below_at most m (n ∷ ns) (suc i) d k l = below_at most n.after ns i d k.2 (omega (arith, l))

after_at : (m : ℕ) (ns : List Listed) (i : ℕ) (d : Listed) → i < length ns → pages_after m ns (suc i) ≡ (get_or ns i d).after
after_at m [] i d l = absurd (omega (arith, l))
after_at m (n ∷ ns) zero d l = refl
after_at m (n ∷ ns) (suc i) d l = after_at n.after ns i d (omega (arith, l))

pub after_through : (hs : List Held) (k : ℕ) (d : Held) → 1 ≤ k → k ≤ length hs → pages_after 0 (listed hs) k ≡ (get_or hs (k - 1) d).node.after
after_through hs zero d o l = absurd (omega (arith, o))
after_through hs (suc k) d o l =
    let e : suc k - 1 ≡ k = omega arith in
    let long = length_listed hs in
    rw e (after_at 0 (listed hs) k d.node (omega (arith, l, long)) ∙ ap (λ (n : Listed). n.after) (listed_get hs k d d.node (omega (arith, l))))

-- ---- pages that are added change no state
grown_names : (ps qs : List (List (Key × Cell))) (m : ℕ) (n : Listed) (ns : List Listed) → IsGrown ps qs → InPages (length ps) m (n ∷ ns) → paged qs n.names ≡ paged ps n.names
grown_names ps qs m n ns g k = paged_grown ps qs n.names g (below_then n.after (length ps) n.names k.1 (least (length ps) n.after ns k.2))

pub standing_grown : (ps qs : List (List (Key × Cell))) (m : ℕ) (ts : List Tree) (ns : List Listed) → IsGrown ps qs → InPages (length ps) m ns → standing qs ts ns ≡ standing ps ts ns
standing_grown ps qs m ts [] g k = refl
standing_grown ps qs m ts (n ∷ ns) g k =
    let here : formed ts n.kind (table qs n.names) ≡ formed ts n.kind (table ps n.names) = ap (λ (us : List (List (Key × Cell))). formed ts n.kind (joined us)) (grown_names ps qs m n ns g k) in
    let rest = standing_grown ps qs n.after (ts ++ formed ts n.kind (table ps n.names) ∷ []) ns g k.2 in
    λ i. here i ∷ ((ap (λ (t : Tree). standing qs (ts ++ t ∷ []) ns) here ∙ rest) i)

pub sound_grown : (ps qs : List (List (Key × Cell))) (m : ℕ) (ts : List Tree) (hs : List Held) → IsGrown ps qs → InPages (length ps) m (listed hs) → Sound ps ts hs → Sound qs ts hs
sound_grown ps qs m ts [] g k s = tt
sound_grown ps qs m ts (h ∷ hs) g k s =
    let same = grown_names ps qs m h.node (listed hs) g k in
    let here : formed ts h.node.kind (table qs h.node.names) ≡ formed ts h.node.kind (table ps h.node.names) = ap (λ (us : List (List (Key × Cell))). formed ts h.node.kind (joined us)) same in
    (subst (λ us. IsKept us ts h) (sym same) s.0, subst (λ (t : Tree). Sound qs (ts ++ t ∷ []) hs) (sym here) (sound_grown ps qs h.node.after (ts ++ formed ts h.node.kind (table ps h.node.names) ∷ []) hs g k.2 s.1))

-- nor do pages that no node names
pub sound_back : (ps qs : List (List (Key × Cell))) (m : ℕ) (ts : List Tree) (hs : List Held) → IsGrown ps qs → InPages (length ps) m (listed hs) → Sound qs ts hs → Sound ps ts hs
sound_back ps qs m ts [] g k s = tt
sound_back ps qs m ts (h ∷ hs) g k s =
    let same = grown_names ps qs m h.node (listed hs) g k in
    let here : formed ts h.node.kind (table qs h.node.names) ≡ formed ts h.node.kind (table ps h.node.names) = ap (λ (us : List (List (Key × Cell))). formed ts h.node.kind (joined us)) same in
    (subst (λ us. IsKept us ts h) same s.0, sound_back ps qs h.node.after (ts ++ formed ts h.node.kind (table ps h.node.names) ∷ []) hs g k.2 (subst (λ (t : Tree). Sound qs (ts ++ t ∷ []) hs) here s.1))

pub grown_take : (ps : List (List (Key × Cell))) (k : ℕ) → k ≤ length ps → IsGrown (take k ps) ps
grown_take ps k l = record {
  longer = grind (arith, common_steps);
  same = λ n h. let long = length-take-le k ps l in sym (get_or-take k ps n [] (omega (arith, h, long)));
}

-- ---- one more
pub standing_push : (ps : List (List (Key × Cell))) (ts : List Tree) (ns : List Listed) (n : Listed) → standing ps ts (ns ++ n ∷ []) ≡ standing ps ts ns ++ formed (ts ++ standing ps ts ns) n.kind (table ps n.names) ∷ []
standing_push ps ts [] n = ap (λ (us : List Tree). formed us n.kind (table ps n.names) ∷ []) (sym (append-nil ts))
standing_push ps ts (o ∷ ns) n =
    let t = formed ts o.kind (table ps o.names) in
    let rest = standing_push ps (ts ++ t ∷ []) ns n in
    let whole = append_assoc ts (t ∷ []) (standing ps (ts ++ t ∷ []) ns) in
    ap (λ (us : List Tree). t ∷ us) (rest ∙ ap (λ (us : List Tree). standing ps (ts ++ t ∷ []) ns ++ formed us n.kind (table ps n.names) ∷ []) whole)

pub sound_push : (ps : List (List (Key × Cell))) (ts : List Tree) (hs : List Held) (h : Held) → Sound ps ts hs → IsKept (paged ps h.node.names) (ts ++ standing ps ts (listed hs)) h → Sound ps ts (hs ++ h ∷ [])
sound_push ps ts [] h s k = (subst (λ us. IsKept (paged ps h.node.names) us h) (append-nil ts) k, tt)
sound_push ps ts (g ∷ hs) h s k =
    let t = formed ts g.node.kind (table ps g.node.names) in
    (s.0, sound_push ps (ts ++ t ∷ []) hs h s.1 (subst (λ us. IsKept (paged ps h.node.names) us h) (sym (append_assoc ts (t ∷ []) (standing ps (ts ++ t ∷ []) (listed hs)))) k))

-- ---- no more pages than what is used
pub pages_light : (ps : List (List (Key × Cell))) (ts : List Tree) (hs : List Held) (most m : ℕ) → Sound ps ts hs → InPages most m (listed hs) → m ≤ used ts → most ≤ used (ts ++ standing ps ts (listed hs))
pages_light ps ts [] most m s k l = let e = ap used (append-nil ts) in omega (arith, k, l, e)
pages_light ps ts (h ∷ hs) most m s k l =
    let t = formed ts h.node.kind (table ps h.node.names) in
    let room = s.0.room in
    let total = s.0.total in
    let one = used_append ts (t ∷ []) in
    let rest = pages_light ps (ts ++ t ∷ []) hs most h.node.after s.1 k.2 (omega (arith, room, total, one)) in
    let same = ap used (append_assoc ts (t ∷ []) (standing ps (ts ++ t ∷ []) (listed hs))) in
    omega (arith, rest, same)

-- ---- the node at a place
pub kept_at : (ps : List (List (Key × Cell))) (ts : List Tree) (hs : List Held) (i : ℕ) (d : Held) → Sound ps ts hs → i < length hs → IsAt ps ts hs i (get_or hs i d)
kept_at ps ts [] i d s l = absurd (omega (arith, l))
kept_at ps ts (h ∷ hs) zero d s l = record {
  kept = subst (λ us. IsKept (paged ps h.node.names) us h) (sym (append-nil ts)) s.0;
  same = λ e. ap (λ (us : List Tree). formed us h.node.kind (table ps h.node.names)) (sym (append-nil ts));
}
kept_at ps ts (h ∷ hs) (suc i) d s l =
    let t = formed ts h.node.kind (table ps h.node.names) in
    let g = get_or hs i d in
    let rest = kept_at ps (ts ++ t ∷ []) hs i d s.1 (omega (arith, l)) in
    let same = append_assoc ts (t ∷ []) (take i (standing ps (ts ++ t ∷ []) (listed hs))) in
    record {
      kept = subst (λ us. IsKept (paged ps g.node.names) us g) same rest.kept;
      same = λ e. rest.same e ∙ ap (λ (us : List Tree). formed us g.node.kind (table ps g.node.names)) same;
    }

pub held_at : (ps : List (List (Key × Cell))) (hs : List Held) (id : ℕ) (d : Held) → Sound ps [] hs → IsNumber (standing ps [] (listed hs)) id → IsHeld (paged ps (get_or hs (id - 1) d).node.names) (standing ps [] (listed hs)) (get_or hs (id - 1) d) id
held_at ps hs id d s n =
    let us = standing ps [] (listed hs) in
    let h = get_or hs (id - 1) d in
    let qs = paged ps h.node.names in
    let long = standing_length ps [] (listed hs) in
    let many = length_listed hs in
    let one : 1 ≤ id = n.0 in
    let most : id ≤ length us = n.1 in
    let l : id - 1 < length hs = omega (arith, one, most, long, many) in
    let at = kept_at ps [] hs (id - 1) d s l in
    let ts = take (id - 1) us in
    let e : Extends ts us = extends_take (id - 1) us in
    let count : length ts + 1 ≡ id = grind (arith, common_steps, one, most) in
    let rest = sym (same_branches ts us (joined qs) e at.kept.below) in
    let whole : tree_at us id ≡ formed ts h.node.kind (joined qs) = at.same (prim key.Null) in
    record {
      tree = whole ∙ (λ j. node (count j) h.node.kind (rest j));
      below = cells_more ts us (map (λ r. r.1) (joined qs)) e at.kept.below;
      count = at.kept.count;
      inside = at.kept.inside;
      starts = at.kept.starts;
      before = at.kept.before ∙ ap (λ (xs : List ℕ). picked xs (pages.starts 0 qs)) (sym (same_sums ts us 0 (map (λ r. r.1) (joined qs)) e at.kept.below));
      weight = at.kept.weight ∙ ap (λ (t : Tree). plain_value.weight (plain t)) (sym whole);
      values = at.kept.values ∙ ap (λ (t : Tree). plain_value.values (plain t)) (sym whole);
      containers = at.kept.containers ∙ ap containers (sym whole);
      depth = at.kept.depth ∙ ap (λ (t : Tree). plain_value.depth (plain t)) (sym whole);
    }

take_next : (ts : List Tree) (i : ℕ) (d : Tree) → i < length ts → take (suc i) ts ≡ take i ts ++ get_or ts i d ∷ []
take_next [] i d h = absurd (omega (arith, h))
take_next (t ∷ ts) zero d h = refl
take_next (t ∷ ts) (suc i) d h = ap (λ (us : List Tree). t ∷ us) (take_next ts i d (omega (arith, h)))

zero_after : (n : ℕ) → n ≡ n + 0
zero_after n = omega arith

-- the kept total is what is used up to there
total_at : (ps : List (List (Key × Cell))) (hs : List Held) (i : ℕ) (d : Held) → Sound ps [] hs → i < length hs → (get_or hs i d).total ≡ used (take (suc i) (standing ps [] (listed hs)))
total_at ps hs i d s l =
    let us = standing ps [] (listed hs) in
    let at = kept_at ps [] hs i d s l in
    let long = standing_length ps [] (listed hs) in
    let many = length_listed hs in
    let more = take_next us i (prim key.Null) (omega (arith, l, long, many)) in
    at.kept.total ∙ ap (λ (n : ℕ). used (take i us) + n) (ap own_weight (sym (at.same (prim key.Null))) ∙ zero_after (own_weight (get_or us i (prim key.Null)))) ∙ sym (used_append (take i us) (get_or us i (prim key.Null) ∷ [])) ∙ ap used (sym more)

pub total_through : (ps : List (List (Key × Cell))) (hs : List Held) (n : ℕ) (d : Held) → Sound ps [] hs → 1 ≤ n → n ≤ length hs → (get_or hs (n - 1) d).total ≡ used (take n (standing ps [] (listed hs)))
total_through ps hs zero d s one l = absurd (omega (arith, one))
total_through ps hs (suc n) d s one l = let e : suc n - 1 ≡ n = omega arith in rw e (total_at ps hs n d s (omega (arith, l)))

-- ---- a store that is cut
pub states_first : (s : Paged) (k : ℕ) → InPages (length s.pages) 0 s.nodes → k ≤ length s.nodes → states (first k s) ≡ take k (states s)
unfolding states
states_first s k h l =
    let m = pages_after 0 s.nodes k in
    let most = after_most (length s.pages) 0 s.nodes k h in
    let long : length (take m s.pages) ≡ m = length-take-le m s.pages most in
    let kept : InPages (length (take m s.pages)) 0 (take k s.nodes) = subst (λ j. InPages j 0 (take k s.nodes)) (sym long) (in_pages_take (length s.pages) 0 s.nodes k h l) in
    sym (standing_grown (take m s.pages) s.pages 0 [] (take k s.nodes) (grown_take s.pages m most) kept) ∙ standing_take s.pages [] s.nodes k

pub states_length : (s : Paged) → length (states s) ≡ length s.nodes
unfolding states
states_length s = standing_length s.pages [] s.nodes

-- ---- a store that is longer
take_less : {A : Type 0} (m n : ℕ) (xs : List A) → m ≤ n → take m (take n xs) ≡ take m xs
take_less zero n xs h = refl
take_less (suc m) zero xs h = absurd (omega (arith, h))
take_less (suc m) (suc n) [] h = refl
take_less (suc m) (suc n) (x ∷ xs) h = ap (λ ys. x ∷ ys) (take_less m n xs (omega (arith, h)))

take_long : {A : Type 0} (xs ys : List A) → take (length xs) ys ≡ xs → length xs ≤ length ys
take_long xs ys e = let l = ap length e in grind (arith, common_steps, l)

take_then : {A : Type 0} (xs ys zs : List A) → take (length xs) ys ≡ xs → take (length ys) zs ≡ ys → take (length xs) zs ≡ xs
take_then xs ys zs e f = sym (take_less (length xs) (length ys) zs (take_long xs ys e)) ∙ ap (take (length xs)) f ∙ e

take_whole : {A : Type 0} (xs : List A) → take (length xs) xs ≡ xs
take_whole [] = refl
take_whole (x ∷ xs) = ap (λ ys. x ∷ ys) (take_whole xs)

pub take_front : {A : Type 0} (xs ys : List A) → take (length xs) (xs ++ ys) ≡ xs
take_front [] ys = refl
take_front (x ∷ xs) ys = ap (λ zs. x ∷ zs) (take_front xs ys)

pub longer_refl : (s : Paged) → IsLonger s s
longer_refl s = record { nodes = take_whole s.nodes; pages = take_whole s.pages }

pub longer_then : (s u v : Paged) → IsLonger s u → IsLonger u v → IsLonger s v
longer_then s u v a b = record { nodes = take_then s.nodes u.nodes v.nodes a.nodes b.nodes; pages = take_then s.pages u.pages v.pages a.pages b.pages }

after_take : (m : ℕ) (ns : List Listed) (k : ℕ) → pages_after m (take k ns) k ≡ pages_after m ns k
after_take m ns zero = refl
after_take m [] (suc k) = refl
after_take m (n ∷ ns) (suc k) = after_take n.after ns k

-- cut to what the first had, it is the first
pub longer_cut : (s u : Paged) (n : ℕ) → IsLonger s u → n ≡ length s.nodes → pages_after 0 s.nodes n ≡ length s.pages → first n u ≡ s
longer_cut s u n g e k =
    let nodes : take n u.nodes ≡ s.nodes = ap (λ (j : ℕ). take j u.nodes) e ∙ g.nodes in
    let count : pages_after 0 u.nodes n ≡ length s.pages = sym (after_take 0 u.nodes n) ∙ ap (λ (ns : List Listed). pages_after 0 ns n) nodes ∙ k in
    let pages : take (pages_after 0 u.nodes n) u.pages ≡ s.pages = ap (λ (j : ℕ). take j u.pages) count ∙ g.pages in
    λ i. record { pages = pages i; nodes = nodes i }

-- ---- the store of what is held
abbrev pub store_of : List (List (Key × Cell)) → List Held → Paged
store_of ps hs = record { pages = ps; nodes = listed hs }

pub many_states : (ps : List (List (Key × Cell))) (hs : List Held) → length (states (store_of ps hs)) ≡ length hs
many_states ps hs = states_length (store_of ps hs) ∙ length_listed hs

pub held_store : (ps : List (List (Key × Cell))) (hs : List Held) → Sound ps [] hs → IsStore (states (store_of ps hs))
unfolding states
held_store ps hs s = is_store ps hs s

pub used_states : (ps : List (List (Key × Cell))) (hs : List Held) (n : ℕ) → n ≡ used (standing ps [] (listed hs)) → n ≡ used (states (store_of ps hs))
unfolding states
used_states ps hs n e = e

pub through_states : (ps : List (List (Key × Cell))) (hs : List Held) (n : ℕ) (d : Held) → Sound ps [] hs → 1 ≤ n → n ≤ length hs → (get_or hs (n - 1) d).total ≡ used (take n (states (store_of ps hs)))
unfolding states
through_states ps hs n d s o l = total_through ps hs n d s o l

pub pages_used : (ps : List (List (Key × Cell))) (hs : List Held) → Sound ps [] hs → InPages (length ps) 0 (listed hs) → length ps ≤ used (states (store_of ps hs))
unfolding states
pages_used ps hs s k = pages_light ps [] hs (length ps) 0 s k (omega arith)

pub used_standing : (ps : List (List (Key × Cell))) (hs : List Held) (n : ℕ) → n ≡ used (states (store_of ps hs)) → n ≡ used (standing ps [] (listed hs))
unfolding states
used_standing ps hs n e = e

-- ---- a store that is cut
pub record IsCut (ps : List (List (Key × Cell))) (hs : List Held) (n : ℕ) (qs : List (List (Key × Cell))) (gs : List Held) : Type 0 where
  pub named : InPages (length qs) 0 (listed gs)
  pub sound : Sound qs [] gs
  pub whole : store_of qs gs ≡ first n (store_of ps hs)
  pub states_are : states (store_of qs gs) ≡ take n (states (store_of ps hs))

pub cut_kept : (ps : List (List (Key × Cell))) (hs : List Held) (n m : ℕ) (qs : List (List (Key × Cell))) (gs : List Held) → InPages (length ps) 0 (listed hs) → Sound ps [] hs → n ≤ length hs → m ≡ pages_after 0 (listed hs) n → qs ≡ take m ps → gs ≡ take n hs → IsCut ps hs n qs gs
cut_kept ps hs n m qs gs k s l e p g =
    let s0 : Paged = store_of ps hs in
    let far : n ≤ length (listed hs) = let many = length_listed hs in omega (arith, l, many) in
    let nodes : listed gs ≡ take n (listed hs) = ap listed g ∙ listed_take n hs in
    let pages_are : qs ≡ take (pages_after 0 (listed hs) n) ps = p ∙ ap (λ (j : ℕ). take j ps) e in
    let whole : store_of qs gs ≡ first n s0 = λ i. record { pages = pages_are i; nodes = nodes i } in
    let most = after_most (length ps) 0 (listed hs) n k in
    let long : length qs ≡ pages_after 0 (listed hs) n = ap length pages_are ∙ length-take-le (pages_after 0 (listed hs) n) ps most in
    let named : InPages (length qs) 0 (listed gs) = subst (λ ns. InPages (length qs) 0 ns) (sym nodes) (subst (λ j. InPages j 0 (take n (listed hs))) (sym long) (in_pages_take (length ps) 0 (listed hs) n k far)) in
    let grown : IsGrown qs ps = subst (λ us. IsGrown us ps) (sym pages_are) (grown_take ps (pages_after 0 (listed hs) n) most) in
    record {
      named = named;
      sound = sound_back qs ps 0 [] gs grown named (subst (Sound ps []) (sym g) (sound_take ps [] hs n s));
      whole = whole;
      states_are = ap (λ (u : Paged). states u) whole ∙ states_first s0 n k far;
    }
