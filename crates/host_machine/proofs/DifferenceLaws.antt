-- The differences of two ascending tables, entry by entry from the front.
use Rattle.std.proofs.Common.{◌≡◌, List, [], ◌∷◌, ◌++◌, ap, refl, sym, ◌∙◌, subst, Bool, true, false, Option, Some, None, Less, Equal, Greater, Ordering}
use Rattle.std.specs.Prelude.{IsTrue, ◌&&◌}
use Rattle.std.specs.Ordering.{is_lt}
use Rattle.std.specs.FinMap.Entries.{find, put, is_sorted, below_all}
use Rattle.std.proofs.lemmas.Bool.{and_from}
use Rattle.value_model.specs.declared.key.Key.{Key}
use Rattle.value_model.specs.declared.op.Op.TheVariants.{Add, Remove}
use Rattle.value_model.specs.Order.{key_cmp, key_total, key_exact}
use Rattle.value_model.specs.Plain.{Plain, Table}
use Rattle.value_model.specs.Search.{left_true, right_true, less_from_test, turned}
use Rattle.value_model.proofs.Search.{none_below}
use Rattle.value_model.proofs.Tables.{is_eq-same}
use Rattle.values.specs.declared.patch.Patch.{Patch}
use Rattle.host_machine.specs.Differences.{union, keys, patch, change, changes, differences}

abbrev Above : Key → Table → Type 0
Above k es = below_all key_cmp k es ≡ true

-- an entry above k, and what is above it
above_next : (k : Key) (e : Key × Plain) (es : Table) → key_cmp k e.0 ≡ Less → Above e.0 es → Above k es
above_next k e [] p h = refl
above_next k e (d ∷ ds) p h =
    let q : key_cmp k d.0 ≡ Less = key_total.trans k e.0 d.0 p (less_from_test _ (left_true _ _ h)) in
    and_from _ _ (ap is_lt q) (above_next k e ds p (right_true _ _ h))

put_above : (k : Key) (f e : Key × Plain) (es : Table) (o : Ordering) → key_cmp f.0 e.0 ≡ o → key_cmp k f.0 ≡ Less → Above k (e ∷ es) → Above k (put key_cmp f.0 f.1 es) → Above k (put key_cmp f.0 f.1 (e ∷ es))
put_above k f e es Less q p h ih = rw q (and_from _ _ (ap is_lt p) h)
put_above k f e es Equal q p h ih = rw q h
put_above k f e es Greater q p h ih = rw q (and_from _ _ (left_true _ _ h) ih)

above_put : (k : Key) (f : Key × Plain) (es : Table) → key_cmp k f.0 ≡ Less → Above k es → Above k (put key_cmp f.0 f.1 es)
above_put k f [] p h = and_from _ _ (ap is_lt p) refl
above_put k f (e ∷ es) p h = put_above k f e es (key_cmp f.0 e.0) refl p h (above_put k f es p (right_true _ _ h))

above_union : (k : Key) (es fs : Table) → Above k es → Above k fs → Above k (union es fs)
above_union k es [] p q = p
above_union k es (f ∷ fs) p q = above_union k (put key_cmp f.0 f.1 es) fs (above_put k f es (less_from_test _ (left_true _ _ q)) p) (right_true _ _ q)

greater : (j k : Key) → key_cmp j k ≡ Less → key_cmp k j ≡ Greater
greater j k p = turned j k k Less p

-- an entry below all others stays the first
union_first : (e : Key × Plain) (es fs : Table) → Above e.0 fs → union (e ∷ es) fs ≡ e ∷ union es fs
union_first e es [] h = refl
union_first e es (f ∷ fs) h = rw (greater e.0 f.0 (less_from_test _ (left_true _ _ h))) (union_first e (put key_cmp f.0 f.1 es) fs (right_true _ _ h))

-- an entry below all keys makes no difference there
changes_old : (ks : Table) (e : Key × Plain) (es new : Table) → Above e.0 ks → changes (keys ks) (e ∷ es) new ≡ changes (keys ks) es new
changes_old [] e es new h = refl
changes_old (k ∷ ks) e es new h = rw (greater e.0 k.0 (less_from_test _ (left_true _ _ h))) (ap (λ (ps : List Patch). change k.0 (find key_cmp k.0 es) (find key_cmp k.0 new) ++ ps) (changes_old ks e es new (right_true _ _ h)))

changes_new : (ks : Table) (f : Key × Plain) (old fs : Table) → Above f.0 ks → changes (keys ks) old (f ∷ fs) ≡ changes (keys ks) old fs
changes_new [] f old fs h = refl
changes_new (k ∷ ks) f old fs h = rw (greater f.0 k.0 (less_from_test _ (left_true _ _ h))) (ap (λ (ps : List Patch). change k.0 (find key_cmp k.0 old) (find key_cmp k.0 fs) ++ ps) (changes_new ks f old fs (right_true _ _ h)))

abbrev Sorted : Table → Type 0
Sorted es = IsTrue (is_sorted key_cmp es)

pub differences-none : differences [] [] ≡ []
unfolding differences
differences-none = refl

pub differences-removed : (e : Key × Plain) (es : Table) → Sorted (e ∷ es) → differences (e ∷ es) [] ≡ patch Remove e.0 None ∷ differences es []
unfolding differences
differences-removed e es h = rw (is_eq-same e.0) (ap (λ (ps : List Patch). patch Remove e.0 None ∷ ps) (changes_old es e es [] (left_true _ _ h)))

pub differences-added : (f : Key × Plain) (fs : Table) → Sorted (f ∷ fs) → differences [] (f ∷ fs) ≡ patch Add f.0 (Some f.1) ∷ differences [] fs
unfolding differences
differences-added f fs h =
    rw (union_first f [] fs (left_true _ _ h), is_eq-same f.0)
    (ap (λ (ps : List Patch). patch Add f.0 (Some f.1) ∷ ps) (changes_new (union [] fs) f [] fs (above_union f.0 [] fs refl (left_true _ _ h))))

found : (e : Key × Plain) (es : Table) → find key_cmp e.0 (e ∷ es) ≡ Some e.1
found e es = rw (is_eq-same e.0) refl

missing : (k : Key) (e : Key × Plain) (es : Table) → key_cmp k e.0 ≡ Less → Sorted (e ∷ es) → find key_cmp k (e ∷ es) ≡ None
missing k e es p h = rw p (none_below k e.0 es p (left_true _ _ h)).nothing

above_all : (k : Key) (e : Key × Plain) (es : Table) → key_cmp k e.0 ≡ Less → Sorted (e ∷ es) → Above k (e ∷ es)
above_all k e es p h = and_from _ _ (ap is_lt p) (above_next k e es p (left_true _ _ h))

-- the first key of both: its patch, and the others'
first_key : (u : Key × Plain) (us old new : Table) (v w : Option Plain) (rest : List Patch) → union old new ≡ u ∷ us → find key_cmp u.0 old ≡ v → find key_cmp u.0 new ≡ w
    → changes (keys us) old new ≡ rest → differences old new ≡ change u.0 v w ++ rest
unfolding differences
first_key u us old new v w rest e p q r = ap (λ (ts : Table). changes (keys ts) old new) e ∙ (λ i. change u.0 (p i) (q i) ++ r i)

-- the old table's first key is below the new one's
pub differences-less : (e f : Key × Plain) (es fs : Table) → Sorted (e ∷ es) → Sorted (f ∷ fs) → key_cmp e.0 f.0 ≡ Less → differences (e ∷ es) (f ∷ fs) ≡ patch Remove e.0 None ∷ differences es (f ∷ fs)
unfolding differences
differences-less e f es fs h g p =
    let above : Above e.0 (f ∷ fs) = above_all e.0 f fs p g in
    first_key e (union es (f ∷ fs)) (e ∷ es) (f ∷ fs) (Some e.1) None (differences es (f ∷ fs)) (union_first e es (f ∷ fs) above) (found e es) (missing e.0 f fs p g)
    (changes_old (union es (f ∷ fs)) e es (f ∷ fs) (above_union e.0 es (f ∷ fs) (left_true _ _ h) above))

-- or above it
pub differences-greater : (e f : Key × Plain) (es fs : Table) → Sorted (e ∷ es) → Sorted (f ∷ fs) → key_cmp e.0 f.0 ≡ Greater → differences (e ∷ es) (f ∷ fs) ≡ patch Add f.0 (Some f.1) ∷ differences (e ∷ es) fs
unfolding differences
differences-greater e f es fs h g p =
    let below : key_cmp f.0 e.0 ≡ Less = turned e.0 f.0 f.0 Greater p in
    let joined : union (e ∷ es) (f ∷ fs) ≡ f ∷ union (e ∷ es) fs = rw below (union_first f (e ∷ es) fs (left_true _ _ g)) in
    first_key f (union (e ∷ es) fs) (e ∷ es) (f ∷ fs) None (Some f.1) (differences (e ∷ es) fs) joined (missing f.0 e es below h) (found f fs)
    (changes_new (union (e ∷ es) fs) f (e ∷ es) fs (above_union f.0 (e ∷ es) fs (above_all f.0 e es below h) (left_true _ _ g)))

-- or the same
pub differences-equal : (e f : Key × Plain) (es fs : Table) → Sorted (e ∷ es) → Sorted (f ∷ fs) → key_cmp e.0 f.0 ≡ Equal → differences (e ∷ es) (f ∷ fs) ≡ change e.0 (Some e.1) (Some f.1) ++ differences es fs
unfolding differences
differences-equal e f es fs h g p =
    let same_key : e.0 ≡ f.0 = key_exact e.0 f.0 p in
    let back : key_cmp f.0 e.0 ≡ Equal = turned e.0 f.0 f.0 Equal p in
    let above_old : Above e.0 fs = subst (λ (k : Key). Above k fs) (sym same_key) (left_true _ _ g) in
    let above_new : Above f.0 es = subst (λ (k : Key). Above k es) same_key (left_true _ _ h) in
    let both : Key × Plain = (e.0, f.1) in
    let joined : union (e ∷ es) (f ∷ fs) ≡ both ∷ union es fs = rw back (union_first both es fs above_old) in
    let at_new : find key_cmp e.0 (f ∷ fs) ≡ Some f.1 = rw p refl in
    first_key both (union es fs) (e ∷ es) (f ∷ fs) (Some e.1) (Some f.1) (differences es fs) joined (found e es) at_new
    (changes_old (union es fs) e es (f ∷ fs) (above_union e.0 es fs (left_true _ _ h) above_old)
    ∙ changes_new (union es fs) f es fs (above_union f.0 es fs above_new (left_true _ _ g)))
