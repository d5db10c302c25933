-- There is no result tree exactly where an object is reached from itself.
use Rattle.std.proofs.Common.{◌≡◌, ℕ, zero, suc, ◌<◌, List, [], ◌∷◌, length, refl, ap, sym, ◌∙◌, subst, arith, Bool, true, false, Option, Some, None, ◌⊎◌, ◌↔◌, inl, inr, eqb, eqb-true}
use Rattle.std.specs.Prelude.{option_map, ◌||◌, ⊤}
use Rattle.std.specs.List.{IsDistinct, AllByRecursion, list_any}
use Rattle.std.proofs.lemmas.Bool.{or_parts}
use Rattle.std.proofs.lemmas.Map.Steps.{length-le_from_distinct_below}
use Rattle.value_model.specs.declared.key.Key.{Key}
use Rattle.run_heap.specs.declared.value.Rv.{Rv}
use Rattle.run_heap.specs.declared.value.Rv.TheVariants.{Undefined, Prim, Obj, Frozen}
use Rattle.run_heap.specs.declared.content.Content.{Content}
use Rattle.run_heap.specs.Heap.{Heap}
use Rattle.run_heap.specs.Operations.{Rows, rows_of}
use Rattle.run_heap.specs.Sound.{IsSound, IsStored, RowsStored, IsContent}
use Rattle.result_trees.specs.Cycles.{Names, Holds, Walk, MeetsCycle, HasCycle}
use Rattle.result_trees.specs.Final.{Final, Finals, object, with_entry, read_rows, read_object, read_value, final, returned}

-- ---- from an object that meets a cycle on, reading has no end
next_meets : (h : Heap) (m : ℕ) → MeetsCycle h m → (k : ℕ) × Holds (rows_of (h.object m)) k × MeetsCycle h k
next_meets h m c = by c.1 c.2
  where
    by : (ks : List ℕ) → Walk h m ks c.0 → (k : ℕ) × Holds (rows_of (h.object m)) k × MeetsCycle h k
    by [] w =
        let cyc = c.3 in
        (cyc.0, subst (λ (i : ℕ). Holds (rows_of (h.object i)) cyc.0) (sym w) cyc.2.0, (c.0, cyc.1, cyc.2.1, cyc))
    by (k ∷ ks) w = (k, w.0, (c.0, ks, w.1, c.3))

no_entry : (k : Key) (a : Option Final) → with_entry k a None ≡ None
no_entry k None = refl
no_entry k (Some f) = refl

no_first : (k : Key) (a : Option Final) (b : Option Finals) → a ≡ None → with_entry k a b ≡ None
no_first k a b e = ap (λ (x : Option Final). with_entry k x b) e

no_rows : (g : Rv → Option Final) (t : Rows) (k : ℕ) → Holds t k → ((w : Rv) → Names w k → g w ≡ None) → read_rows g t ≡ None
no_rows g [] k h law = absurd h
no_rows g (e ∷ t) k (inl n) law = no_first e.0 (g e.1) (read_rows g t) (law e.1 n)
no_rows g (e ∷ t) k (inr h) law = ap (λ (x : Option Finals). with_entry e.0 (g e.1) x) (no_rows g t k h law) ∙ no_entry e.0 (g e.1)

no_object : (n k : ℕ) (g : Rv → Option Final) (o : Option Content) → Holds (rows_of o) k → ((w : Rv) → Names w k → g w ≡ None) → read_object n g o ≡ None
no_object n k g None h law = refl
no_object n k g (Some c) h law = ap (λ (x : Option Finals). option_map (object n c.kind) x) (no_rows g c.table k h law)

none_read : (levels : ℕ) (h : Heap) (v : Rv) (m : ℕ) → Names v m → MeetsCycle h m → read_value levels h v ≡ None
none_read levels h Undefined m n c = absurd n
none_read levels h (Prim k) m n c = absurd n
none_read levels h (Frozen id) m n c = absurd n
none_read zero h (Obj r) m n c = refl
none_read (suc levels) h (Obj r) m n c =
    let on = next_meets h r.slot (subst (λ (i : ℕ). MeetsCycle h i) (sym n) c) in
    no_object r.slot on.0 (read_value levels h) (h.object r.slot) on.1 (λ w a. none_read levels h w on.0 a on.2)

-- ---- where reading doesn't end, there is a walk as long as it was
abbrev Chain : Heap → ℕ → List ℕ → Type 0
Chain h m [] = ⊤
Chain h m (k ∷ ks) = Holds (rows_of (h.object m)) k × Chain h k ks

abbrev AllBelow : ℕ → List ℕ → Type 0
AllBelow n [] = ⊤
AllBelow n (k ∷ ks) = (k < n) × AllBelow n ks

record Long (h : Heap) (v : Rv) (levels : ℕ) : Type 0 where
  first : ℕ
  rest : List ℕ
  named : Names v first
  chain : Chain h first rest
  long : length rest ≡ levels
  below : AllBelow h.next (first ∷ rest)

record Bad (h : Heap) (g : Rv → Option Final) (t : Rows) : Type 0 where
  value : Rv
  unread : g value ≡ None
  stored : IsStored h value
  holds : (k : ℕ) → Names value k → Holds t k

bad_row : (h : Heap) (g : Rv → Option Final) (t : Rows) → RowsStored h t → read_rows g t ≡ None → Bad h g t
bad_row h g [] d e = absurd (cc)
bad_row h g (x ∷ t) d e = by (g x.1) (read_rows g t) refl refl e (λ q. bad_row h g t d.1 q)
  where
    by : (a : Option Final) (b : Option Finals) → g x.1 ≡ a → read_rows g t ≡ b → with_entry x.0 a b ≡ None → (read_rows g t ≡ None → Bad h g t) → Bad h g (x ∷ t)
    by None b p q e rest = record { value = x.1; unread = p; stored = d.0; holds = λ k n. inl n }
    by (Some f) None p q e rest = let r = rest q in record { value = r.value; unread = r.unread; stored = r.stored; holds = λ k n. inr (r.holds k n) }
    by (Some f) (Some fs) p q e rest = absurd (cc)

unmapped : (n : ℕ) (c : Content) (o : Option Finals) → option_map (object n c.kind) o ≡ None → o ≡ None
unmapped n c None e = refl
unmapped n c (Some fs) e = absurd (cc)

long_walk : (h : Heap) → IsSound h → (levels : ℕ) (v : Rv) → IsStored h v → read_value levels h v ≡ None → Long h v levels
long_walk h s levels Undefined d e = absurd d
long_walk h s levels (Prim k) d e = absurd (cc)
long_walk h s levels (Frozen id) d e = absurd (cc)
long_walk h s zero (Obj r) d e = record { first = r.slot; rest = []; named = refl; chain = tt; long = refl; below = (d.1, tt) }
long_walk h s (suc levels) (Obj r) d e = by (h.object r.slot) refl (s.tables r.slot) e (λ w a b. long_walk h s levels w a b)
  where
    by : (o : Option Content) → h.object r.slot ≡ o → IsContent h o → read_object r.slot (read_value levels h) o ≡ None → ((w : Rv) → IsStored h w → read_value levels h w ≡ None → Long h w levels) → Long h (Obj r) (suc levels)
    by None p t q law = absurd (s.full r.slot d.1 p)
    by (Some c) p t q law =
        let bad = bad_row h (read_value levels h) c.table t.stored (unmapped r.slot c (read_rows (read_value levels h) c.table) q) in
        let more = law bad.value bad.stored bad.unread in
        record {
          first = r.slot;
          rest = more.first ∷ more.rest;
          named = refl;
          chain = (subst (λ (o : Option Content). Holds (rows_of o) more.first) (sym p) (bad.holds more.first more.named), more.chain);
          long = ap suc more.long;
          below = (d.1, more.below);
        }

-- ---- a walk that is longer than there are objects meets one of them twice
walk_to : (h : Heap) (m n : ℕ) (ks : List ℕ) → Chain h m ks → list_any (eqb n) ks ≡ true → (k : ℕ) × (rest : List ℕ) × Walk h m (k ∷ rest) n
walk_to h m n [] c e = absurd (cc)
walk_to h m n (k ∷ ks) c e = by (eqb n k) refl e (λ q. walk_to h k n ks c.1 q)
  where
    by : (b : Bool) → eqb n k ≡ b → (b || list_any (eqb n) ks) ≡ true → (list_any (eqb n) ks ≡ true → (j : ℕ) × (rest : List ℕ) × Walk h k (j ∷ rest) n) → (j : ℕ) × (rest : List ℕ) × Walk h m (j ∷ rest) n
    by true p q rest = (k, [], (c.0, sym (eqb-true n k p)))
    by false p q rest = let r = rest q in (k, r.0 ∷ r.1, (c.0, r.2))

all_apart : (m : ℕ) (ks : List ℕ) → list_any (eqb m) ks ≡ false → AllByRecursion (λ (y : ℕ). eqb m y ≡ false) ks
all_apart m [] e = tt
all_apart m (k ∷ ks) e = let p = or_parts (eqb m k) (list_any (eqb m) ks) e in (p.0, all_apart m ks p.1)

repeated : (h : Heap) (m : ℕ) (ks : List ℕ) → Chain h m ks → IsDistinct eqb (m ∷ ks) ⊎ MeetsCycle h m
unfolding IsDistinct
repeated h m [] c = inl (tt, tt)
repeated h m (k ∷ ks) c = by (list_any (eqb m) (k ∷ ks)) refl (repeated h k ks c.1)
  where
    by : (b : Bool) → list_any (eqb m) (k ∷ ks) ≡ b → IsDistinct eqb (k ∷ ks) ⊎ MeetsCycle h k → IsDistinct eqb (m ∷ k ∷ ks) ⊎ MeetsCycle h m
    by true e rest = let w = walk_to h m m (k ∷ ks) c e in inr (m, [], refl, w)
    by false e (inl d) = inl (all_apart m (k ∷ ks) e, d)
    by false e (inr x) = inr (x.0, k ∷ x.1, (c.0, x.2), x.3)

below_any : (n : ℕ) (ks : List ℕ) → AllBelow n ks → (q : ℕ) → list_any (eqb q) ks ≡ true → q < n
below_any n [] a q e = absurd (cc)
below_any n (k ∷ ks) a q e = by (eqb q k) refl e (below_any n ks a.1 q)
  where
    by : (b : Bool) → eqb q k ≡ b → (b || list_any (eqb q) ks) ≡ true → (list_any (eqb q) ks ≡ true → q < n) → q < n
    by true p x rest = let same = eqb-true q k p in let l = a.0 in omega (arith, same, l)
    by false p x rest = rest x

meets : (h : Heap) (v : Rv) → Long h v h.next → HasCycle h v
meets h v w = by (repeated h w.first w.rest w.chain)
  where
    by : IsDistinct eqb (w.first ∷ w.rest) ⊎ MeetsCycle h w.first → HasCycle h v
    by (inr c) = (w.first, w.named, c)
    by (inl d) =
        let most = length-le_from_distinct_below (w.first ∷ w.rest) h.next d (below_any h.next (w.first ∷ w.rest) w.below) in
        let l = w.long in
        absurd (omega (arith, most, l))

pub no_tree : (h : Heap) (v : Rv) → IsSound h → IsStored h (returned h v) → (final h v ≡ None) ↔ HasCycle h (returned h v)
no_tree h v s d = (λ e. meets h (returned h v) (long_walk h s h.next (returned h v) d e), λ c. none_read h.next h (returned h v) c.0 c.1 c.2)
