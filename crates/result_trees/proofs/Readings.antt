-- A result tree and the value that it is read from.
use Rattle.std.proofs.Common.{◌≡◌, ℕ, zero, suc, [], ◌∷◌, refl, ap, sym, ◌∙◌, subst, Option, Some, None}
use Rattle.std.specs.Prelude.{option_map, ⊤}
use Rattle.value_model.specs.declared.key.Key.{Key}
use Rattle.value_model.specs.declared.kind.Kind.{Kind}
use Rattle.numbered.specs.Store.{tree_at}
use Rattle.run_heap.specs.declared.value.ObjRef.{ObjRef}
use Rattle.run_heap.specs.declared.value.Rv.{Rv}
use Rattle.run_heap.specs.declared.value.Rv.TheVariants.{Undefined, Prim, Obj, Frozen}
use Rattle.run_heap.specs.declared.content.Content.{Content}
use Rattle.run_heap.specs.Heap.{Heap}
use Rattle.run_heap.specs.Operations.{Rows}
use Rattle.result_trees.specs.Cycles.{Names}
use Rattle.result_trees.specs.Final.{Final, Finals, prim, frozen, object, none, entry, with_entry, read_rows, read_object, read_value}

-- an object is there, and this holds of its content
abbrev pub IfContent : Option Content → (Content → Type 0) → Type 0
IfContent None P = ⊥
IfContent (Some c) P = P c

-- the tree is what a value is read as, and what the values of a table are read as
abbrev mutual
  pub Reads : Heap → Final → Rv → Type 0
  Reads h (prim k) v = v ≡ Prim k
  Reads h (frozen t) v = (id : ℕ) × (v ≡ Frozen id) × (tree_at h.states id ≡ t)
  Reads h (object n of es) v = Names v n × IfContent (h.object n) (λ c. (c.kind ≡ of) × ReadsRows h es c.table)

  pub ReadsRows : Heap → Finals → Rows → Type 0
  ReadsRows h none [] = ⊤
  ReadsRows h none (e ∷ t) = ⊥
  ReadsRows h (entry k f fs) [] = ⊥
  ReadsRows h (entry k f fs) (e ∷ t) = (e.0 ≡ k) × Reads h f e.1 × ReadsRows h fs t

-- the object with this name is read so
abbrev pub Shows : Heap → ℕ → Kind → Finals → Type 0
Shows h n of es = IfContent (h.object n) (λ c. (c.kind ≡ of) × ReadsRows h es c.table)

-- ---- what is read is read so
record Parts (k : Key) (a : Option Final) (b : Option Finals) (fs : Finals) : Type 0 where
  first : Final
  rest : Finals
  is_first : a ≡ Some first
  is_rest : b ≡ Some rest
  whole : entry k first rest ≡ fs

parts : (k : Key) (a : Option Final) (b : Option Finals) (fs : Finals) → with_entry k a b ≡ Some fs → Parts k a b fs
parts k None b fs e = absurd (cc)
parts k (Some f) None fs e = absurd (cc)
parts k (Some f) (Some gs) fs e = record { first = f; rest = gs; is_first = refl; is_rest = refl; whole = cc }

rows_read : (h : Heap) (g : Rv → Option Final) (t : Rows) (fs : Finals) → ((v : Rv) (f : Final) → g v ≡ Some f → Reads h f v) → read_rows g t ≡ Some fs → ReadsRows h fs t
rows_read h g [] fs law e = let q : none ≡ fs = cc in subst (λ (x : Finals). ReadsRows h x []) q tt
rows_read h g (r ∷ t) fs law e =
    let p = parts r.0 (g r.1) (read_rows g t) fs e in
    subst (λ (x : Finals). ReadsRows h x (r ∷ t)) p.whole (refl, law r.1 p.first p.is_first, rows_read h g t p.rest law p.is_rest)

mapped : (n : ℕ) (of : Kind) (o : Option Finals) (f : Final) → option_map (object n of) o ≡ Some f → (es : Finals) × (o ≡ Some es) × (object n of es ≡ f)
mapped n of None f e = absurd (cc)
mapped n of (Some es) f e = (es, refl, cc)

object_reads : (h : Heap) (r : ObjRef) (g : Rv → Option Final) (f : Final) (o : Option Content) → h.object r.slot ≡ o → ((v : Rv) (f : Final) → g v ≡ Some f → Reads h f v) → read_object r.slot g o ≡ Some f → Reads h f (Obj r)
object_reads h r g f None p law e = absurd (cc)
object_reads h r g f (Some c) p law e =
    let m = mapped r.slot c.kind (read_rows g c.table) f e in
    subst (λ (x : Final). Reads h x (Obj r)) m.2
    (refl, subst (λ (o : Option Content). IfContent o (λ d. (d.kind ≡ c.kind) × ReadsRows h m.0 d.table)) (sym p) (refl, rows_read h g c.table m.0 law m.1))

pub reads : (levels : ℕ) (h : Heap) (v : Rv) (f : Final) → read_value levels h v ≡ Some f → Reads h f v
reads levels h Undefined f e = absurd (cc)
reads levels h (Prim k) f e = let q : prim k ≡ f = cc in subst (λ (x : Final). Reads h x (Prim k)) q refl
reads levels h (Frozen id) f e = let q : frozen (tree_at h.states id) ≡ f = cc in subst (λ (x : Final). Reads h x (Frozen id)) q (id, refl, refl)
reads zero h (Obj r) f e = absurd (cc)
reads (suc levels) h (Obj r) f e = object_reads h r (read_value levels h) f (h.object r.slot) refl (λ v g q. reads levels h v g q) e

-- ---- an object is read in one way alone
names_same : (v : Rv) (m n : ℕ) → Names v m → Names v n → m ≡ n
names_same (Obj r) m n a b = sym a ∙ b
names_same Undefined m n a b = absurd a
names_same (Prim k) m n a b = absurd a
names_same (Frozen id) m n a b = absurd a

both_content : {R : Type 0} (P Q : Content → Type 0) (o : Option Content) → IfContent o P → IfContent o Q → ((c : Content) → P c → Q c → R) → R
both_content P Q None a b f = absurd a
both_content P Q (Some c) a b f = f c a b

not_named : (v : Rv) (k : Key) (n : ℕ) → v ≡ Prim k → Names v n → ⊥
not_named v k n e a = subst (λ (w : Rv). Names w n) e a

not_frozen : (v : Rv) (id n : ℕ) → v ≡ Frozen id → Names v n → ⊥
not_frozen v id n e a = subst (λ (w : Rv). Names w n) e a

mutual
  pub same_reading : (h : Heap) (f g : Final) (v : Rv) → Reads h f v → Reads h g v → f ≡ g
  same_reading h (prim j) (prim k) v a b = let e : Prim j ≡ Prim k = sym a ∙ b in let q : j ≡ k = cc in ap prim q
  same_reading h (prim j) (frozen t) v a b = let e : Prim j ≡ Frozen b.0 = sym a ∙ b.1 in absurd (cc)
  same_reading h (prim j) (object n of es) v a b = absurd (not_named v j n a b.0)
  same_reading h (frozen t) (prim k) v a b = let e : Prim k ≡ Frozen a.0 = sym b ∙ a.1 in absurd (cc)
  same_reading h (frozen t) (frozen u) v a b =
      let e : Frozen a.0 ≡ Frozen b.0 = sym a.1 ∙ b.1 in
      let q : a.0 ≡ b.0 = cc in
      ap frozen (sym a.2 ∙ ap (tree_at h.states) q ∙ b.2)
  same_reading h (frozen t) (object n of es) v a b = absurd (not_frozen v a.0 n a.1 b.0)
  same_reading h (object m of es) (prim k) v a b = absurd (not_named v k m b a.0)
  same_reading h (object m of es) (frozen u) v a b = absurd (not_frozen v b.0 m b.1 a.0)
  same_reading h (object m of es) (object n to fs) v a b =
      let q = names_same v m n a.0 b.0 in
      let shows : Shows h m to fs = subst (λ (i : ℕ). Shows h i to fs) (sym q) b.1 in
      both_content (λ c. (c.kind ≡ of) × ReadsRows h es c.table) (λ c. (c.kind ≡ to) × ReadsRows h fs c.table) (h.object m) a.1 shows
      (λ c x y. let rest = same_rows h es fs c.table x.1 y.1 in let kinds : of ≡ to = sym x.0 ∙ y.0 in λ i. object (q i) (kinds i) (rest i))

  pub same_rows : (h : Heap) (es fs : Finals) (t : Rows) → ReadsRows h es t → ReadsRows h fs t → es ≡ fs
  same_rows h none none t a b = refl
  same_rows h none (entry k f fs) [] a b = absurd b
  same_rows h none (entry k f fs) (e ∷ t) a b = absurd a
  same_rows h (entry k f es) none [] a b = absurd a
  same_rows h (entry k f es) none (e ∷ t) a b = absurd b
  same_rows h (entry j f es) (entry k g fs) [] a b = absurd a
  same_rows h (entry j f es) (entry k g fs) (e ∷ t) a b =
      let keys : j ≡ k = sym a.0 ∙ b.0 in
      let first = same_reading h f g e.1 a.1 b.1 in
      let rest = same_rows h es fs t a.2 b.2 in
      λ i. entry (keys i) (first i) (rest i)

pub same_object : (h : Heap) (n : ℕ) (of to : Kind) (es fs : Finals) → Shows h n of es → Shows h n to fs → object n of es ≡ object n to fs
same_object h n of to es fs a b =
    both_content (λ c. (c.kind ≡ of) × ReadsRows h es c.table) (λ c. (c.kind ≡ to) × ReadsRows h fs c.table) (h.object n) a b
    (λ c x y. let rest = same_rows h es fs c.table x.1 y.1 in let kinds : of ≡ to = sym x.0 ∙ y.0 in λ i. object n (kinds i) (rest i))
