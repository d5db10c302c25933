-- Objects that were opened on a state stay so until they are written, whatever else is done.
use Rattle.std.proofs.Common.{◌≡◌, ℕ, zero, suc, ◌+◌, ◌-◌, List, [], ◌∷◌, refl, ap, sym, ◌∙◌, subst, arith, Bool, true, false, not, Option, Some, None}
use Rattle.std.specs.Prelude.{nat_lt, ◌==◌, ◌||◌, if◌then◌else◌, slice_get}
use Rattle.std.proofs.lemmas.Bool.{not-false}
use Rattle.numbered.specs.Store.{tree_at}
use Rattle.numbered.specs.Tree.{Tree, place}
use Rattle.run_heap.specs.declared.content.Content.{Content}
use Rattle.run_heap.specs.Heap.{Heap, copied, opened, rewritten, update, with_objects}
use Rattle.run_heap.specs.Laws.{left_false, right_false}
use Rattle.run_heap.proofs.Laws.{no_place, same_tables_exact}
use Rattle.run_heap.specs.Operations.{Rows, source_in}
use Rattle.run_heap.specs.Sound.{IsSound, IsOpenedAs}
use Rattle.run_heap.specs.Values.{same_tables}
use Rattle.result_trees.specs.Written.{AreOpenedOn, CopiesStand, AllWithoutSource}

-- ---- at the beginning there are drafts alone
pub opened_copies : (scope : ℕ) (ts : List Tree) (root : ℕ) → CopiesStand (opened scope ts root)
opened_copies scope ts root n id l e = absurd (let q : None ≡ Some id = sym (ap (λ (o : Option Tree). source_in (copied scope n o)) (no_place n (tree_at ts root) l)) ∙ e in cc)

-- ---- a write
kept_mark : (t : Rows) (c : Content) (b : Option Content) → IsOpenedAs (Some c) b → IsOpenedAs (Some (rewritten t c)) b
kept_mark t c None h = h
kept_mark t c (Some b) h = (
  h.0,
  h.1,
  λ w.
      let old : c.written ≡ false = left_false _ _ w in
      let e : c.table ≡ t = same_tables_exact c.table t (not-false _ (right_false _ _ w)) in
      let same_mark : (c.written || not (same_tables c.table t)) ≡ c.written = w ∙ sym old in
      let back : rewritten t c ≡ c = λ i. record { kind = c.kind; table = sym e i; source = c.source; written = same_mark i } in
      back ∙ h.2 old,
)

-- what holds of the old content at a name and then of the rewritten one holds of the new heap's
at_names : (P : Option Content → Option Content → Type 0) (h : Heap) (n m : ℕ) (t : Rows) (c : Content) → h.object n ≡ Some c → P (Some c) (Some (rewritten t c)) → P (h.object m) (h.object m) → P (h.object m) (if m == n then Some (rewritten t c) else h.object m)
at_names P h n m t c o a b = elim (m == n) as (λ (x : Bool). (m == n) ≡ x → P (h.object m) (if x then Some (rewritten t c) else h.object m)) [
  | true ↦ λ p.
      let same : m ≡ n = grind (arith, p) in
      let old : h.object m ≡ Some c = ap h.object same ∙ o in
      subst (λ (y : Option Content). P y (Some (rewritten t c))) (sym old) a
  | false ↦ λ p. b
] refl

pub written_copies : (h : Heap) (n : ℕ) (t : Rows) (c : Content) → CopiesStand h → h.object n ≡ Some c → CopiesStand (update n (rewritten t c) h)
written_copies h n t c copies o m id l e =
    let before : source_in (h.object m) ≡ Some id = at_names (λ (x y : Option Content). source_in y ≡ Some id → source_in x ≡ Some id) h n m t c o (λ q. q) (λ q. q) e in
    λ q below. at_names (λ (x y : Option Content). IsOpenedAs x (copied h.scope (m + q) (place q (tree_at h.states id))) → IsOpenedAs y (copied h.scope (m + q) (place q (tree_at h.states id)))) h n (m + q) t c o
    (λ a. kept_mark t c (copied h.scope (m + q) (place q (tree_at h.states id))) a) (λ a. a) (copies m id l before q below)

-- ---- new objects
there : (c b : Option Content) → IsOpenedAs c b → c ≡ None → ⊥
there None b o e = o
there (Some c) b o e = absurd (cc)

-- an object that was there is there in the longer heap
pub still_opened : (h : Heap) (cs : List Content) (n : ℕ) (b : Option Content) → IsSound h → IsOpenedAs (h.object n) b → IsOpenedAs ((with_objects cs h).object n) b
still_opened h cs n b s o = elim (nat_lt n h.next) as (λ (x : Bool). nat_lt n h.next ≡ x → IsOpenedAs (if x then h.object n else slice_get cs (n - h.next)) b) [
  | true ↦ λ p. o
  | false ↦ λ p. absurd (there (h.object n) b o (s.fresh n (grind (arith, p))))
] refl

no_source : (cs : List Content) (i id : ℕ) → AllWithoutSource cs → source_in (slice_get cs i) ≡ Some id → ⊥
no_source [] i id a e = absurd (cc)
no_source (c ∷ cs) zero id a e = absurd (let q : None ≡ Some id = sym a.0 ∙ e in cc)
no_source (c ∷ cs) (suc i) id a e = no_source cs i id a.1 e

pub literal_copies : (h : Heap) (cs : List Content) → IsSound h → CopiesStand h → AllWithoutSource cs → CopiesStand (with_objects cs h)
literal_copies h cs s copies a n id l e = elim (nat_lt n h.next) as (λ (x : Bool). nat_lt n h.next ≡ x → source_in (if x then h.object n else slice_get cs (n - h.next)) ≡ Some id → AreOpenedOn (with_objects cs h) n (tree_at h.states id)) [
  | true ↦ λ p q. λ m below. still_opened h cs (n + m) (copied h.scope (n + m) (place m (tree_at h.states id))) s (copies n id l q m below)
  | false ↦ λ p q. absurd (no_source cs (n - h.next) id a q)
] refl e
