-- The numbering gives one object one state.
use Rattle.std.proofs.Common.{◌≡◌, ℕ, List, [], ◌∷◌, refl, ap, sym, ◌∙◌, subst, cond, Option, Some, None, Less, Equal, Greater, Ordering, ◌⊎◌, inl, inr, ◌≤◌, arith}
use Rattle.std.specs.FinMap.Entries.{find}
use Rattle.std.specs.Ordering.{nat_cmp, is_eq}
use Rattle.std.proofs.lemmas.Map.Lookups.{exact_unsigned}
use Rattle.std.proofs.lemmas.Cmp.{tied_itself, nat_cmp_total}
use Rattle.value_model.specs.declared.kind.Kind.{Kind}
use Rattle.numbered.specs.Tree as tree
use Rattle.numbered.specs.Tree.{Tree, Branches, branches_of}
use Rattle.run_heap.specs.declared.value.Rv.{Rv}
use Rattle.run_heap.specs.declared.content.Content.{Content}
use Rattle.run_heap.specs.Heap.{Heap}
use Rattle.run_heap.specs.Operations.{Rows}
use Rattle.result_trees.specs.Final.{Final, Finals, prim, frozen, object, none, entry, read_value}
use Rattle.result_trees.specs.Written.{is_written, kept}
use Rattle.new_numbers.specs.Numbering.{Given, nothing, add, renumbered, numbered_object, numbered, numbered_in}
use Rattle.new_numbers.specs.Shared.{state_of, Agrees, AgreesIn}
use Rattle.result_trees.proofs.Readings.{IfContent, Reads, ReadsRows, Shows, reads, same_object}
use Rattle.result_trees.proofs.BackLaws.{height, tallest}

-- what was noted stays
abbrev Stays : Given → Given → Type 0
Stays g f = (n : ℕ) (t : Tree) → find nat_cmp n g.done ≡ Some t → find nat_cmp n f.done ≡ Some t

state_stays : (h : Heap) (g f : Given) (n : ℕ) (o : Option ℕ) (t : Tree) → Stays g f → state_of h g n o ≡ Some t → state_of h f n o ≡ Some t
state_stays h g f n None t s e = s n t e
state_stays h g f n (Some id) t s e = e

mutual
  stays : (v : Final) (h : Heap) (g f : Given) (t : Tree) → Stays g f → Agrees h g v t → Agrees h f v t
  stays (prim k) h g f t s a = a
  stays (frozen u) h g f t s a = a
  stays (object n of es) h g f t s a = (state_stays h g f n (kept h n (is_written h (object n of es))) t s a.0, λ q. stays_in es h g f (branches_of t) s (a.1 q))

  stays_in : (es : Finals) (h : Heap) (g f : Given) (ts : Branches) → Stays g f → AgreesIn h g es ts → AgreesIn h f es ts
  stays_in none h g f tree.none s a = tt
  stays_in none h g f (tree.branch j t ts) s a = absurd a
  stays_in (entry k v es) h g f tree.none s a = absurd a
  stays_in (entry k v es) h g f (tree.branch j t ts) s a = (a.0, stays v h g f t s a.1, stays_in es h g f ts s a.2)

-- what was noted for an object agrees with what stands in it
abbrev AllAgree : Heap → Given → Type 0
AllAgree h g = (n : ℕ) (of : Kind) (es : Finals) (t : Tree) → Shows h n of es → find nat_cmp n g.done ≡ Some t → AgreesIn h g es (branches_of t)

record IsAgreed (h : Heap) (v : Final) (g : Given) (a : Tree × Given) : Type 0 where
  agrees : Agrees h a.1 v a.0
  kept : Stays g a.1
  all : AllAgree h a.1

record AreAgreed (h : Heap) (es : Finals) (g : Given) (a : Branches × Given) : Type 0 where
  agrees : AgreesIn h a.1 es a.0
  kept : Stays g a.1
  all : AllAgree h a.1

-- ---- one more that is noted
here_noted : (n : ℕ) (t : Tree) (ds : List (ℕ × Tree)) → find nat_cmp n ((n, t) ∷ ds) ≡ Some t
here_noted n t ds = ap (λ (o : Ordering). cond (is_eq o) (Some t) (find nat_cmp n ds)) (tied_itself nat_cmp_total n)

still_noted : (m n : ℕ) (t u : Tree) (ds : List (ℕ × Tree)) (c : Ordering) → nat_cmp m n ≡ c → (m ≡ n → ⊥) → find nat_cmp m ds ≡ Some u → find nat_cmp m ((n, t) ∷ ds) ≡ Some u
still_noted m n t u ds Less p other e = ap (λ (o : Ordering). cond (is_eq o) (Some t) (find nat_cmp m ds)) p ∙ e
still_noted m n t u ds Greater p other e = ap (λ (o : Ordering). cond (is_eq o) (Some t) (find nat_cmp m ds)) p ∙ e
still_noted m n t u ds Equal p other e = absurd (other (exact_unsigned m n p))

not_here : (m n : ℕ) (u : Tree) (ds : List (ℕ × Tree)) → find nat_cmp n ds ≡ None → find nat_cmp m ds ≡ Some u → m ≡ n → ⊥
not_here m n u ds a b e = let q : None ≡ Some u = sym a ∙ ap (λ (i : ℕ). find nat_cmp i ds) (sym e) ∙ b in absurd (cc)

module _ (ts : List Tree) (h : Heap) where
  -- `g` before the object, `a` after what stands in it
  added_agrees : (n : ℕ) (of : Kind) (es : Finals) (g : Given) (a : Branches × Given) → kept h n (is_written h (object n of es)) ≡ None → Shows h n of es → find nat_cmp n g.done ≡ None
      → AreAgreed h es g a → ((m : ℕ) (u : Tree) → find nat_cmp m a.1.done ≡ Some u → find nat_cmp m (add ts n of a).1.done ≡ Some u) → IsAgreed h (object n of es) g (add ts n of a)
  added_agrees n of es g a none_kept shows new i later =
      let r = add ts n of a in
      let inside = stays_in es h a.1 r.1 a.0 later i.agrees in
      let noted : find nat_cmp n r.1.done ≡ Some r.0 = here_noted n r.0 a.1.done in
      record {
        agrees = (ap (state_of h r.1 n) none_kept ∙ noted, λ q. inside);
        kept = λ m u e. later m u (i.kept m u e);
        all = λ m to fs u b e. noted_agrees m to fs u b (nat_cmp m n) refl e;
      }
    where
      noted_agrees : (m : ℕ) (to : Kind) (fs : Finals) (u : Tree) → Shows h m to fs → (c : Ordering) → nat_cmp m n ≡ c → cond (is_eq (nat_cmp m n)) (Some (add ts n of a).0) (find nat_cmp m a.1.done) ≡ Some u
          → AgreesIn h (add ts n of a).1 fs (branches_of u)
      noted_agrees m to fs u b Less p e =
          let q : find nat_cmp m a.1.done ≡ Some u = sym (ap (λ (o : Ordering). cond (is_eq o) (Some (add ts n of a).0) (find nat_cmp m a.1.done)) p) ∙ e in
          stays_in fs h a.1 (add ts n of a).1 (branches_of u) later (i.all m to fs u b q)
      noted_agrees m to fs u b Greater p e =
          let q : find nat_cmp m a.1.done ≡ Some u = sym (ap (λ (o : Ordering). cond (is_eq o) (Some (add ts n of a).0) (find nat_cmp m a.1.done)) p) ∙ e in
          stays_in fs h a.1 (add ts n of a).1 (branches_of u) later (i.all m to fs u b q)
      noted_agrees m to fs u b Equal p e =
          let x : Some (add ts n of a).0 ≡ Some u = sym (ap (λ (o : Ordering). cond (is_eq o) (Some (add ts n of a).0) (find nat_cmp m a.1.done)) p) ∙ e in
          let t : (add ts n of a).0 ≡ u = cc in
          let same : object n to fs ≡ object n of es = same_object h n to of fs es (subst (λ (k : ℕ). Shows h k to fs) (exact_unsigned m n p) b) shows in
          let entries : fs ≡ es = cc in
          subst (λ (y : Tree). AgreesIn h (add ts n of a).1 fs (branches_of y)) t (subst (λ (y : Finals). AgreesIn h (add ts n of a).1 y (branches_of (add ts n of a).0)) (sym entries) (stays_in es h a.1 (add ts n of a).1 a.0 later i.agrees))

-- ---- an object does not stand in itself
abbrev mutual
  HasName : ℕ → Final → Type 0
  HasName m (prim k) = ⊥
  HasName m (frozen t) = ⊥
  HasName m (object n of es) = (m ≡ n) ⊎ HasNameIn m es

  HasNameIn : ℕ → Finals → Type 0
  HasNameIn m none = ⊥
  HasNameIn m (entry k v es) = HasName m v ⊎ HasNameIn m es

rows_in : (h : Heap) (of : Kind) (es : Finals) (o : Option Content) → IfContent o (λ c. (c.kind ≡ of) × ReadsRows h es c.table) → (t : Rows) × ReadsRows h es t
rows_in h of es None a = absurd a
rows_in h of es (Some c) a = (c.table, a.1)

mutual
  name_height : (v : Final) (h : Heap) (w : Rv) (n : ℕ) (of : Kind) (es : Finals) → Reads h v w → Shows h n of es → HasName n v → height (object n of es) ≤ height v
  name_height (prim k) h w n of es r s x = absurd x
  name_height (frozen t) h w n of es r s x = absurd x
  name_height (object m to fs) h w n of es r s (inl e) =
      let same = same_object h n of to es fs s (subst (λ (i : ℕ). Shows h i to fs) (sym e) r.1) in
      let heights : height (object n of es) ≡ height (object n to fs) = ap height same in
      omega (arith, heights)
  name_height (object m to fs) h w n of es r s (inr x) =
      let rows = rows_in h to fs (h.object m) r.1 in
      let low = name_height_in fs h rows.0 n of es rows.1 s x in
      omega (arith, low)

  name_height_in : (fs : Finals) (h : Heap) (t : Rows) (n : ℕ) (of : Kind) (es : Finals) → ReadsRows h fs t → Shows h n of es → HasNameIn n fs → height (object n of es) ≤ tallest fs
  name_height_in none h t n of es r s x = absurd x
  name_height_in (entry k v fs) h [] n of es r s x = absurd r
  name_height_in (entry k v fs) h (e ∷ t) n of es r s (inl x) = let low = name_height v h e.1 n of es r.1 s x in omega (arith, low)
  name_height_in (entry k v fs) h (e ∷ t) n of es r s (inr x) = let low = name_height_in fs h t n of es r.2 s x in omega (arith, low)

not_inside : (h : Heap) (n : ℕ) (of : Kind) (es : Finals) → Shows h n of es → HasNameIn n es → ⊥
not_inside h n of es s x =
    let rows = rows_in h of es (h.object n) s in
    let low = name_height_in es h rows.0 n of es rows.1 s x in
    absurd (omega (arith, low))

none_noted : (m n : ℕ) (t : Tree) (ds : List (ℕ × Tree)) (c : Ordering) → nat_cmp m n ≡ c → (m ≡ n → ⊥) → find nat_cmp m ds ≡ None → find nat_cmp m ((n, t) ∷ ds) ≡ None
none_noted m n t ds Less p other e = ap (λ (o : Ordering). cond (is_eq o) (Some t) (find nat_cmp m ds)) p ∙ e
none_noted m n t ds Greater p other e = ap (λ (o : Ordering). cond (is_eq o) (Some t) (find nat_cmp m ds)) p ∙ e
none_noted m n t ds Equal p other e = absurd (other (exact_unsigned m n p))

module _ (ts : List Tree) (h : Heap) where
  object_unnoted : (m n : ℕ) (of : Kind) (es : Finals) (g : Given) (o : Option ℕ) → find nat_cmp m g.done ≡ None → (m ≡ n → ⊥) → find nat_cmp m (numbered_in ts h es g).1.done ≡ None → find nat_cmp m (numbered_object ts h n of (numbered_in ts h es) g o).1.done ≡ None
  object_unnoted m n of es g (Some id) e other inside = e
  object_unnoted m n of es g None e other inside = by (find nat_cmp n g.done)
    where
      by : (o : Option Tree) → find nat_cmp m (renumbered ts n of (numbered_in ts h es) g o).1.done ≡ None
      by (Some t) = e
      by None = none_noted m n (add ts n of (numbered_in ts h es g)).0 (numbered_in ts h es g).1.done (nat_cmp m n) refl other inside

  mutual
    unnoted : (v : Final) (g : Given) (m : ℕ) → find nat_cmp m g.done ≡ None → (HasName m v → ⊥) → find nat_cmp m (numbered ts h v g).1.done ≡ None
    unnoted (prim k) g m e x = e
    unnoted (frozen t) g m e x = e
    unnoted (object n of es) g m e x = object_unnoted m n of es g (kept h n (is_written h (object n of es))) e (λ q. x (inl q)) (unnoted_in es g m e (λ q. x (inr q)))

    unnoted_in : (es : Finals) (g : Given) (m : ℕ) → find nat_cmp m g.done ≡ None → (HasNameIn m es → ⊥) → find nat_cmp m (numbered_in ts h es g).1.done ≡ None
    unnoted_in none g m e x = e
    unnoted_in (entry k v es) g m e x = unnoted_in es (numbered ts h v g).1 m (unnoted v g m e (λ q. x (inl q))) (λ q. x (inr q))

  -- ---- the whole
  object_agrees : (n : ℕ) (of : Kind) (es : Finals) (g : Given) (o : Option ℕ) → kept h n (is_written h (object n of es)) ≡ o → AllAgree h g → Shows h n of es → AreAgreed h es g (numbered_in ts h es g)
      → IsAgreed h (object n of es) g (numbered_object ts h n of (numbered_in ts h es) g o)
  object_agrees n of es g (Some id) p all shows i = record {
    agrees = (ap (state_of h g n) p, λ q. absurd (let x : Some id ≡ None = sym p ∙ q in cc));
    kept = λ m t e. e;
    all = all;
  }
  object_agrees n of es g None p all shows i = by (find nat_cmp n g.done) refl
    where
      by : (o : Option Tree) → find nat_cmp n g.done ≡ o → IsAgreed h (object n of es) g (renumbered ts n of (numbered_in ts h es) g o)
      by (Some t) q = record { agrees = (ap (state_of h g n) p ∙ q, λ x. all n of es t shows q); kept = λ m u e. e; all = all }
      by None q =
          let a = numbered_in ts h es g in
          let fresh = unnoted_in es g n q (not_inside h n of es shows) in
          added_agrees ts h n of es g a p shows q i
          (λ m u e. still_noted m n (add ts n of a).0 u a.1.done (nat_cmp m n) refl (not_here m n u a.1.done fresh e) e)

  mutual
    agreed : (v : Final) (w : Rv) (g : Given) → AllAgree h g → Reads h v w → IsAgreed h v g (numbered ts h v g)
    agreed (prim k) w g all r = record { agrees = refl; kept = λ m u e. e; all = all }
    agreed (frozen t) w g all r = record { agrees = refl; kept = λ m u e. e; all = all }
    agreed (object n of es) w g all r =
        let rows = rows_in h of es (h.object n) r.1 in
        object_agrees n of es g (kept h n (is_written h (object n of es))) refl all r.1 (agreed_in es rows.0 g all rows.1)

    agreed_in : (es : Finals) (t : Rows) (g : Given) → AllAgree h g → ReadsRows h es t → AreAgreed h es g (numbered_in ts h es g)
    agreed_in none t g all r = record { agrees = tt; kept = λ m u e. e; all = all }
    agreed_in (entry k v es) [] g all r = absurd r
    agreed_in (entry k v es) (e ∷ t) g all r =
        let a = numbered ts h v g in
        let first = agreed v e.1 g all r.1 in
        let rest = agreed_in es t a.1 first.all r.2 in
        let b = numbered_in ts h es a.1 in
        record {
          agrees = (refl, stays v h a.1 b.1 a.0 rest.kept first.agrees, rest.agrees);
          kept = λ m u x. rest.kept m u (first.kept m u x);
          all = rest.all;
        }

pub one_state : (ts : List Tree) (h : Heap) (levels : ℕ) (w : Rv) (f : Final) → read_value levels h w ≡ Some f → Agrees h (numbered ts h f nothing).1 f (numbered ts h f nothing).0
one_state ts h levels w f e = (agreed ts h f w nothing (λ n of es t s q. absurd (let x : None ≡ Some t = q in cc)) (reads levels h w f e)).agrees
