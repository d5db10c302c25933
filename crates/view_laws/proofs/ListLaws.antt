-- Patches in place, one after another: every entry that they don't touch stays.
use Rattle.std.specs.Prelude.{◌≡◌, ◌≢◌, ℕ, ◌+◌, Bool, true, false, ◌||◌, List, [], ◌∷◌, Some, None, Result, Ok, Err, IsTrue, refl}
use Rattle.std.proofs.Common.{ap, sym, subst, ◌∙◌, Less, Equal, Greater}
use Rattle.std.specs.declared.cmp.Ordering.{Ordering}
use Rattle.std.specs.Ordering.{eq_by_cmp}
use Rattle.std.proofs.lemmas.Bool.{or_from}
use Rattle.value_model.specs.declared.key.Key.{Key}
use Rattle.value_model.specs.declared.op.Op.{Op}
use Rattle.value_model.specs.declared.op.Op.TheVariants.{Add, Replace, Remove}
use Rattle.value_model.specs.declared.patch_why.PatchWhy.{PatchWhy}
use Rattle.value_model.specs.Order.{key_cmp, key_exact}
use Rattle.value_model.specs.Places.{at}
use Rattle.value_model.specs.Plain.{Plain}
use Rattle.value_model.specs.Search.{left_true, right_true}
use Rattle.view_laws.proofs.EditLaws.{other_key}
use Rattle.values.specs.declared.patch.Patch.{Patch}
use Rattle.patch_meaning.specs.Applying.{fault_at, patched, applied, applied_from, is_root, has_root_replace, is_root_replace}
use Rattle.guards_views_spec.specs.Views.{Reach, above, inside, aside, reach, with_key, with_reach, touched_from, touched}
use Rattle.view_laws.specs.InPlace.{in_place, if_ok, are_in_place}
use Rattle.view_laws.specs.Standing.{entry_at}
use Rattle.view_laws.proofs.KeptLaws.{Kept, Misses, NotAbove, AscendsAt, kept}
use Rattle.view_laws.proofs.WeightLaws.{has_key}

-- ---- the keys so far are among the keys at the end
left_false : (a b : Bool) → (a || b) ≡ false → a ≡ false
left_false true b h = h
left_false false b h = refl

right_false : (a b : Bool) → (a || b) ≡ false → b ≡ false
right_false true b h = absurd (cc)
right_false false b h = h

record Without (k j : Key) (ks : List Key) : Type 0 where
  other : k ≢ j
  rest : has_key k ks ≡ false

-- by where the new key goes
not_with : (k j i : Key) (ks : List Key) (o : Ordering) → key_cmp j i ≡ o → (has_key k (with_key j ks) ≡ false → Without k j ks) → has_key k (with_key j (i ∷ ks)) ≡ false → Without k j (i ∷ ks)
not_with k j i ks Less e more h =
    let g : has_key k (j ∷ i ∷ ks) ≡ false = (sym (rw e refl)) ∙ h in
    record { other = other_key k j (left_false _ _ g); rest = right_false _ _ g }
not_with k j i ks Equal e more h =
    let g : has_key k (i ∷ ks) ≡ false = (sym (rw e refl)) ∙ h in
    record { other = subst (λ (q : Key). k ≢ q) (sym (key_exact j i e)) (other_key k i (left_false _ _ g)); rest = g }
not_with k j i ks Greater e more h =
    let g : has_key k (i ∷ with_key j ks) ≡ false = (sym (rw e refl)) ∙ h in
    let m = more (right_false _ _ g) in
    record { other = m.other; rest = or_from (eq_by_cmp key_cmp k i) (has_key k ks) (left_false _ _ g) m.rest }

without : (k j : Key) (ks : List Key) → has_key k (with_key j ks) ≡ false → Without k j ks
without k j [] h = record { other = other_key k j (left_false _ _ h); rest = refl }
without k j (i ∷ ks) h = not_with k j i ks (key_cmp j i) refl (without k j ks) h

-- ---- patches one after another, with the values between
abbrev pub Leads : List Patch → Plain → Plain → Type 0
Leads [] x y = x ≡ y
Leads (p ∷ ps) x y = (z : Plain) × (patched p.op p.value p.path x ≡ Ok z) × Leads ps z y

abbrev pub All : List Patch → Plain → Plain → Type 0
All ps x y = IsTrue (are_in_place ps x) × Leads ps x y

-- what patches that touch these keys leave, where those before them touched the ones so far
pub record Left (path : List Key) (sofar keys : List Key) (x y : Plain) : Type 0 where
  pub among : (k : Key) → has_key k keys ≡ false → has_key k sofar ≡ false
  pub others : (k : Key) → has_key k keys ≡ false → entry_at k (at path y) ≡ entry_at k (at path x)
  pub ascends : AscendsAt (at path x) → AscendsAt (at path y)

none_left : (path keys : List Key) (x y : Plain) → x ≡ y → Left path keys keys x y
none_left path keys x y e = record {
  among = λ k n. n;
  others = λ k n. ap (λ (v : Plain). entry_at k (at path v)) (sym e);
  ascends = λ h. subst (λ (v : Plain). AscendsAt (at path v)) e h;
}

-- one patch before others
next : (path sofar more keys : List Key) (r : Reach) (x z y : Plain) → Kept r (at path x) (at path z) → ((k : Key) → has_key k more ≡ false → (has_key k sofar ≡ false) × Misses k r) → Left path more keys z y → Left path sofar keys x y
next path sofar more keys r x z y first misses rest = record {
  among = λ k n. (misses k (rest.among k n)).0;
  others = λ k n. rest.others k n ∙ first.others k (misses k (rest.among k n)).1;
  ascends = λ h. rest.ascends (first.ascends h);
}

abbrev Rest : List Key → List Patch → Type 0
Rest path ps = (sofar keys : List Key) (x y : Plain) → touched_from path sofar ps ≡ Some keys → IsTrue (are_in_place ps x) → Leads ps x y → Left path sofar keys x y

-- by where the patch leads
by_reach : (path sofar keys : List Key) (p : Patch) (ps : List Patch) (r : Reach) (x z y : Plain) → Rest path ps
    → (NotAbove r → Kept r (at path x) (at path z)) → elim (with_reach r sofar) [ None ↦ None | Some more ↦ touched_from path more ps ] ≡ Some keys → IsTrue (are_in_place ps z) → Leads ps z y → Left path sofar keys x y
by_reach path sofar keys p ps above x z y rest first h t l = absurd (cc)
by_reach path sofar keys p ps (inside j) x z y rest first h t l =
    next path sofar (with_key j sofar) keys (inside j) x z y (first tt) (λ k n. let m = without k j sofar n in (m.rest, m.other)) (rest (with_key j sofar) keys z y h t l)
by_reach path sofar keys p ps aside x z y rest first h t l =
    next path sofar sofar keys aside x z y (first tt) (λ k n. (n, tt)) (rest sofar keys z y h t l)

pub left : (path : List Key) (ps : List Patch) → Rest path ps
left path [] sofar keys x y h t l =
    let same : sofar ≡ keys = cc in
    subst (λ (ks : List Key). Left path sofar ks x y) same (none_left path sofar x y l)
left path (p ∷ ps) sofar keys x y h t l =
    let here : in_place p.op p.value p.path x ≡ true = left_true _ _ t in
    let later : if_ok (are_in_place ps) (patched p.op p.value p.path x) ≡ true = right_true _ _ t in
    let after : are_in_place ps l.0 ≡ true = subst (λ r. if_ok (are_in_place ps) r ≡ true) l.1 later in
    by_reach path sofar keys p ps (reach path p.path) x l.0 y (left path ps) (λ n. kept p.op p.value path p.path x l.0 n here l.1) h after l.2

-- ---- patches that touch single keys alone replace no root, so they are applied one after another
chain_at : (i : ℕ) (p : Patch) (ps : List Patch) (x y : Plain) (r : Result Plain PatchWhy) → patched p.op p.value p.path x ≡ r → fault_at i r (applied_from (i + 1) ps) ≡ Ok y → ((z : Plain) → applied_from (i + 1) ps z ≡ Ok y → Leads ps z y) → Leads (p ∷ ps) x y
chain_at i p ps x y (Ok z) e h more = (z, e, more z h)
chain_at i p ps x y (Err w) e h more = absurd (cc)

chain : (i : ℕ) (ps : List Patch) (x y : Plain) → applied_from i ps x ≡ Ok y → Leads ps x y
chain i [] x y h = cc
chain i (p ∷ ps) x y h = chain_at i p ps x y (patched p.op p.value p.path x) refl h (λ z g. chain (i + 1) ps z y g)

no_root_at : (op : Op) (path q sofar : List Key) (ps : List Patch) (keys : List Key) → elim (with_reach (reach path q) sofar) [ None ↦ None | Some more ↦ touched_from path more ps ] ≡ Some keys → is_root op q ≡ false
no_root_at op path [] sofar ps keys h = absurd (cc)
no_root_at Add path (j ∷ q) sofar ps keys h = refl
no_root_at Replace path (j ∷ q) sofar ps keys h = refl
no_root_at Remove path (j ∷ q) sofar ps keys h = refl

rest_touched : (path sofar : List Key) (r : Reach) (ps : List Patch) (keys : List Key) → elim (with_reach r sofar) [ None ↦ None | Some more ↦ touched_from path more ps ] ≡ Some keys → (more : List Key) × (touched_from path more ps ≡ Some keys)
rest_touched path sofar above ps keys h = absurd (cc)
rest_touched path sofar (inside j) ps keys h = (with_key j sofar, h)
rest_touched path sofar aside ps keys h = (sofar, h)

no_root : (path sofar : List Key) (ps : List Patch) (keys : List Key) → touched_from path sofar ps ≡ Some keys → has_root_replace ps ≡ false
no_root path sofar [] keys h = refl
no_root path sofar (p ∷ ps) keys h =
    let more = rest_touched path sofar (reach path p.path) ps keys h in
    or_from (is_root_replace p) (has_root_replace ps) (no_root_at p.op path p.path sofar ps keys h) (no_root path more.0 ps keys more.1)

pub applied_leads : (path : List Key) (ps : List Patch) (keys : List Key) (x y : Plain) → touched path ps ≡ Some keys → applied ps x ≡ Ok y → Leads ps x y
applied_leads path [] keys x y h a = cc
applied_leads path (p ∷ ps) keys x y h a =
    let here : is_root_replace p ≡ false = no_root_at p.op path p.path [] ps keys h in
    let more = rest_touched path [] (reach path p.path) ps keys h in
    let rest : has_root_replace ps ≡ false = no_root path more.0 ps keys more.1 in
    chain 0 (p ∷ ps) x y (sym (rw (rest, here) refl) ∙ a)
