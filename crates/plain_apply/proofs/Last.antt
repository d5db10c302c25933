-- The last patch that replaces the root, and what applying is by it: laws.
use Rattle.std.specs.Prelude.{◌≡◌, ℕ, ◌+◌, ◌<◌, List, [], ◌∷◌, length, Bool, true, false, Option, Some, None, refl}
use Rattle.std.proofs.Common.{suc, ap, sym, ◌∙◌, arith, drop, get_or, cond, ◌⊎◌, inl, inr}
use Rattle.std.proofs.lemmas.Bool.{or_from, or_right}
use Rattle.patch_meaning.specs.Applying.{applied, applied_at, applied_from, from_root, has_root_replace, is_root_replace}
use Rattle.value_model.specs.Plain.{Plain}
use Rattle.values.specs.declared.patch.Patch.{Patch}
use Rattle.plain_apply.specs.Last.{later, last_from, IsLast}

pub later_later : (a b c : Option ℕ) → later (later a b) c ≡ later a (later b c)
later_later (Some j) b c = refl
later_later None b c = refl

-- ---- what applying is where none is there, or the last one is known
neither : (a : Option ℕ) (b : Bool) (i : ℕ) → later a (cond b (Some i) None) ≡ None → record { first : a ≡ None; second : b ≡ false }
neither (Some j) b i h = absurd (cc)
neither None true i h = absurd (cc)
neither None false i h = record { first = refl; second = refl }

no_root : (i : ℕ) (ps : List Patch) → last_from i ps ≡ None → has_root_replace ps ≡ false
no_root i [] h = refl
no_root i (p ∷ ps) h =
    let parts = neither (last_from (i + 1) ps) (is_root_replace p) i h in
    or_from (is_root_replace p) (has_root_replace ps) parts.second (no_root (i + 1) ps parts.first)

none_at : (i : ℕ) (ps : List Patch) (x : Plain) → last_from i ps ≡ None → applied_at i ps x ≡ applied_from i ps x
none_at i [] x h = refl
none_at i (p ∷ ps) x h =
    let parts = neither (last_from (i + 1) ps) (is_root_replace p) i h in
    rw (no_root (i + 1) ps parts.first, parts.second)

pub none_applied : (ps : List Patch) (x : Plain) → None ≡ last_from 0 ps → applied ps x ≡ applied_from 0 ps x
none_applied ps x h = none_at 0 ps x (sym h)

either : (a : Option ℕ) (b : Bool) (i j : ℕ) → later a (cond b (Some i) None) ≡ Some j → (a ≡ Some j) ⊎ record { first : a ≡ None; second : b ≡ true; here : i ≡ j }
either (Some k) b i j h = inl h
either None true i j h = inr (record { first = refl; second = refl; here = cc })
either None false i j h = absurd (cc)

a_root : (i : ℕ) (ps : List Patch) (j : ℕ) → last_from i ps ≡ Some j → has_root_replace ps ≡ true
a_root i [] j h = absurd (cc)
a_root i (p ∷ ps) j h =
    elim (either (last_from (i + 1) ps) (is_root_replace p) i j h) [
      | inl found ↦ or_right (is_root_replace p) (has_root_replace ps) (a_root (i + 1) ps j found)
      | inr here ↦ rw here.second
    ]

some_at : (i : ℕ) (ps : List Patch) (x : Plain) (j : ℕ) (d : Patch) → last_from i ps ≡ Some j → IsLast i ps x j d
some_at i [] x j d h = absurd (cc)
some_at i (p ∷ ps) x j d h =
    elim (either (last_from (i + 1) ps) (is_root_replace p) i j h) [
      | inl found ↦
          let rest = some_at (i + 1) ps x j d found in
          (suc rest.0, omega arith, omega arith, rw (a_root (i + 1) ps j found) rest.3)
      | inr here ↦ (0, omega arith, omega arith, rw (no_root (i + 1) ps here.first, here.second, here.here))
    ]

pub some_applied : (ps : List Patch) (x : Plain) (j : ℕ) (d : Patch) → Some j ≡ last_from 0 ps
    → record { within : j < length ps; is : applied ps x ≡ from_root j (get_or ps j d).value (applied_from (j + 1) (drop (j + 1) ps)) }
some_applied ps x j d h =
    let last = some_at 0 ps x j d (sym h) in
    let same : j ≡ last.0 = omega arith in
    let one : suc j ≡ j + 1 = omega arith in
    record {
      within = omega arith;
      is = last.3 ∙ (λ i. from_root j (get_or ps (sym same i) d).value (applied_from (j + 1) (drop (suc (sym same i)) ps))) ∙ ap (λ n. from_root j (get_or ps j d).value (applied_from (j + 1) (drop n ps))) one;
    }
