-- A view that is brought up to date adds up to at most what it did and what was set.
use Rattle.std.specs.Prelude.{◌≡◌, ℕ, ◌+◌, ◌≤◌, List, [], ◌∷◌, ◌++◌, Bool, true, false, not, Option, Some, None, refl}
use Rattle.std.proofs.Common.{arith, cond, Less, Equal, Greater}
use Rattle.std.specs.declared.cmp.Ordering.{Ordering}
use Rattle.std.specs.Ordering.{eq_by_cmp}
use Rattle.std.specs.FinMap.Entries.{put, where_key, by_order}
use Rattle.value_model.specs.declared.key.Key.{Key}
use Rattle.value_model.specs.Order.{key_cmp}
use Rattle.value_model.specs.Plain.{Plain}
use Rattle.guards_views_spec.specs.declared.Weigh.{Weigh}
use Rattle.guards_views_spec.specs.Views.{Weights, weighs, total, with_entry, updated}
use Rattle.derived_views.specs.Accepted.{AcceptedAt, ChangesAccepted}
use Rattle.derived_views.proofs.Scratch.{adds_at_most}
use Rattle.rules_examples.specs.Added.{added, weight_of}

placed : (k : Key) (n : ℕ) (e : Key × ℕ) (es : Weights) (o : Ordering) → total (put key_cmp k n es) ≤ total es + n → total (by_order o ((k, n) ∷ e ∷ es) ((e.0, n) ∷ es) (e ∷ put key_cmp k n es)) ≤ total (e ∷ es) + n
placed k n e es Less h = omega arith
placed k n e es Equal h = omega arith
placed k n e es Greater h = omega arith

put_at_most : (k : Key) (n : ℕ) (es : Weights) → total (put key_cmp k n es) ≤ total es + n
put_at_most k n [] = omega arith
put_at_most k n (e ∷ es) = placed k n e es (key_cmp k e.0) (put_at_most k n es)

kept : (b : Bool) (e : Key × ℕ) (es cs : Weights) → total cs ≤ total es → total (cond b (e ∷ cs) cs) ≤ total (e ∷ es)
kept true e es cs h = omega arith
kept false e es cs h = omega arith

cut_at_most : (k : Key) (es : Weights) → total (where_key key_cmp (λ j. not (eq_by_cmp key_cmp k j)) es) ≤ total es
cut_at_most k [] = omega arith
cut_at_most k (e ∷ es) = kept (not (eq_by_cmp key_cmp k e.0)) e es _ (cut_at_most k es)

entry_at_most : (w : Weigh) (k : Key) (o : Option Plain) (es : Weights) → total (with_entry w (k, o) es) ≤ total es + weight_of o
entry_at_most w k None es = let a = cut_at_most k es in omega arith
entry_at_most w k (Some v) es = let a = put_at_most k (weighs w v) es in let b = adds_at_most w v in omega (arith, a, b)

pub updated_at_most : (w : Weigh) (cs : List (Key × Option Plain)) (es : Weights) → total (updated w cs es) ≤ total es + added cs
updated_at_most w [] es = omega arith
updated_at_most w (c ∷ cs) es =
    let a = entry_at_most w c.0 c.1 es in
    let b = updated_at_most w cs (with_entry w (c.0, c.1) es) in
    omega (arith, a, b)

pub accepted_push : (cs : List (Key × Option Plain)) (c : Key × Option Plain) → ChangesAccepted cs → AcceptedAt c.1 → ChangesAccepted (cs ++ c ∷ [])
accepted_push [] c h a = (a, tt)
accepted_push (d ∷ cs) c h a = (h.0, accepted_push cs c h.1 a)
