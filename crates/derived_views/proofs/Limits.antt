-- The values inside a value within the limits are within them.
use Rattle.std.proofs.Common.{◌≡◌, ℕ, ◌+◌, ◌≤◌, ◌<◌, ◌^◌, Bool, true, false, ◌||◌, cond, Option, Some, None, refl, arith, max, ltb}
use Rattle.std.proofs.lemmas.Bool.{ltb-false, le-ltb}
use Rattle.value_model.specs.declared.key.Key.{Key}
use Rattle.value_model.specs.declared.kind.Kind.{Kind}
use Rattle.value_model.specs.declared.limit.Limit.{Limit}
use Rattle.value_model.specs.declared.limit.Limit.TheVariants as limit
use Rattle.value_model.specs.Limits.{value_limit, has_long_key, any_long_key, has_reserved_key, any_reserved_key, is_long_key, is_reserved_at}
use Rattle.value_model.specs.Plain.{Plain, Entries, node, none, entry, depth, deepest, weight, weights}
use Rattle.derived_views.specs.Accepted.{AllAccepted}

not_past : (b : Bool) (l : Limit) (r : Option Limit) → cond b (Some l) r ≡ None → (b ≡ false) × (r ≡ None)
not_past true l r h = absurd (cc)
not_past false l r h = (refl, h)

-- what a value within the limits meets
pub record Within (v : Plain) : Type 0 where
  pub shallow : depth v ≤ 32
  pub light : weight v ≤ 2 ^ 20
  pub short : has_long_key v ≡ false
  pub free : has_reserved_key v ≡ false

pub within : (v : Plain) → value_limit v ≡ None → Within v
within v h =
    let deep = not_past (ltb 32 (depth v)) _ _ h in
    let heavy = not_past (ltb (2 ^ 20) (weight v)) _ _ deep.1 in
    let long = not_past (has_long_key v) _ _ heavy.1 in
    let reserved = not_past (has_reserved_key v) _ _ long.1 in
    record { shallow = ltb-false _ _ deep.0; light = ltb-false _ _ heavy.0; short = long.0; free = reserved.0 }

pub accepted : (v : Plain) → Within v → value_limit v ≡ None
accepted v w =
    let a : ltb 32 (depth v) ≡ false = le-ltb 32 (depth v) w.shallow in
    let b : ltb (2 ^ 20) (weight v) ≡ false = le-ltb (2 ^ 20) (weight v) w.light in
    let c = w.short in
    let d = w.free in
    rw (a, b, c, d) refl

neither : (a b : Bool) → (a || b) ≡ false → (a ≡ false) × (b ≡ false)
neither true b h = absurd (cc)
neither false b h = (refl, h)

all_within : (kind : Kind) (es : Entries) → deepest es ≤ 31 → weights kind es ≤ 2 ^ 20 → any_long_key es ≡ false → any_reserved_key kind es ≡ false → AllAccepted es
all_within kind none d w l r = tt
all_within kind (entry k v es) d w l r =
    let long = neither (is_long_key k || has_long_key v) (any_long_key es) l in
    let inside = neither (is_long_key k) (has_long_key v) long.0 in
    let reserved = neither (is_reserved_at kind k || has_reserved_key v) (any_reserved_key kind es) r in
    let free = neither (is_reserved_at kind k) (has_reserved_key v) reserved.0 in
    (accepted v (record { shallow = omega arith; light = omega arith; short = inside.1; free = free.1 }), all_within kind es (omega arith) (omega arith) long.1 reserved.1)

pub children_accepted : (kind : Kind) (es : Entries) → value_limit (node kind es) ≡ None → AllAccepted es
children_accepted kind es h =
    let w = within (node kind es) h in
    let d = w.shallow in
    let l = w.light in
    all_within kind es (omega arith) (omega arith) w.short w.free

pub light_entries : (kind : Kind) (es : Entries) → value_limit (node kind es) ≡ None → weights kind es ≤ 2 ^ 20
light_entries kind es h = let l = (within (node kind es) h).light in omega arith
